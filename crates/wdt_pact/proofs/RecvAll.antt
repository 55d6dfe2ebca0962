-- Whatever the receiver's lane hands in, how the ends of each lane fit together stays, and what the lane holds then
-- belongs to its state.
use Rattle.std.proofs.Common.{◌≡◌, ℕ, ◌-◌, ◌<◌, Bool, true, false, List, [], ◌∷◌, length, is_some, Option, subst, sym, ap, ◌∙◌, refl}
use Rattle.std.proofs.lemmas.Bool.{both_ways}
use Rattle.std.proofs.lemmas.List.{length-set}
use Rattle.wdt_units.specs.declared.blocks.Block.{Block}
use Rattle.wdt_codec.specs.declared.frames.Frame.{Frame}
use Rattle.wdt_codec.specs.declared.frames.Frame.TheVariants as frames
use Rattle.wdt_sender_fsm.specs.declared.answers.EndAnswer.{EndAnswer}
use Rattle.wdt_sender_fsm.specs.declared.answers.EndAnswer.TheVariants as answers
use Rattle.wdt_sender_fsm.specs.declared.events.SendEvent.{SendEvent}
use Rattle.wdt_sender_fsm.specs.declared.peers.PeerKind.{PeerKind}
use Rattle.wdt_sender_fsm.specs.Legal.{IsLegal, IsSound}
use Rattle.wdt_sender_fsm.specs.Phases.{Phase}
use Rattle.wdt_sender_fsm.specs.Rules.{is_failure}
use Rattle.wdt_sender_fsm.specs.SenderHistory.{past_of as sent_past}
use Rattle.wdt_receiver_fsm.specs.declared.acts.RecvAct.TheVariants as recv_acts
use Rattle.wdt_receiver_fsm.specs.declared.events.RecvEvent.TheVariants as recv_events
use Rattle.wdt_receiver_fsm.specs.declared.inputs.RecvIn.{RecvIn}
use Rattle.wdt_receiver_fsm.specs.declared.inputs.RecvIn.TheVariants as recv_inputs
use Rattle.wdt_receiver_fsm.specs.declared.states.RecvState.{RecvState}
use Rattle.wdt_receiver_fsm.specs.declared.states.RecvState.TheVariants as recv_states
use Rattle.wdt_receiver_fsm.specs.Logging.{all_logged}
use Rattle.wdt_receiver_fsm.specs.Outcomes as outcomes
use Rattle.wdt_receiver_fsm.specs.Outcomes.{Comes, ComesOf, Outcome, Rested, Left, Warned, Failed, GivenUp, Listened, Linked, Greeted, Listed, ReadOn, Sized, Begun, Taken, Concluded, Told, Waited, Ended, Acknowledged, came_to, is_linked, landed_by}
use Rattle.wdt_receiver_fsm.specs.Outcomes.{WasOver, WasStray, WasSettled, WasNoBlock, WasMute, WasTold, ByDone, ByWait, ByWaking, NoFrame, NoPlace, WrongSettings, OtherSize, WrongBlock}
use Rattle.wdt_receiver_fsm.specs.Outcomes.{OfMemory, OfSender, OfPeer, OfShort, OfMake, OfWrite, OfLog, OfFinish, AtFirst, ByNoLink, ByLoss, ByGreeting, ByChunks, ByMarks, ByLanding, ByLogging, WasFinished, IsFinished, OfKnown, OfNew}
use Rattle.wdt_receiver_fsm.specs.Plan.{EndsIn}
use Rattle.wdt_receiver_fsm.specs.PlainReceiver.{PlainReceiver, can_finish, failed, has_finish, is_ended, lane_at, noted, past_at, state_at}
use Rattle.wdt_receiver_fsm.specs.Ready.{is_ready}
use Rattle.wdt_receiver_fsm.specs.Receiver.{HasLeft}
use Rattle.wdt_receiver_fsm.specs.ReceiverHistory.{end_of}
use Rattle.wdt_receiver_fsm.specs.Rows.{is_mute, is_reading, is_stray, piece_row, row_of}
use Rattle.wdt_receiver_fsm.specs.Turn.{Bytes, Given, Put, Step, idles_lane, rests, row_at, says_done, tells_failure, turn_plan}
use Rattle.wdt_receiver_fsm.specs.Writes.{CanTell, FitsPut}
use Rattle.wdt_receiver_fsm.proofs.ForCallers.{end_comes}
use Rattle.wdt_pact.specs.Belongs.{RecvBelongs, RecvBelongsAt, receives_writing}
use Rattle.wdt_pact.specs.Pairs.{RecvHold, RecvDoes, RecvHas, RecvTook}
use Rattle.wdt_pact.specs.World.{PlainWorld, number, pair_at, recv_turned, some_bytes}
use Rattle.wdt_pact.specs.Stances.{Talks}
use Rattle.wdt_pact.specs.Conversation.{Conversation, receives, receiving}
use Rattle.wdt_pact.specs.Finishing.{Finishing}
use Rattle.wdt_pact.proofs.RecvBegins.{begins_known, begins_new}
use Rattle.wdt_pact.proofs.RecvBlocks.{landed_keeps, logged_keeps, taken_keeps, unlogged_keeps}
use Rattle.wdt_pact.proofs.RecvFailing.{Without, given_up_keeps, hands_lives, leaves_keeps, listens_keeps, unfinished_keeps, voice_talks, warned_keeps, without_link, without_lost}
use Rattle.wdt_pact.proofs.RecvFinishes.{finish_keeps}
use Rattle.wdt_pact.proofs.RecvHands.{Hands, is_woken, holds_input, holds_piece}
use Rattle.wdt_pact.proofs.RecvIdle.{IdlePoint, idle_point, says_keeps, told_keeps, waited_keeps}
use Rattle.wdt_pact.proofs.RecvOwn.{Own, own_failed, own_logged, own_noted, own_self}
use Rattle.wdt_pact.proofs.RecvRows.{recv_fares}
use Rattle.wdt_pact.proofs.RecvSteps.{acknowledged_keeps, chunks_keeps, concluded_keeps, counted_keeps, greeted_keeps, linked_keeps, listed_keeps, marked_keeps, sized_keeps}

-- ---- what a lane holds has its row

stray_wrote : (sized : Bool) (st : RecvState) → receives_writing st ≡ true → is_stray (row_of sized st recv_inputs.Wrote) ≡ false
stray_wrote sized recv_states.Listen e = cc
stray_wrote sized recv_states.ReadSettings e = cc
stray_wrote sized recv_states.ReadNextCmd e = cc
stray_wrote sized recv_states.TakeBlock e = cc
stray_wrote sized recv_states.WaitForFinish e = cc
stray_wrote sized recv_states.ReadAck e = cc
stray_wrote sized recv_states.Ended e = cc
stray_wrote sized st e = refl

stray_command : (sized : Bool) (f : Frame) → is_stray (row_of sized recv_states.ReadNextCmd (recv_inputs.Got f)) ≡ false
stray_command true (frames.Abort code) = refl
stray_command false (frames.Abort code) = refl
stray_command true (frames.Block h) = refl
stray_command true frames.Done = refl
stray_command false (frames.Size files bytes) = refl
stray_command true f = refl
stray_command false f = refl

stray_got : (sized : Bool) (st : RecvState) (f : Frame) → is_reading st ≡ true → is_stray (row_of sized st (recv_inputs.Got f)) ≡ false
stray_got sized recv_states.ReadSettings (frames.Abort code) e = refl
stray_got sized recv_states.ReadSettings (frames.Settings s) e = refl
stray_got sized recv_states.ReadSettings f e = refl
stray_got sized recv_states.ReadNextCmd f e = stray_command sized f
stray_got sized recv_states.ReadAck (frames.Abort code) e = refl
stray_got sized recv_states.ReadAck frames.Done e = refl
stray_got sized recv_states.ReadAck f e = refl
stray_got sized st f e = cc

stray_lost : (sized : Bool) (st : RecvState) → is_linked st ≡ true → is_stray (row_of sized st recv_inputs.Lost) ≡ false
stray_lost sized recv_states.Listen e = cc
stray_lost sized recv_states.Ended e = cc
stray_lost sized st e = refl

pub no_stray : (r : PlainReceiver) (l : ℕ) (held : RecvHold) (put : Put) → Hands held put → RecvBelongs held (lane_at r l) (past_at r l) → is_stray (row_at r (number l) put) ≡ false
no_stray r l (RecvHas recv_inputs.Wrote) put h b = subst (λ (p : Put). is_stray (row_at r (number l) p) ≡ false) (sym h) (stray_wrote (lane_at r l).is_sized (state_at r l) b)
no_stray r l (RecvHas (recv_inputs.Got f)) put h b = subst (λ (p : Put). is_stray (row_at r (number l) p) ≡ false) (sym h) (stray_got (lane_at r l).is_sized (state_at r l) f b)
no_stray r l (RecvHas recv_inputs.Linked) put h b = subst (λ (p : Put). is_stray (row_at r (number l) p) ≡ false) (sym h) (ap (λ (x : RecvState). is_stray (row_of (lane_at r l).is_sized x recv_inputs.Linked)) b)
no_stray r l (RecvHas recv_inputs.NoLink) put h b = subst (λ (p : Put). is_stray (row_at r (number l) p) ≡ false) (sym h) (ap (λ (x : RecvState). is_stray (row_of (lane_at r l).is_sized x recv_inputs.NoLink)) b)
no_stray r l (RecvHas recv_inputs.Lost) put h b = subst (λ (p : Put). is_stray (row_at r (number l) p) ≡ false) (sym h) (stray_lost (lane_at r l).is_sized (state_at r l) b)
no_stray r l (RecvHas i) put h b = absurd b
no_stray r l (RecvTook n) put h b = subst (λ (p : Put). is_stray (row_at r (number l) p) ≡ false) (sym h) (ap (λ (x : RecvState). is_stray (piece_row x (some_bytes n))) b)
no_stray r l (RecvDoes recv_acts.Park) put h b = subst (λ (p : Put). is_stray (row_at r (number l) p) ≡ false) (sym h) (ap (λ (x : RecvState). is_stray (row_of (lane_at r l).is_sized x recv_inputs.Woken)) b)
no_stray r l (RecvDoes act) put h b = absurd h

-- ---- each outcome

module _ (sounds : (n : ℕ) (planned : List Block) (h : List SendEvent) (l : ℕ) → IsLegal n planned h → IsSound (sent_past h l)) (w : PlainWorld) (l : ℕ) (c : Conversation w) (f : Finishing w) (within : l < length w.pairs) (tells : CanTell w.receiver) (put : Put) (fits : FitsPut put) (hands : Hands (pair_at w l).recv put) (belongs : RecvBelongsAt w l) where
  abbrev r : PlainReceiver
  r = w.receiver

  abbrev Ends : Step → Type 0
  Ends step = EndsIn (Unit {0}) (turn_plan w.receiver (number l) put) step

  abbrev Keeps : Step → Type 0
  Keeps step = Conversation (recv_turned w l step)

  at_put : (given : Put) (step : Step) → put ≡ given → Ends step → EndsIn (Unit {0}) (turn_plan w.receiver (number l) given) step
  at_put given step is ends = subst (λ (p : Put). EndsIn (Unit {0}) (turn_plan w.receiver (number l) p) step) is ends

  has : (input : RecvIn) → put ≡ Given input → is_woken input ≡ false → (pair_at w l).recv ≡ RecvHas input
  has input is n = holds_input (pair_at w l).recv put input hands is n

  -- an input that no world hands in
  hands_not : {P : Type 0} (input : RecvIn) → put ≡ Given input → is_woken input ≡ false → (RecvBelongs (RecvHas input) (lane_at w.receiver l) (past_at w.receiver l) → ⊥) → P
  hands_not {P} input is n none = absurd (none (subst (λ (h : RecvHold). RecvBelongs h (lane_at w.receiver l) (past_at w.receiver l)) (has input is n) belongs))

  lives : is_ended (state_at w.receiver l) ≡ false
  lives = hands_lives (pair_at w l).recv put (lane_at w.receiver l) (past_at w.receiver l) hands belongs

  talks : is_mute (row_at w.receiver (number l) put) ≡ false → (q : Phase) × (receives (receiving w.receiver l) (pair_at w l) ≡ Talks q)
  talks voice = voice_talks w.receiver l (pair_at w l).recv put hands belongs (c.lanes l within).heard_down voice

  frame_voice : (g : Frame) (st : RecvState) (sized : Bool) → put ≡ Given (recv_inputs.Got g) → state_at w.receiver l ≡ st → (lane_at w.receiver l).is_sized ≡ sized → is_mute (row_of sized st (recv_inputs.Got g)) ≡ false → is_mute (row_at w.receiver (number l) put) ≡ false
  frame_voice g st sized given here is voice =
      ap (λ (p : Put). is_mute (row_at w.receiver (number l) p)) given
      ∙ (ap (λ (x : RecvState). is_mute (row_of (lane_at w.receiver l).is_sized x (recv_inputs.Got g))) here
      ∙ (ap (λ (x : Bool). is_mute (row_of x st (recv_inputs.Got g))) is ∙ voice))

  own : Own w.receiver w.receiver l w.receiver.known (lane_at w.receiver l) (past_at w.receiver l)
  own = own_self w.receiver l

  -- the end fails with an entry that says so
  own_peer : (kind : PeerKind) (answer : EndAnswer) → Own w.receiver (failed (noted w.receiver (recv_events.Peer (number l) kind ∷ [])) answer) l w.receiver.known (lane_at w.receiver l) (past_at w.receiver l)
  own_peer kind answer =
      own_failed w.receiver (noted w.receiver (recv_events.Peer (number l) kind ∷ [])) l w.receiver.known (lane_at w.receiver l) (past_at w.receiver l) answer
      (own_noted w.receiver w.receiver l w.receiver.known (lane_at w.receiver l) (past_at w.receiver l) (recv_events.Peer (number l) kind ∷ []) (past_at w.receiver l) refl refl own)

  own_abort : (code : ℕ) (answer : EndAnswer) → Own w.receiver (failed (noted w.receiver (recv_events.Abort (number l) code ∷ [])) answer) l w.receiver.known (lane_at w.receiver l) (past_at w.receiver l)
  own_abort code answer =
      own_failed w.receiver (noted w.receiver (recv_events.Abort (number l) code ∷ [])) l w.receiver.known (lane_at w.receiver l) (past_at w.receiver l) answer
      (own_noted w.receiver w.receiver l w.receiver.known (lane_at w.receiver l) (past_at w.receiver l) (recv_events.Abort (number l) code ∷ []) (past_at w.receiver l) refl refl own)

  rested : outcomes.Rests w.receiver (number l) put → Keeps (rests w.receiver)
  rested (WasOver here) = absurd (both_ways (is_ended (state_at w.receiver l)) lives (ap is_ended here))
  rested (WasStray sound stray) = absurd (both_ways (is_stray (row_at w.receiver (number l) put)) (no_stray w.receiver l (pair_at w l).recv put hands belongs) stray)
  rested (WasSettled sound here given answer) = hands_not recv_inputs.Starved given refl (λ b. b)
  rested (WasNoBlock bytes serves given none) = absurd (subst (λ (o : Option Block). HasLeft o (lane_at w.receiver l).left) none (recv_fares w l recv_states.TakeBlock c within serves.here).1)

  mistaken : (st : RecvState) (kind : PeerKind) → state_at w.receiver l ≡ st → outcomes.Mistakes w.receiver (number l) st put kind → Ends (tells_failure (failed (noted w.receiver (recv_events.Peer (number l) kind ∷ [])) (answers.Peer kind)) (number l)) → Keeps (tells_failure (failed (noted w.receiver (recv_events.Peer (number l) kind ∷ [])) (answers.Peer kind)) (number l))
  mistaken st kind here m ends = go m where
    told : is_mute (row_at w.receiver (number l) put) ≡ false → Keeps (tells_failure (failed (noted w.receiver (recv_events.Peer (number l) kind ∷ [])) (answers.Peer kind)) (number l))
    told voice = let q = talks voice in warned_keeps w l c within tells put fits hands belongs (failed (noted w.receiver (recv_events.Peer (number l) kind ∷ [])) (answers.Peer kind)) q.0 (own_peer kind (answers.Peer kind)) q.1 ends

    go : outcomes.Mistakes w.receiver (number l) st put kind → Keeps (tells_failure (failed (noted w.receiver (recv_events.Peer (number l) kind ∷ [])) (answers.Peer kind)) (number l))
    go (NoFrame at given is) = hands_not (recv_inputs.Bad at) given refl (λ b. b)
    go (NoPlace g command given row is) = told (frame_voice g st (lane_at w.receiver l).is_sized given here refl (ap is_mute row))
    go (WrongSettings s field given at fault is) = told (frame_voice (frames.Settings s) recv_states.ReadSettings (lane_at w.receiver l).is_sized given (here ∙ at) refl refl)
    go (OtherSize files bytes given at first fault) = told (frame_voice (frames.Size files bytes) recv_states.ReadNextCmd false given (here ∙ at) first refl)
    go (WrongBlock h given at sized fault) = told (frame_voice (frames.Block h) recv_states.ReadNextCmd true given (here ∙ at) sized refl)

  point : (t : PlainReceiver) → outcomes.Idles w.receiver (number l) put t → IdlePoint w l t
  point t idles = idle_point w l c within put t hands belongs idles

  -- what was taken with the last piece
  piece : (b : Block) → outcomes.Lands w.receiver (number l) put b → (n : ℕ) × ((pair_at w l).recv ≡ RecvTook n) × (put ≡ Bytes (some_bytes n)) × ((lane_at w.receiver l).left - length (some_bytes n) ≡ 0)
  piece b lands =
      let x = holds_piece (pair_at w l).recv put lands.bytes hands lands.handed in
      (x.0, x.1, lands.handed ∙ ap Bytes x.2, sym (ap (λ (bs : List ℕ). (lane_at w.receiver l).left - length bs) x.2) ∙ lands.last)

  failing : (t : PlainReceiver) (answer : EndAnswer) (mute : Bool) → outcomes.Fails w.receiver (number l) put t answer mute → Ends (came_to w.receiver (number l) (Failed t answer mute)) → Keeps (came_to w.receiver (number l) (Failed t answer mute))
  failing t answer mute (OfMemory m going given here is) ends = hands_not recv_inputs.Starved given refl (λ b. b)
  failing t answer mute (OfSender st code serves reads given) ends =
      leaves_keeps w l c within tells put fits hands belongs (failed (noted w.receiver (recv_events.Abort (number l) code ∷ [])) (answers.Aborted code)) (own_abort code (answers.Aborted code)) ends
  failing t answer mute (OfPeer st kind serves reads mistake) ends = mistaken st kind serves.here mistake ends
  failing t answer mute (OfShort u kind finishes short) ends =
      let at = point u finishes.idles in
      let logged = own_logged w.receiver u l w.receiver.known at.lane at.past at.own in
      unfinished_keeps w l c within tells put fits hands belongs u (failed (noted (record (all_logged u) { history = w.receiver.history }) (recv_events.Peer (number l) kind ∷ [])) (answers.Peer kind)) (past_at w.receiver l) at
      (own_failed w.receiver (noted (record (all_logged u) { history = w.receiver.history }) (recv_events.Peer (number l) kind ∷ [])) l w.receiver.known at.lane (past_at w.receiver l) (answers.Peer kind)
      (own_noted w.receiver (record (all_logged u) { history = w.receiver.history }) l w.receiver.known at.lane (past_at w.receiver l) (recv_events.Peer (number l) kind ∷ []) (past_at w.receiver l) refl refl
      record { many = logged.many; known = logged.known; lane = logged.lane; past = refl; finish = refl }))
      refl refl refl ends
  failing t answer mute (OfMake h serves sized given fault new) ends =
      let q = talks (frame_voice (frames.Block h) recv_states.ReadNextCmd true given serves.here sized refl) in
      warned_keeps w l c within tells put fits hands belongs (failed w.receiver answers.Disk) q.0 (own_failed w.receiver w.receiver l w.receiver.known (lane_at w.receiver l) (past_at w.receiver l) answers.Disk own) q.1 ends
  failing t answer mute (OfWrite bytes b serves given begun) ends =
      let q = talks (ap (λ (p : Put). is_mute (row_at w.receiver (number l) p)) given ∙ ap (λ (x : RecvState). is_mute (piece_row x bytes)) serves.here) in
      warned_keeps w l c within tells put fits hands belongs (failed w.receiver answers.Disk) q.0 (own_failed w.receiver w.receiver l w.receiver.known (lane_at w.receiver l) (past_at w.receiver l) answers.Disk own) q.1 ends
  failing t answer mute (OfLog b lands full) ends =
      let x = piece b lands in
      unlogged_keeps w l c within tells x.0 b (at_put (Bytes (some_bytes x.0)) _ x.2 ends) lands.serves.here x.1 lands.begun x.3
  failing t answer mute (OfFinish u finishes) ends =
      let at = point u finishes.idles in
      unfinished_keeps w l c within tells put fits hands belongs u (failed u answers.Disk) at.past at (own_failed w.receiver u l w.receiver.known at.lane at.past answers.Disk at.own) at.landed at.begun at.closed ends

  wants : (t : PlainReceiver) → outcomes.Listens w.receiver (number l) put t → Without w l c within tells put fits hands belongs t
  wants t (AtFirst serves given) = hands_not recv_inputs.Start given refl (λ b. b)
  wants t (ByNoLink serves given) = without_link w l c within tells put fits hands belongs serves.here
  wants t (ByLoss st serves linked given) = without_lost w l c within tells put fits hands belongs

  reads_on : (t : PlainReceiver) → outcomes.ReadsOn w.receiver (number l) put t → Ends (came_to w.receiver (number l) (ReadOn t)) → Keeps (came_to w.receiver (number l) (ReadOn t))
  reads_on t (ByGreeting serves given asks) ends = counted_keeps w l c within tells (at_put (Given recv_inputs.Wrote) _ given ends) serves.here (has recv_inputs.Wrote given refl) asks
  reads_on t (ByChunks serves given) ends = chunks_keeps w l c within tells (at_put (Given recv_inputs.Wrote) _ given ends) serves.here (has recv_inputs.Wrote given refl)
  reads_on t (ByMarks serves given) ends = marked_keeps w l c within tells (at_put (Given recv_inputs.Wrote) _ given ends) serves.here (has recv_inputs.Wrote given refl)
  reads_on t (ByLanding b lands few) ends = let x = piece b lands in landed_keeps w l c within tells x.0 b (at_put (Bytes (some_bytes x.0)) _ x.2 ends) lands.serves.here x.1 lands.begun x.3
  reads_on t (ByLogging b lands full) ends = let x = piece b lands in logged_keeps w l c within tells x.0 b (at_put (Bytes (some_bytes x.0)) _ x.2 ends) lands.serves.here x.1 lands.begun x.3

  begun : (t : PlainReceiver) (b : Block) → outcomes.Begins w.receiver (number l) put t b → Ends (came_to w.receiver (number l) (Begun t b)) → Keeps (came_to w.receiver (number l) (Begun t b))
  begun t b (OfKnown h serves sized given fault old) ends = begins_known w l c within h serves.here sized (has (recv_inputs.Got (frames.Block h)) given refl) fault old (at_put (Given (recv_inputs.Got (frames.Block h))) _ given ends)
  begun t b (OfNew h serves sized given fault new) ends = begins_new w l c within h serves.here sized (has (recv_inputs.Got (frames.Block h)) given refl) new (at_put (Given (recv_inputs.Got (frames.Block h))) _ given ends)

  -- a finish that was ready has come: so only a lane that becomes idle brings it
  waited_not : {P : Type 0} (u : PlainReceiver) → IdlePoint w l u → is_failure w.receiver.answer ≡ false → has_finish u ≡ false → can_finish w.receiver ≡ true → P
  waited_not u at sound first ready = absurd (both_ways (has_finish w.receiver) (sym at.own.finish ∙ first) (f.ready sound ready))

  finishes : (u : PlainReceiver) → outcomes.Idles w.receiver (number l) put u → has_finish u ≡ false → can_finish u ≡ true → Ends (says_done (noted (all_logged u) (recv_events.Finish ∷ [])) (number l)) → Keeps (says_done (noted (all_logged u) (recv_events.Finish ∷ [])) (number l))
  finishes u (ByDone serves sized given is) first ready ends =
      subst (λ (x : PlainReceiver). Keeps (says_done (noted (all_logged x) (recv_events.Finish ∷ [])) (number l))) (sym is)
      (finish_keeps sounds w l c f within serves.here sized (has (recv_inputs.Got frames.Done) given refl) serves.sound
      (ap (λ (n : ℕ). is_ready n (idles_lane w.receiver (number l)).history) (sym (length-set w.receiver.lanes l _)) ∙ (ap can_finish (sym is) ∙ ready))
      (at_put (Given (recv_inputs.Got frames.Done)) _ given (subst (λ (x : PlainReceiver). Ends (says_done (noted (all_logged x) (recv_events.Finish ∷ [])) (number l))) is ends)))
  finishes u (ByWait serves given is) first ready ends =
      waited_not u (point u (ByWait serves given is)) serves.sound first (ap (λ (n : ℕ). is_ready n w.receiver.history) (sym (length-set w.receiver.lanes l _)) ∙ (ap can_finish (sym is) ∙ ready))
  finishes u (ByWaking serves given is) first ready ends = waited_not u (point u (ByWaking serves given is)) serves.sound first (ap can_finish (sym is) ∙ ready)

  concludes : (t : PlainReceiver) → outcomes.Concludes w.receiver (number l) put t → Ends (says_done t (number l)) → Keeps (says_done t (number l))
  concludes t (WasFinished u idles come) ends = let at = point u idles in says_keeps w l c within tells put fits u at (sym at.own.finish ∙ come) ends
  concludes t (IsFinished u fin none) ends = finishes u fin.idles fin.first fin.ready ends

  -- whatever the step comes to
  pub outcome_keeps : (o : Outcome) → ComesOf w.receiver (number l) put o → Ends (came_to w.receiver (number l) o) → Keeps (came_to w.receiver (number l) o)
  outcome_keeps Rested of ends = rested of
  outcome_keeps Left of ends = leaves_keeps w l c within tells put fits hands belongs w.receiver own ends
  outcome_keeps Warned of ends = let q = talks of.1.voice in warned_keeps w l c within tells put fits hands belongs w.receiver q.0 own q.1 ends
  outcome_keeps (Failed t answer mute) of ends = failing t answer mute of ends
  outcome_keeps (GivenUp t) of ends = given_up_keeps w l c within tells put fits hands belongs t (has_finish t) (wants t of.0) ends
  outcome_keeps (Listened t) of ends = listens_keeps w l c within tells put fits hands belongs t (wants t of.0) ends
  outcome_keeps Linked of ends = linked_keeps w l c within tells (at_put (Given recv_inputs.Linked) _ of.1 ends) of.0.here (has recv_inputs.Linked of.1 refl)
  outcome_keeps (Greeted s) of ends = greeted_keeps w l c within tells s (has_finish w.receiver) refl (subst FitsPut of.1 fits) (at_put (Given (recv_inputs.Got (frames.Settings s))) _ of.1 ends) of.0.here (has (recv_inputs.Got (frames.Settings s)) of.1 refl)
  outcome_keeps Listed of ends = listed_keeps w l c within tells (at_put (Given recv_inputs.Wrote) _ of.1 ends) of.0.here (has recv_inputs.Wrote of.1 refl) of.2
  outcome_keeps (ReadOn t) of ends = reads_on t of ends
  outcome_keeps (Sized files bytes) of ends =
      sized_keeps w l c within tells files bytes (is_some (end_of w.receiver.history).sized) (subst FitsPut of.2 fits) (at_put (Given (recv_inputs.Got (frames.Size files bytes))) _ of.2 ends) of.0.here (has (recv_inputs.Got (frames.Size files bytes)) of.2 refl) of.1
  outcome_keeps (Begun t b) of ends = begun t b of ends
  outcome_keeps (Taken left) of ends =
      let x = holds_piece (pair_at w l).recv put of.bytes hands of.handed in
      taken_keeps w l c within tells x.0 left (at_put (Bytes (some_bytes x.0)) _ (of.handed ∙ ap Bytes x.2) ends) of.serves.here x.1 (sym (ap (λ (bs : List ℕ). (lane_at w.receiver l).left - length bs) x.2) ∙ of.rest) of.more
  outcome_keeps (Concluded t) of ends = concludes t of ends
  outcome_keeps (Told t q qs) of ends = told_keeps w l c within tells put fits t (point t of.idles) q qs of.told ends
  outcome_keeps (Waited t again) of ends = waited_keeps w l c within tells put fits t (point t of.0.idles) again ends
  outcome_keeps Ended of ends = concluded_keeps w l c within tells (at_put (Given recv_inputs.Wrote) _ of.1 ends) of.0.here (has recv_inputs.Wrote of.1 refl)
  outcome_keeps Acknowledged of ends = acknowledged_keeps w l c within tells (at_put (Given (recv_inputs.Got frames.Done)) _ of.1 ends) of.0.here (has (recv_inputs.Got frames.Done) of.1 refl)

  pub turn_all : (step : Step) → Ends step → Keeps step
  turn_all step ends =
      let x = end_comes w.receiver (number l) put (Unit {0}) step ends in
      subst Keeps (sym x.is) (outcome_keeps x.outcome x.of (subst Ends x.is ends))
