-- A receiver's lane that talks behind its step talked before it.
use Rattle.std.proofs.Common.{◌≡◌, ℕ, ◌<◌, Bool, true, false, List, [], ◌∷◌, ◌++◌, length, slice_set, subst, sym, ap, ◌∙◌, refl}
use Rattle.std.proofs.lemmas.List.{length-set}
use Rattle.wdt_units.specs.declared.blocks.Block.{Block}
use Rattle.wdt_codec.specs.declared.frames.Frame.{Frame}
use Rattle.wdt_codec.specs.declared.frames.Frame.TheVariants as frames
use Rattle.wdt_sender_fsm.specs.declared.answers.EndAnswer.{EndAnswer}
use Rattle.wdt_sender_fsm.specs.declared.answers.EndAnswer.TheVariants as answers
use Rattle.wdt_sender_fsm.specs.Phases.{over_if}
use Rattle.wdt_receiver_fsm.specs.declared.acts.RecvAct.{RecvAct}
use Rattle.wdt_receiver_fsm.specs.declared.acts.RecvAct.TheVariants as acts
use Rattle.wdt_receiver_fsm.specs.declared.events.RecvEvent.{RecvEvent}
use Rattle.wdt_receiver_fsm.specs.declared.events.RecvEvent.TheVariants as events
use Rattle.wdt_receiver_fsm.specs.declared.inputs.RecvIn.{RecvIn}
use Rattle.wdt_receiver_fsm.specs.declared.inputs.RecvIn.TheVariants as inputs
use Rattle.wdt_receiver_fsm.specs.declared.states.RecvLane.{RecvLane}
use Rattle.wdt_receiver_fsm.specs.declared.states.RecvState.{RecvState}
use Rattle.wdt_receiver_fsm.specs.declared.states.RecvState.TheVariants as states
use Rattle.wdt_receiver_fsm.specs.Outcomes as outcomes
use Rattle.wdt_receiver_fsm.specs.Outcomes.{ComesOf, Outcome, Rested, Left, Warned, Failed, GivenUp, Listened, Linked, Greeted, Listed, ReadOn, Sized, Begun, Taken, Concluded, Told, Waited, Ended, Acknowledged, came_to}
use Rattle.wdt_receiver_fsm.specs.Outcomes.{ByDone, ByWait, ByWaking, OfMemory, OfSender, OfPeer, OfShort, OfMake, OfWrite, OfLog, OfFinish, AtFirst, ByNoLink, ByLoss, ByGreeting, ByChunks, ByMarks, ByLanding, ByLogging, WasFinished, IsFinished, OfKnown, OfNew}
use Rattle.wdt_receiver_fsm.specs.Plan.{EndsIn}
use Rattle.wdt_receiver_fsm.specs.PlainReceiver.{PlainReceiver, failed, goes, has_finish, lane_at, lane_or_ended, noted, past_at, state_at}
use Rattle.wdt_receiver_fsm.specs.ReceiverHistory.{RecvPast, past_from, past_of, past_of-append}
use Rattle.wdt_receiver_fsm.specs.Rows.{is_mute, piece_row, row_of}
use Rattle.wdt_receiver_fsm.specs.Turn.{Bytes, Given, Put, Step, drops_lane, given_up, row_at, turn_plan}
use Rattle.wdt_receiver_fsm.proofs.ForCallers.{end_comes}
use Rattle.wdt_pact.specs.Belongs.{RecvBelongsAt}
use Rattle.wdt_pact.specs.Conversation.{Conversation}
use Rattle.wdt_pact.specs.Finishing.{receives_at}
use Rattle.wdt_pact.specs.Pairs.{RecvHold, RecvDoes, RecvHas}
use Rattle.wdt_pact.specs.Stances.{IsTalking, Stance, recv_stance, stand}
use Rattle.wdt_pact.specs.World.{PlainWorld, number, pair_at}
use Rattle.wdt_pact.proofs.Below.{get_set}
use Rattle.wdt_pact.proofs.RecvFailing.{voice_talks}
use Rattle.wdt_pact.proofs.RecvHands.{Hands, holds_input}
use Rattle.wdt_pact.proofs.RecvSeen.{goes_on, hands_not, rested}

-- how the lane stands behind its step
abbrev pub stands_behind : ℕ → Step → Stance
stands_behind l step = recv_stance (lane_at step.1 l) (past_at step.1 l).is_idle (past_at step.1 l).is_acked (RecvDoes step.0)

module _ (w : PlainWorld) (l : ℕ) (c : Conversation w) (within : l < length w.pairs) (put : Put) (hands : Hands (pair_at w l).recv put)
    (belongs : RecvBelongsAt w l) where
  abbrev Spoke : Step → Type 0
  Spoke step = IsTalking (stands_behind l step) → IsTalking (receives_at w l)

  below : l < length w.receiver.lanes
  below = subst (λ (n : ℕ). l < n) (sym c.recv_lanes) within

  -- ---- it talked

  voiced : is_mute (row_at w.receiver (number l) put) ≡ false → IsTalking (receives_at w l)
  voiced voice = let q = voice_talks w.receiver l (pair_at w l).recv put hands belongs (c.lanes l within).heard_down voice in subst IsTalking (sym q.1) tt

  by_row : (input : RecvIn) (st : RecvState) (sized : Bool) → put ≡ Given input → state_at w.receiver l ≡ st → (lane_at w.receiver l).is_sized ≡ sized
      → is_mute (row_of sized st input) ≡ false → IsTalking (receives_at w l)
  by_row input st sized given here is voice =
      voiced
      (ap (λ (p : Put). is_mute (row_at w.receiver (number l) p)) given ∙ (ap (λ (x : RecvState). is_mute (row_of (lane_at w.receiver l).is_sized x input)) here ∙ (ap (λ (x : Bool). is_mute (row_of x st input)) is ∙ voice)))

  by_piece : (bytes : List ℕ) → put ≡ Bytes bytes → state_at w.receiver l ≡ states.TakeBlock → IsTalking (receives_at w l)
  by_piece bytes given here =
      voiced (ap (λ (p : Put). is_mute (row_at w.receiver (number l) p)) given ∙ ap (λ (x : RecvState). is_mute (piece_row x bytes)) here)

  idled : (t : PlainReceiver) → outcomes.Idles w.receiver (number l) put t → IsTalking (receives_at w l)
  idled t (ByDone serves sized given is) = by_row (inputs.Got frames.Done) states.ReadNextCmd true given serves.here sized refl
  idled t (ByWait serves given is) = by_row inputs.Wrote states.SendWait (lane_at w.receiver l).is_sized given serves.here refl refl
  idled t (ByWaking serves given is) = by_row inputs.Woken states.WaitForFinish (lane_at w.receiver l).is_sized given serves.here refl refl

  linked : state_at w.receiver l ≡ states.Listen → (pair_at w l).recv ≡ RecvHas inputs.Linked → IsTalking (receives_at w l)
  linked here holds =
      subst (λ (h : RecvHold). IsTalking (recv_stance (lane_at w.receiver l) (past_at w.receiver l).is_idle (past_at w.receiver l).is_acked h)) (sym holds)
      (subst (λ (x : RecvState). IsTalking (recv_stance (record (lane_at w.receiver l) { state = x }) (past_at w.receiver l).is_idle (past_at w.receiver l).is_acked (RecvHas inputs.Linked))) (sym here) tt)

  reads_on : (t : PlainReceiver) → outcomes.ReadsOn w.receiver (number l) put t → IsTalking (receives_at w l)
  reads_on t (ByGreeting serves given asks) = by_row inputs.Wrote states.SendLocalCheckpoint (lane_at w.receiver l).is_sized given serves.here refl refl
  reads_on t (ByChunks serves given) = by_row inputs.Wrote states.SendFileChunks (lane_at w.receiver l).is_sized given serves.here refl refl
  reads_on t (ByMarks serves given) = by_row inputs.Wrote states.SendGlobalCheckpoint (lane_at w.receiver l).is_sized given serves.here refl refl
  reads_on t (ByLanding b lands few) = by_piece lands.bytes lands.handed lands.serves.here
  reads_on t (ByLogging b lands full) = by_piece lands.bytes lands.handed lands.serves.here

  begun : (t : PlainReceiver) (b : Block) → outcomes.Begins w.receiver (number l) put t b → IsTalking (receives_at w l)
  begun t b (OfKnown h serves sized given fault old) = by_row (inputs.Got (frames.Block h)) states.ReadNextCmd true given serves.here sized refl
  begun t b (OfNew h serves sized given fault new) = by_row (inputs.Got (frames.Block h)) states.ReadNextCmd true given serves.here sized refl

  concluded : (t : PlainReceiver) → outcomes.Concludes w.receiver (number l) put t → IsTalking (receives_at w l)
  concluded t (WasFinished u idles come) = idled u idles
  concluded t (IsFinished u fin none) = idled u fin.idles

  -- ---- it talks no more

  stance_put : (t : PlainReceiver) (st : RecvState) (act : RecvAct) → l < length t.lanes
      → stands_behind l (act, goes t l st) ≡ recv_stance (record (lane_at t l) { state = st }) (past_at t l).is_idle (past_at t l).is_acked (RecvDoes act)
  stance_put t st act small =
      ap (λ (x : RecvLane). recv_stance x (past_at t l).is_idle (past_at t l).is_acked (RecvDoes act))
      (ap lane_or_ended (get_set t.lanes l (record (lane_at t l) { state = st }) small))

  acked_behind : (t : PlainReceiver) (es : List RecvEvent) → t.history ≡ w.receiver.history ++ es
      → (past_from l (past_at w.receiver l) es).is_acked ≡ (past_at w.receiver l).is_acked → (past_at t l).is_acked ≡ false
  acked_behind t es is same = ap (λ (g : List RecvEvent). (past_of g l).is_acked) is ∙ (ap (λ (p : RecvPast). p.is_acked) (past_of-append w.receiver.history es l) ∙ (same ∙ (goes_on w l c within put hands belongs).1.acked))

  ends_quiet : (t : PlainReceiver) → t.lanes ≡ w.receiver.lanes → (past_at t l).is_acked ≡ false → Spoke (acts.Stop, goes t l states.Ended)
  ends_quiet t many none talks =
      absurd
      (subst IsTalking (stance_put t states.Ended acts.Stop (subst (λ (xs : List RecvLane). l < length xs) (sym many) below) ∙ ap (λ (b : Bool). stand false (over_if b)) none) talks)

  warns_quiet : (t : PlainReceiver) (f : Frame) → l < length t.lanes → Spoke (acts.Write f, goes t l states.SendAbort)
  warns_quiet t f small talks = absurd (subst IsTalking (stance_put t states.SendAbort (acts.Write f) small) talks)

  listens_quiet : (t : PlainReceiver) → l < length t.lanes → Spoke (acts.Accept, goes t l states.Listen)
  listens_quiet t small talks = absurd (subst IsTalking (stance_put t states.Listen acts.Accept small) talks)

  failing : (t : PlainReceiver) (answer : EndAnswer) (mute : Bool) → outcomes.Fails w.receiver (number l) put t answer mute
      → Spoke (came_to w.receiver (number l) (Failed t answer mute))
  failing t answer mute (OfMemory m going given here is) = hands_not w l c within put hands belongs inputs.Starved given refl (λ b. b)
  failing t answer mute (OfSender st code serves reads given) =
      ends_quiet (failed (noted w.receiver (events.Abort (number l) code ∷ [])) (answers.Aborted code)) refl
      (acked_behind (failed (noted w.receiver (events.Abort (number l) code ∷ [])) (answers.Aborted code)) (events.Abort (number l) code ∷ []) refl refl)
  failing t answer mute (OfPeer st kind serves reads mistake) =
      warns_quiet (failed (noted w.receiver (events.Peer (number l) kind ∷ [])) (answers.Peer kind)) (frames.Abort 5) below
  failing t answer mute (OfShort u kind finishes short) = λ talks. idled u finishes.idles
  failing t answer mute (OfMake h serves sized given fault new) = warns_quiet (failed w.receiver answers.Disk) (frames.Abort 3) below
  failing t answer mute (OfWrite bytes b serves given begun) = warns_quiet (failed w.receiver answers.Disk) (frames.Abort 3) below
  failing t answer mute (OfLog b lands full) = λ talks. by_piece lands.bytes lands.handed lands.serves.here
  failing t answer mute (OfFinish u finishes) = λ talks. idled u finishes.idles

  given_so : (t : PlainReceiver) (come : Bool) (es : List RecvEvent) → l < length t.lanes → t.history ≡ w.receiver.history ++ es
      → (past_from l (past_at w.receiver l) es).is_acked ≡ (past_at w.receiver l).is_acked
      → Spoke (acts.Stop, goes (noted t (given_up (number l) come ∷ [])) l states.Ended)
  given_so t come es small is same = go come where
    quiet : (e : RecvEvent) → (past_at (noted t (e ∷ [])) l).is_acked ≡ (past_at t l).is_acked → Spoke (acts.Stop, goes (noted t (e ∷ [])) l states.Ended)
    quiet e still talks =
        absurd
        (subst IsTalking (stance_put (noted t (e ∷ [])) states.Ended acts.Stop small ∙ ap (λ (b : Bool). stand false (over_if b)) (still ∙ acked_behind t es is same)) talks)

    go : (b : Bool) → Spoke (acts.Stop, goes (noted t (given_up (number l) b ∷ [])) l states.Ended)
    go true = quiet (events.Quit (number l)) (ap (λ (p : RecvPast). p.is_acked) (past_of-append t.history (events.Quit (number l) ∷ []) l))
    go false = quiet (events.Close (number l)) (ap (λ (p : RecvPast). p.is_acked) (past_of-append t.history (events.Close (number l) ∷ []) l))

  small_set : (lane : RecvLane) → l < length (slice_set w.receiver.lanes l lane)
  small_set lane = subst (λ (n : ℕ). l < n) (sym (length-set w.receiver.lanes l lane)) below

  wants : (t : PlainReceiver) (come : Bool) → outcomes.Listens w.receiver (number l) put t
      → Spoke (acts.Stop, goes (noted t (given_up (number l) come ∷ [])) l states.Ended)
  wants t come (AtFirst serves given) = hands_not w l c within put hands belongs inputs.Start given refl (λ b. b)
  wants t come (ByNoLink serves given) = given_so (noted w.receiver (events.NoLink (number l) ∷ [])) come (events.NoLink (number l) ∷ []) below refl refl
  wants t come (ByLoss st serves linked given) = given_so (drops_lane w.receiver (number l)) come (events.Dropped (number l) ∷ []) (small_set _) refl refl

  listens : (t : PlainReceiver) → outcomes.Listens w.receiver (number l) put t → Spoke (acts.Accept, goes t l states.Listen)
  listens t (AtFirst serves given) = hands_not w l c within put hands belongs inputs.Start given refl (λ b. b)
  listens t (ByNoLink serves given) = listens_quiet (noted w.receiver (events.NoLink (number l) ∷ [])) below
  listens t (ByLoss st serves linked given) = listens_quiet (drops_lane w.receiver (number l)) (small_set _)

  -- ---- each outcome

  outcome_spoke : (o : Outcome) → ComesOf w.receiver (number l) put o → Spoke (came_to w.receiver (number l) o)
  outcome_spoke Rested of = rested w l c within put hands belongs of
  outcome_spoke Left of = ends_quiet w.receiver refl (goes_on w l c within put hands belongs).1.acked
  outcome_spoke Warned of = λ talks. voiced of.1.voice
  outcome_spoke (Failed t answer mute) of = failing t answer mute of
  outcome_spoke (GivenUp t) of = wants t (has_finish t) of.0
  outcome_spoke (Listened t) of = listens t of.0
  outcome_spoke Linked of = λ talks. linked of.0.here (holds_input (pair_at w l).recv put inputs.Linked hands of.1 refl)
  outcome_spoke (Greeted s) of = λ talks. by_row (inputs.Got (frames.Settings s)) states.ReadSettings (lane_at w.receiver l).is_sized of.1 of.0.here refl refl
  outcome_spoke Listed of = λ talks. by_row inputs.Wrote states.SendLocalCheckpoint (lane_at w.receiver l).is_sized of.1 of.0.here refl refl
  outcome_spoke (ReadOn t) of = λ talks. reads_on t of
  outcome_spoke (Sized files bytes) of = λ talks. by_row (inputs.Got (frames.Size files bytes)) states.ReadNextCmd false of.2 of.0.here of.1 refl
  outcome_spoke (Begun t b) of = λ talks. begun t b of
  outcome_spoke (Taken left) of = λ talks. by_piece of.bytes of.handed of.serves.here
  outcome_spoke (Concluded t) of = λ talks. concluded t of
  outcome_spoke (Told t q qs) of = λ talks. idled t of.idles
  outcome_spoke (Waited t again) of = λ talks. idled t of.0.idles
  outcome_spoke Ended of = λ talks. by_row inputs.Wrote states.SendDone (lane_at w.receiver l).is_sized of.1 of.0.here refl refl
  outcome_spoke Acknowledged of = λ talks. by_row (inputs.Got frames.Done) states.ReadAck (lane_at w.receiver l).is_sized of.1 of.0.here refl refl

  pub turn_spoke : (step : Step) → EndsIn (Unit {0}) (turn_plan w.receiver (number l) put) step → Spoke step
  turn_spoke step ends = let x = end_comes w.receiver (number l) put (Unit {0}) step ends in subst Spoke (sym x.is) (outcome_spoke x.outcome x.of)
