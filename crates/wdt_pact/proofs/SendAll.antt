-- Whatever the sender's lane hands in, how the ends of each lane fit together stays.
use Rattle.std.proofs.Common.{◌≡◌, ℕ, ◌<◌, Bool, true, false, List, [], ◌∷◌, length, is_some, Option, Some, None, subst, sym, ap, ◌∙◌, refl, append-nil}
use Rattle.std.proofs.lemmas.Bool.{both_ways}
use Rattle.wdt_units.specs.declared.numbers.Lane.{Lane}
use Rattle.wdt_codec.specs.declared.frames.Frame.{Frame}
use Rattle.wdt_codec.specs.declared.frames.Frame.TheVariants as frames
use Rattle.wdt_sender_fsm.specs.declared.answers.EndAnswer.{EndAnswer}
use Rattle.wdt_sender_fsm.specs.declared.answers.EndAnswer.TheVariants as answers
use Rattle.wdt_sender_fsm.specs.declared.events.SendEvent.{SendEvent}
use Rattle.wdt_sender_fsm.specs.declared.events.SendEvent.TheVariants as events
use Rattle.wdt_sender_fsm.specs.declared.inputs.SendIn.{SendIn}
use Rattle.wdt_sender_fsm.specs.declared.inputs.SendIn.TheVariants as inputs
use Rattle.wdt_sender_fsm.specs.declared.peers.PeerKind.{PeerKind}
use Rattle.wdt_sender_fsm.specs.declared.states.SendLane.{SendLane}
use Rattle.wdt_sender_fsm.specs.declared.states.SendState.{SendState}
use Rattle.wdt_sender_fsm.specs.declared.states.SendState.TheVariants as states
use Rattle.wdt_sender_fsm.specs.Faults.{is_unexpected}
use Rattle.wdt_sender_fsm.specs.Outcomes.{Outcome, Rested, Waited, Left, Warned, Failed, GivenUp, Redialed, Introduced, Presented, Greeted, Listed, Planned, Claimed, Emptied, Concluded, Finished, Acknowledged, came_to}
use Rattle.wdt_sender_fsm.specs.PlainSender.{PlainSender, failed, is_closed, is_ended, lane_at, noted, past_at, state_at, waiting_blocks}
use Rattle.wdt_sender_fsm.specs.Reasons as reasons
use Rattle.wdt_sender_fsm.specs.Reasons.{Comes, ComesOf, WasOver, WasStray, WasSettled, WasClosed, WasMute, WasTold, NoFrame, NoPlace, WrongCount, WrongMarks, WrongOrder, OtherList, TooEarly}
use Rattle.wdt_sender_fsm.specs.Reasons.{OfMemory, OfReceiver, OfSource, OfPlan, OfPeer, AtFirst, ByNoLink, ByLoss, BySize, ByBlock, ByMarks, Behind, AtOnce}
use Rattle.wdt_sender_fsm.specs.Rows.{Row, is_allowed, is_mute, is_reading, row_of}
use Rattle.wdt_sender_fsm.specs.Rows as rows
use Rattle.wdt_sender_fsm.specs.Rules.{is_failure}
use Rattle.wdt_sender_fsm.specs.Sender.{Fares, FitsIn, IsSender}
use Rattle.wdt_sender_fsm.specs.SenderHistory.{end_of}
use Rattle.wdt_sender_fsm.specs.Turn.{Step, globals, send_turn}
use Rattle.wdt_pact.specs.Belongs.{SendBelongs, sends_linked, sends_writing}
use Rattle.wdt_pact.specs.Pairs.{SendHold, SendHas}
use Rattle.wdt_pact.specs.World.{PlainWorld, number, pair_at, send_steps, send_steps_by, send_turned}
use Rattle.wdt_pact.specs.Stances.{has_link, send_stance}
use Rattle.wdt_pact.specs.Conversation.{Conversation, HeardUp, common}
use Rattle.wdt_pact.proofs.Failing.{MayTell, source_keeps}
use Rattle.wdt_pact.proofs.Greeting.{greeting_keeps}
use Rattle.wdt_pact.proofs.Losing.{lost_keeps}
use Rattle.wdt_pact.proofs.Promised.{SenderKeeps}
use Rattle.wdt_pact.proofs.Rows.{done_keeps, fares_in}
use Rattle.wdt_pact.proofs.SendFrees.{IsFree, claims_keeps, empties_keeps}
use Rattle.wdt_pact.proofs.SendMoves.{has_lives, voice_may}
use Rattle.wdt_pact.proofs.SendPoints.{ends_at_once, ends_behind, free_block, free_marks, free_size}
use Rattle.wdt_pact.proofs.SendSteps.{acknowledged_keeps, lane_acked, leaves_keeps, listed_keeps, planned_keeps, quits_keeps, redials_keeps, tells_keeps}
use Rattle.wdt_pact.proofs.Sending.{linked_keeps, settings_keeps, wait_keeps}

-- ---- what a lane holds has its row

allowed_wrote : (st : SendState) → sends_writing st ≡ true → is_allowed st inputs.Wrote ≡ true
allowed_wrote states.Connect e = cc
allowed_wrote states.ReadLocalCheckpoint e = cc
allowed_wrote states.ReadFileChunks e = cc
allowed_wrote states.ReadReceiverCmd e = cc
allowed_wrote states.Ended e = cc
allowed_wrote st e = refl

allowed_got : (st : SendState) (f : Frame) → is_reading st ≡ true → is_allowed st (inputs.Got f) ≡ true
allowed_got states.ReadLocalCheckpoint (frames.Abort code) e = refl
allowed_got states.ReadLocalCheckpoint (frames.Greeting m) e = refl
allowed_got states.ReadLocalCheckpoint frames.Done e = refl
allowed_got states.ReadLocalCheckpoint f e = refl
allowed_got states.ReadFileChunks (frames.Abort code) e = refl
allowed_got states.ReadFileChunks (frames.Chunks have) e = refl
allowed_got states.ReadFileChunks f e = refl
allowed_got states.ReadReceiverCmd (frames.Abort code) e = refl
allowed_got states.ReadReceiverCmd frames.Wait e = refl
allowed_got states.ReadReceiverCmd (frames.ErrMarks ms) e = refl
allowed_got states.ReadReceiverCmd frames.Done e = refl
allowed_got states.ReadReceiverCmd f e = refl
allowed_got st f e = cc

allowed_lost : (st : SendState) → sends_linked st ≡ true → is_allowed st inputs.Lost ≡ true
allowed_lost states.Connect e = cc
allowed_lost states.Ended e = cc
allowed_lost st e = refl

pub has_row : (input : SendIn) (lane : SendLane) → SendBelongs (SendHas input) lane → is_allowed lane.state input ≡ true
has_row inputs.Wrote lane b = allowed_wrote lane.state b
has_row (inputs.Got f) lane b = allowed_got lane.state f b
has_row inputs.Linked lane b = ap (λ (x : SendState). is_allowed x inputs.Linked) b
has_row inputs.NoLink lane b = ap (λ (x : SendState). is_allowed x inputs.NoLink) b
has_row inputs.Lost lane b = allowed_lost lane.state b
has_row (inputs.SourceLost u) lane b = ap (λ (x : SendState). is_allowed x (inputs.SourceLost u)) b
has_row input lane b = absurd b

-- behind a frame that may not come the end can tell its failure
voice_row : (n l : ℕ) (known : Bool) (row : Row) → is_unexpected n l known row ≡ true → is_mute row ≡ false
voice_row n l known (rows.Unexpected state command) e = refl
voice_row n l known (rows.Greeted m) e = refl
voice_row n l known rows.DoneAtOnce e = refl
voice_row n l known (rows.Marked ms) e = refl
voice_row n l known row e = cc

voice_done : (st : SendState) → is_reading st ≡ true → is_mute (row_of st (inputs.Got frames.Done)) ≡ false
voice_done states.ReadLocalCheckpoint e = refl
voice_done states.ReadFileChunks e = refl
voice_done states.ReadReceiverCmd e = refl
voice_done st e = cc

link_of : (st : SendState) → sends_linked st ≡ true → (st ≡ states.SendAbort → ⊥) → has_link st ≡ true
link_of states.Connect e n = cc
link_of states.Ended e n = cc
link_of states.SendAbort e n = absurd (n refl)
link_of st e n = refl

none_of : {A : Type 0} (o : Option A) → is_some o ≡ false → o ≡ None
none_of None e = refl
none_of (Some x) e = cc

-- ---- each outcome

module _ (keeps : SenderKeeps) (comes : (s : PlainSender) (k : Lane) (i : SendIn) → Comes s k i (send_turn s k i)) (w : PlainWorld) (l : ℕ) (lost : Option ℕ) (input : SendIn) (c : Conversation w) (empty : (common w.receiver).finish ≡ true → waiting_blocks w.sender ≡ []) (within : l < length w.pairs) (holds : (pair_at w l).send ≡ SendHas input) (fits : FitsIn input) (belongs : SendBelongs (SendHas input) (lane_at w.sender l)) where
  abbrev Kept : Type 0
  Kept = Conversation (send_steps w l lost)

  below : l < length w.sender.lanes
  below = subst (λ (n : ℕ). l < n) (sym c.send_lanes) within

  lives : is_ended (state_at w.sender l) ≡ false
  lives = has_lives input (lane_at w.sender l) belongs

  -- an input that no world hands in
  hands_not : {P : Type 0} (i : SendIn) → input ≡ i → (SendBelongs (SendHas i) (lane_at w.sender l) → ⊥) → P
  hands_not {P} i is none = absurd (none (subst (λ (x : SendIn). SendBelongs (SendHas x) (lane_at w.sender l)) is belongs))

  has : (i : SendIn) → input ≡ i → (pair_at w l).send ≡ SendHas i
  has i is = holds ∙ ap SendHas is

  turned_so : (step : Step) → send_turn w.sender (number l) input ≡ step → Conversation (send_turned w l input step) → Kept
  turned_so step is x = subst (λ (h : SendHold). Conversation (send_steps_by w l lost h)) (sym holds) (subst (λ (y : Step). Conversation (send_turned w l input y)) (sym is) x)

  stays_sender : (step : Step) → send_turn w.sender (number l) input ≡ step → IsSender step.1
  stays_sender step is = subst (λ (y : Step). IsSender y.1) is (keeps w.sender (number l) input c.sender below fits)

  opens : is_closed w.sender l ≡ false → (past_at w.sender l).claims.closed ≡ None
  opens e = none_of (past_at w.sender l).claims.closed e

  may : is_mute (row_of (state_at w.sender l) input) ≡ false → MayTell (send_stance (lane_at w.sender l) (past_at w.sender l).is_acked (SendHas input))
  may voice = voice_may input (lane_at w.sender l) (past_at w.sender l).is_acked belongs (subst (λ (h : SendHold). HeardUp h (lane_at w.sender l)) holds (c.lanes l within).heard_up) voice

  voice_at : (i : SendIn) (st : SendState) → input ≡ i → state_at w.sender l ≡ st → is_mute (row_of st i) ≡ false → is_mute (row_of (state_at w.sender l) input) ≡ false
  voice_at i st given here voice = ap (λ (x : SendIn). is_mute (row_of (state_at w.sender l) x)) given ∙ (ap (λ (x : SendState). is_mute (row_of x i)) here ∙ voice)

  rested : reasons.Rests w.sender (number l) input → Kept
  rested (WasOver here) = absurd (both_ways (is_ended (state_at w.sender l)) lives (ap is_ended here))
  rested (WasStray st serves stray) = absurd (both_ways (is_allowed st input) stray (ap (λ (x : SendState). is_allowed x input) (sym serves.here) ∙ has_row input (lane_at w.sender l) belongs))
  rested (WasSettled st serves up given answer) = hands_not inputs.Starved given (λ b. b)

  mistaken : (st : SendState) (kind : PeerKind) → state_at w.sender l ≡ st → is_reading st ≡ true → reasons.Mistakes w.sender (number l) st input kind → is_mute (row_of (state_at w.sender l) input) ≡ false
  mistaken st kind here reads (NoFrame at given is) = hands_not (inputs.Bad at) given (λ b. b)
  mistaken st kind here reads (NoPlace f given unexpected is) = ap (λ (x : SendState). is_mute (row_of x input)) here ∙ voice_row (length w.sender.lanes) l (is_some w.sender.have) (row_of st input) unexpected
  mistaken st kind here reads (WrongCount m given at same fault) = voice_at (inputs.Got (frames.Greeting m)) states.ReadLocalCheckpoint given (here ∙ at) refl
  mistaken st kind here reads (WrongMarks ms given at strangers fault) = voice_at (inputs.Got (frames.ErrMarks ms)) states.ReadReceiverCmd given (here ∙ at) refl
  mistaken st kind here reads (WrongOrder have at given is fault kinds) = voice_at (inputs.Got (frames.Chunks have)) states.ReadFileChunks given (here ∙ is) refl
  mistaken st kind here reads (OtherList have first at given is ordered listed fault kinds) = voice_at (inputs.Got (frames.Chunks have)) states.ReadFileChunks given (here ∙ is) refl
  mistaken st kind here reads (TooEarly given known early kinds) = voice_at (inputs.Got frames.Done) st given here (voice_done st reads)

  failing : (answer : EndAnswer) (mute : Bool) → reasons.Fails w.sender (number l) input answer mute → send_turn w.sender (number l) input ≡ came_to w.sender (number l) (Failed answer mute) → Kept
  failing answer mute (OfMemory m going given here is) turn = hands_not inputs.Starved given (λ b. b)
  failing answer mute (OfReceiver st code serves reads given) turn =
      leaves_keeps keeps w l lost input c within holds fits belongs (events.Abort (number l) code ∷ []) (failed (noted w.sender (events.Abort (number l) code ∷ [])) (answers.Aborted code)) refl refl refl (λ k q. refl) turn
  failing answer mute (OfSource unwritten serves given) turn =
      source_keeps keeps w l lost unwritten c within serves.here (opens serves.is_open) (lane_acked w l c within lives) serves.sound (has (inputs.SourceLost unwritten) given)
  failing answer mute (OfPlan kind serves refuses) turn =
      tells_keeps keeps w l lost input c within holds fits belongs [] (failed w.sender (answers.Refused kind)) refl refl (sym (append-nil w.sender.history)) (λ k q. refl) (may (voice_at (inputs.Got (frames.Chunks refuses.have)) states.ReadFileChunks refuses.read refuses.here refl)) turn
  failing answer mute (OfPeer st kind serves reads mistake) turn =
      tells_keeps keeps w l lost input c within holds fits belongs (events.Peer (number l) kind ∷ []) (failed (noted w.sender (events.Peer (number l) kind ∷ [])) (answers.Peer kind)) refl refl refl (λ k q. refl) (may (mistaken st kind serves.here reads mistake)) turn

  -- a lane that tells of a failure stands on a failed end
  not_abort : (st : SendState) → is_closed w.sender l ≡ false → is_failure w.sender.answer ≡ false → state_at w.sender l ≡ st → st ≡ states.SendAbort → ⊥
  not_abort st opened sound here is =
      let fares : Fares (is_failure w.sender.answer) states.SendAbort (lane_at w.sender l).ask (past_at w.sender l) (end_of w.sender.history) = fares_in w l states.SendAbort c within (here ∙ is) (opens opened) in
      both_ways (is_failure w.sender.answer) sound fares.failed

  loses : (st : SendState) → reasons.Serves w.sender (number l) st → input ≡ inputs.Lost → Kept
  loses st serves given =
      lost_keeps keeps w l lost st c within
      (link_of st (ap sends_linked (sym serves.here) ∙ subst (λ (x : SendIn). SendBelongs (SendHas x) (lane_at w.sender l)) given belongs) (not_abort st serves.is_open serves.sound serves.here))
      serves.here (opens serves.is_open) serves.sound (has inputs.Lost given)

  gives_up : (es : List SendEvent) → reasons.Dials w.sender (number l) input es → send_turn w.sender (number l) input ≡ came_to w.sender (number l) (GivenUp es) → Kept
  gives_up es (AtFirst serves given) turn = hands_not inputs.Start given (λ b. b)
  gives_up es (ByNoLink serves given) turn = quits_keeps keeps w l lost c within serves.here (has inputs.NoLink given) (ap (send_turn w.sender (number l)) (sym given) ∙ turn)
  gives_up es (ByLoss st serves allowed given) turn = loses st serves given

  dials : (es : List SendEvent) → reasons.Dials w.sender (number l) input es → send_turn w.sender (number l) input ≡ came_to w.sender (number l) (Redialed es) → Kept
  dials es (AtFirst serves given) turn = hands_not inputs.Start given (λ b. b)
  dials es (ByNoLink serves given) turn = redials_keeps keeps w l lost c within serves.here (has inputs.NoLink given) (ap (send_turn w.sender (number l)) (sym given) ∙ turn)
  dials es (ByLoss st serves allowed given) turn = loses st serves given

  free : (es : List SendEvent) → reasons.Frees w.sender (number l) input es → IsFree w l input es
  free es (BySize serves given) = subst (λ (i : SendIn). IsFree w l i []) (sym given) (free_size w l c within (opens serves.is_open) serves.here (has inputs.Wrote given))
  free es (ByBlock serves given) = subst (λ (i : SendIn). IsFree w l i (events.Sent (number l) ∷ [])) (sym given) (free_block w l c within (opens serves.is_open) serves.here (has inputs.Wrote given))
  free es (ByMarks ms serves given strangers fault) = subst (λ (i : SendIn). IsFree w l i (globals (number l) ms)) (sym given) (free_marks w l c within ms (opens serves.is_open) serves.here (has (inputs.Got (frames.ErrMarks ms)) given))

  -- as the input is that one
  given_so : (i : SendIn) (step : Step) → input ≡ i → send_turn w.sender (number l) input ≡ step → send_turn w.sender (number l) i ≡ step
  given_so i step given turn = ap (send_turn w.sender (number l)) (sym given) ∙ turn

  ends : reasons.Ends w.sender (number l) → input ≡ inputs.Got frames.Done → send_turn w.sender (number l) input ≡ came_to w.sender (number l) Finished → Kept
  ends (Behind serves) given turn =
      turned_so (came_to w.sender (number l) Finished) turn
      (subst (λ (i : SendIn). Conversation (send_turned w l i (came_to w.sender (number l) Finished))) (sym given) (ends_behind w l c within (stays_sender (came_to w.sender (number l) Finished) turn) serves.here (has (inputs.Got frames.Done) given)))
  ends (AtOnce serves known) given turn =
      turned_so (came_to w.sender (number l) Finished) turn
      (subst (λ (i : SendIn). Conversation (send_turned w l i (came_to w.sender (number l) Finished))) (sym given) (ends_at_once w l c within (stays_sender (came_to w.sender (number l) Finished) turn) serves.here (has (inputs.Got frames.Done) given)))

  outcome_keeps : (o : Outcome) → ComesOf w.sender (number l) input o → send_turn w.sender (number l) input ≡ came_to w.sender (number l) o → Kept
  outcome_keeps Rested of turn = rested of
  outcome_keeps Waited of turn = wait_keeps keeps w l lost c within of.0.here (opens of.0.is_open) of.0.sound (has (inputs.Got frames.Wait) of.1)
  outcome_keeps Left of turn = leaves_keeps keeps w l lost input c within holds fits belongs [] w.sender refl refl (sym (append-nil w.sender.history)) (λ k q. refl) turn
  outcome_keeps Warned of turn = tells_keeps keeps w l lost input c within holds fits belongs [] w.sender refl refl (sym (append-nil w.sender.history)) (λ k q. refl) (may of.1.voice) turn
  outcome_keeps (Failed answer mute) of turn = failing answer mute of turn
  outcome_keeps (GivenUp es) of turn = gives_up es of.0 turn
  outcome_keeps (Redialed es) of turn = dials es of.0 turn
  outcome_keeps Introduced of turn = linked_keeps keeps w l lost c within of.0.here (opens of.0.is_open) of.0.sound (has inputs.Linked of.1)
  outcome_keeps Presented of turn = settings_keeps keeps w l lost c within of.0.here (opens of.0.is_open) of.0.sound (has inputs.Wrote of.1)
  outcome_keeps (Greeted count) of turn =
      greeting_keeps keeps w l lost record { lane = number l; count = count } c within of.0.here (opens of.0.is_open) of.0.sound (has (inputs.Got (frames.Greeting record { lane = number l; count = count })) of.1) (subst FitsIn of.1 fits)
  outcome_keeps Listed of turn = listed_keeps keeps w l lost c within of.0 (subst FitsIn of.1.read fits) of.1.serves.here (has (inputs.Got (frames.Chunks of.0)) of.1.read) (given_so (inputs.Got (frames.Chunks of.0)) _ of.1.read turn)
  outcome_keeps (Planned have) of turn = planned_keeps keeps w l lost c within have (subst FitsIn of.0.read fits) of.0.serves.here (has (inputs.Got (frames.Chunks have)) of.0.read) (given_so (inputs.Got (frames.Chunks have)) _ of.0.read turn)
  outcome_keeps (Claimed es b) of turn =
      turned_so (came_to w.sender (number l) (Claimed es b)) turn (claims_keeps w l input c within es (free es of.0) empty b of.1 (stays_sender (came_to w.sender (number l) (Claimed es b)) turn))
  outcome_keeps (Emptied es) of turn =
      turned_so (came_to w.sender (number l) (Emptied es)) turn (empties_keeps w l input c within es (free es of.0) empty (stays_sender (came_to w.sender (number l) (Emptied es)) turn))
  outcome_keeps Concluded of turn = done_keeps keeps w l lost c within of.0.here (opens of.0.is_open) of.0.sound (has inputs.Wrote of.1)
  outcome_keeps Finished of turn = ends of.0 of.1 turn
  outcome_keeps Acknowledged of turn = acknowledged_keeps keeps w l lost c within of.0.here (has inputs.Wrote of.1) (given_so inputs.Wrote _ of.1 turn)

  pub turn_all : Kept
  turn_all = let x = comes w.sender (number l) input in outcome_keeps x.outcome x.of x.is
