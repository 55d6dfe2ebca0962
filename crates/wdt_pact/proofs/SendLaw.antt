-- A step of the sender's lane, whatever it holds.
use Rattle.std.proofs.Common.{◌≡◌, ℕ, zero, suc, ◌<◌, ◌||◌, ◌&&◌, not, nat_le, Bool, true, false, List, [], ◌∷◌, ◌++◌, length, take, is_some, Option, Some, None, subst, sym, ap, ◌∙◌, refl}
use Rattle.std.proofs.lemmas.Bool.{both_ways}
use Rattle.std.proofs.lemmas.List.{length-set}
use Rattle.wdt_units.specs.declared.blocks.Header.{Header}
use Rattle.wdt_units.specs.declared.numbers.Lane.{Lane}
use Rattle.wdt_codec.specs.Frames.{Fits}
use Rattle.wdt_codec.specs.declared.frames.Frame.{Frame}
use Rattle.wdt_codec.specs.declared.frames.Frame.TheVariants as frames
use Rattle.wdt_sender_fsm.specs.declared.acts.SendAct.{SendAct}
use Rattle.wdt_sender_fsm.specs.declared.acts.SendAct.TheVariants as acts
use Rattle.wdt_sender_fsm.specs.declared.answers.EndAnswer.{EndAnswer}
use Rattle.wdt_sender_fsm.specs.declared.answers.EndAnswer.TheVariants as answers
use Rattle.wdt_sender_fsm.specs.declared.events.SendEvent.TheVariants as events
use Rattle.wdt_sender_fsm.specs.declared.inputs.SendIn.{SendIn}
use Rattle.wdt_sender_fsm.specs.declared.inputs.SendIn.TheVariants as inputs
use Rattle.wdt_sender_fsm.specs.declared.states.SendLane.{SendLane}
use Rattle.wdt_sender_fsm.specs.declared.states.SendState.{SendState}
use Rattle.wdt_sender_fsm.specs.declared.states.SendState.TheVariants as states
use Rattle.wdt_sender_fsm.specs.Outcomes.{Outcome, Rested, Waited, Left, Warned, Failed, GivenUp, Redialed, Introduced, Presented, Greeted, Listed, Planned, Claimed, Emptied, Concluded, Finished, Acknowledged, came_to}
use Rattle.wdt_sender_fsm.specs.PlainSender.{PlainSender, failed, goes, is_ended, lane_at, lane_or_ended, noted, past_at, size_of_tree, state_at, waiting_blocks, with_lane}
use Rattle.wdt_sender_fsm.specs.Phases.{Framed, Message, pieces_in, written_by}
use Rattle.wdt_sender_fsm.specs.Reasons as reasons
use Rattle.wdt_sender_fsm.specs.Reasons.{Comes, ComesOf, WasOver, WasStray, WasSettled, OfMemory, OfReceiver, OfSource, OfPlan, OfPeer}
use Rattle.wdt_sender_fsm.specs.Rows.{is_allowed, is_reading}
use Rattle.wdt_sender_fsm.specs.Sender.{FitsIn}
use Rattle.wdt_sender_fsm.specs.Touches.{Touches}
use Rattle.wdt_sender_fsm.specs.Turn.{Step, greeted_by, next_conn, send_turn, with_plan}
use Rattle.wdt_pact.specs.Belongs.{SendBelongs, SendBelongsAt, SendFrameIn, sends_linked, sends_writing}
use Rattle.wdt_pact.specs.Links.{Link, Way, front, is_cut, size_up}
use Rattle.wdt_pact.specs.Pairs.{Pair, SendHold, SendDoes, SendHas, recv_stops, send_dials, send_does, send_loses, send_reads, send_reads_by, send_sends, send_takes, send_writes, top, wrote_or_lost}
use Rattle.wdt_pact.specs.World.{PlainWorld, number, pair_at, send_steps, send_steps_by, send_turned, with_pair}
use Rattle.wdt_pact.specs.Conversation.{Conversation, common, upward_by}
use Rattle.wdt_pact.specs.Each.{Each}
use Rattle.wdt_pact.proofs.Below.{get_set, if_has}
use Rattle.wdt_pact.proofs.Blocks.{block_keeps}
use Rattle.wdt_pact.proofs.Frame.{each_pair, pair_keeps}
use Rattle.wdt_pact.proofs.Hearing.{send_read_keeps}
use Rattle.wdt_pact.proofs.Promised.{SenderKeeps}
use Rattle.wdt_pact.proofs.SendActs.{answer_keeps, dial_keeps}
use Rattle.wdt_pact.proofs.SendAll.{has_row, turn_all}
use Rattle.wdt_pact.proofs.SendMoves.{has_lives}
use Rattle.wdt_pact.proofs.Writing.{abort_write_keeps, done_write_keeps, settings_write_keeps, size_write_keeps}

-- ---- how the ends fit together

module _ (keeps : SenderKeeps) (comes : (s : PlainSender) (k : Lane) (i : SendIn) → Comes s k i (send_turn s k i)) (w : PlainWorld) (l : ℕ) (lost : Option ℕ) (c : Conversation w) (empty : (common w.receiver).finish ≡ true → waiting_blocks w.sender ≡ []) (within : l < length w.pairs) (belongs : SendBelongsAt w l) where
  has : (h : SendHold) → (pair_at w l).send ≡ h → SendBelongs h (lane_at w.sender l)
  has h is = subst (λ (x : SendHold). SendBelongs x (lane_at w.sender l)) is belongs

  -- a frame is written in the state in which it is
  writes : (st : SendState) (frame : Frame) → state_at w.sender l ≡ st → SendFrameIn (lane_at w.sender l) st frame → (pair_at w l).send ≡ SendDoes (acts.Write frame) → Conversation (send_steps w l lost)
  writes states.SendSettings (frames.Settings s) here f is = settings_write_keeps w l lost s c within here is f
  writes states.SendSize (frames.Size files bytes) here f is = size_write_keeps w l lost files bytes c within here is
  writes states.SendDone frames.Done here f is = done_write_keeps w l lost c within here is
  writes states.AnswerDone frames.Done here f is = answer_keeps w l lost c within here is
  writes states.SendAbort (frames.Abort code) here f is = abort_write_keeps w l lost code c within here is
  writes st frame here f is = absurd f

  -- what was read lies in the grammar's ranges
  pub fits : (input : SendIn) → (pair_at w l).send ≡ SendHas input → FitsIn input
  fits input is = of input (subst (λ (x : SendHold). Each Fits (upward_by (pair_at w l).newest (pair_at w l).taken x (pair_at w l).recv)) is (c.lanes l within).fits) where
    of : (i : SendIn) → Each Fits (upward_by (pair_at w l).newest (pair_at w l).taken (SendHas i) (pair_at w l).recv) → FitsIn i
    of (inputs.Got frame) e = e.0
    of i e = tt

  pub send_keeps : Conversation (send_steps w l lost)
  send_keeps = go (pair_at w l).send refl where
    go : (h : SendHold) → (pair_at w l).send ≡ h → Conversation (send_steps w l lost)
    go (SendDoes (acts.Dial conn)) is = dial_keeps w l conn.0 lost c within (has (SendDoes (acts.Dial conn)) is) is
    go (SendDoes (acts.Write frame)) is = writes (state_at w.sender l) frame refl (has (SendDoes (acts.Write frame)) is) is
    go (SendDoes (acts.SendBlock h)) is = block_keeps w l lost h c within (has (SendDoes (acts.SendBlock h)) is) is
    go (SendDoes acts.Read) is = send_read_keeps w l lost c within (has (SendDoes acts.Read) is) is
    go (SendDoes acts.Stop) is = subst (λ (x : SendHold). Conversation (send_steps_by w l lost x)) (sym is) (pair_keeps w l (pair_at w l) c within (c.lanes l within))
    go (SendHas input) is = turn_all keeps comes w l lost input c empty within is (fits input is) (has (SendHas input) is)

-- ---- what it holds

writes_linked : (st : SendState) → sends_writing st ≡ true → sends_linked st ≡ true
writes_linked states.Connect e = cc
writes_linked states.Ended e = cc
writes_linked st e = refl

reads_linked : (st : SendState) → is_reading st ≡ true → sends_linked st ≡ true
reads_linked states.Connect e = cc
reads_linked states.Ended e = cc
reads_linked st e = refl

pub frame_writing : (lane : SendLane) (st : SendState) (frame : Frame) → SendFrameIn lane st frame → sends_writing st ≡ true
frame_writing lane states.SendSettings (frames.Settings s) f = refl
frame_writing lane states.SendSize (frames.Size files bytes) f = refl
frame_writing lane states.SendDone frames.Done f = refl
frame_writing lane states.AnswerDone frames.Done f = refl
frame_writing lane states.SendAbort (frames.Abort code) f = refl
frame_writing lane st frame f = absurd f

module _ (lane : SendLane) where
  abbrev Has : Pair → Type 0
  Has p = SendBelongs p.send lane

  wrote_belongs : (b : Bool) → sends_writing lane.state ≡ true → SendBelongs (SendHas (wrote_or_lost b)) lane
  wrote_belongs true e = e
  wrote_belongs false e = writes_linked lane.state e

  writes_belongs : (p : Pair) (ms : List Message) (k : Option Link) → Has p → sends_writing lane.state ≡ true → Has (send_writes p ms k)
  writes_belongs p ms None b e = b
  writes_belongs p ms (Some k) b e = wrote_belongs (not (is_cut k.down) && not (recv_stops p.recv)) e

  loses_belongs : (p : Pair) (k : Option Link) (ms : List Message) (unwritten : Bool) → Has p → lane.state ≡ states.SendBlocks → Has (send_loses p k ms unwritten)
  loses_belongs p None ms unwritten b e = b
  loses_belongs p (Some k) ms unwritten b e = e

  sends_belongs : (p : Pair) (h : Header) (lost : Option ℕ) → Has p → lane.state ≡ states.SendBlocks → Has (send_sends p h lost)
  sends_belongs p h None b e = writes_belongs p (written_by (acts.SendBlock h)) (top p) b (ap sends_writing e)
  sends_belongs p h (Some zero) b e = if_has Has (nat_le (pieces_in h.length) 0) (send_writes p (written_by (acts.SendBlock h)) (top p)) (send_loses p (top p) [] true) (writes_belongs p (written_by (acts.SendBlock h)) (top p) b (ap sends_writing e)) (loses_belongs p (top p) [] true b e)
  sends_belongs p h (Some (suc k)) b e = if_has Has (nat_le (pieces_in h.length) (suc k)) (send_writes p (written_by (acts.SendBlock h)) (top p)) (send_loses p (top p) (take (suc (suc k)) (written_by (acts.SendBlock h))) false) (writes_belongs p (written_by (acts.SendBlock h)) (top p) b (ap sends_writing e)) (loses_belongs p (top p) (take (suc (suc k)) (written_by (acts.SendBlock h))) false b e)

  reads_belongs : (p : Pair) (k : Option Link) → Has p → is_reading lane.state ≡ true → Has (send_reads p k)
  reads_belongs p None b e = b
  reads_belongs p (Some k) b e = go (front size_up k.up) where
    go : (o : Option (Frame × Way Frame)) → Has (send_reads_by p k o)
    go (Some x) = e
    go None = if_has Has (is_cut k.up || recv_stops p.recv) (record p { send = SendHas inputs.Lost }) p (reads_linked lane.state e) b

  dials_belongs : (p : Pair) (n : ℕ) (stopped : Bool) → lane.state ≡ states.Connect → Has (send_dials p n stopped)
  dials_belongs p (suc n) stopped e = e
  dials_belongs p zero true e = e
  dials_belongs p zero false e = e

  does_belong : (p : Pair) (lost : Option ℕ) (act : SendAct) → Has p → SendBelongs (SendDoes act) lane → Has (send_does p lost act)
  does_belong p lost (acts.Dial conn) b e = dials_belongs p p.denies (recv_stops p.recv) e
  does_belong p lost (acts.Write frame) b e = writes_belongs p (Framed frame ∷ []) (top p) b (frame_writing lane lane.state frame e)
  does_belong p lost (acts.SendBlock h) b e = sends_belongs p h lost b e
  does_belong p lost acts.Read b e = reads_belongs p (top p) b e
  does_belong p lost acts.Stop b e = b

-- ---- behind a turn

pub put_is : (t : PlainSender) (l : ℕ) (lane : SendLane) → l < length t.lanes → lane_at (with_lane t (number l) lane) l ≡ lane
put_is t l lane within = ap lane_or_ended (get_set t.lanes l lane within)

module _ (comes : (s : PlainSender) (k : Lane) (i : SendIn) → Comes s k i (send_turn s k i)) (touches : (s : PlainSender) (k : Lane) (i : SendIn) → Touches s k i (send_turn s k i).1) (w : PlainWorld) (l : ℕ) (input : SendIn) (c : Conversation w) (within : l < length w.pairs) (belongs : SendBelongs (SendHas input) (lane_at w.sender l)) where
  below : l < length w.sender.lanes
  below = subst (λ (n : ℕ). l < n) (sym c.send_lanes) within

  abbrev Own : Step → Type 0
  Own step = SendBelongs (SendDoes step.0) (lane_at step.1 l)

  goes_own : (t : PlainSender) (st : SendState) (act : SendAct) → l < length t.lanes → SendBelongs (SendDoes act) record { state = st; ask = (lane_at t l).ask } → Own (act, goes t (number l) st)
  goes_own t st act small b = subst (λ (x : SendLane). SendBelongs (SendDoes act) x) (sym (put_is t l record { state = st; ask = (lane_at t l).ask } small)) b

  hands_not : {P : Type 0} (i : SendIn) → input ≡ i → (SendBelongs (SendHas i) (lane_at w.sender l) → ⊥) → P
  hands_not {P} i is none = absurd (none (subst (λ (x : SendIn). SendBelongs (SendHas x) (lane_at w.sender l)) is belongs))

  rested : {P : Type 0} → reasons.Rests w.sender (number l) input → P
  rested (WasOver here) = absurd (both_ways (is_ended (state_at w.sender l)) (has_lives input (lane_at w.sender l) belongs) (ap is_ended here))
  rested (WasStray st serves stray) = absurd (both_ways (is_allowed st input) stray (ap (λ (x : SendState). is_allowed x input) (sym serves.here) ∙ has_row input (lane_at w.sender l) belongs))
  rested (WasSettled st serves up given answer) = hands_not inputs.Starved given (λ b. b)

  failing : (answer : EndAnswer) (mute : Bool) → reasons.Fails w.sender (number l) input answer mute → Own (came_to w.sender (number l) (Failed answer mute))
  failing answer mute (OfMemory m going given here is) = hands_not inputs.Starved given (λ b. b)
  failing answer mute (OfReceiver st code serves reads given) = goes_own (failed (noted w.sender (events.Abort (number l) code ∷ [])) (answers.Aborted code)) states.Ended acts.Stop below refl
  failing answer mute (OfSource true serves given) = goes_own (failed w.sender answers.Source) states.SendAbort (acts.Write (frames.Abort 2)) below tt
  failing answer mute (OfSource false serves given) = goes_own (failed w.sender answers.Source) states.Ended acts.Stop below refl
  failing answer mute (OfPlan kind serves refuses) = goes_own (failed w.sender (answers.Refused kind)) states.SendAbort (acts.Write (frames.Abort 7)) below tt
  failing answer mute (OfPeer st kind serves reads mistake) = goes_own (failed (noted w.sender (events.Peer (number l) kind ∷ [])) (answers.Peer kind)) states.SendAbort (acts.Write (frames.Abort 5)) below tt

  greeted : (t : PlainSender) (b : Bool) → l < length t.lanes → Own (greeted_by t (number l) b)
  greeted t true small = goes_own t states.ReadFileChunks acts.Read small refl
  greeted t false small = goes_own t states.SendSize (acts.Write (size_of_tree (goes t (number l) states.SendSize))) small tt

  outcome_belongs : (o : Outcome) → ComesOf w.sender (number l) input o → Own (came_to w.sender (number l) o)
  outcome_belongs Rested of = rested of
  outcome_belongs Waited of = ap is_reading of.0.here
  outcome_belongs Left of = goes_own w.sender states.Ended acts.Stop below refl
  outcome_belongs Warned of = goes_own w.sender states.SendAbort (acts.Write (frames.Abort _)) below tt
  outcome_belongs (Failed answer mute) of = failing answer mute of
  outcome_belongs (GivenUp es) of = goes_own (noted w.sender (es ++ events.Quit (number l) ∷ [])) states.Ended acts.Stop below refl
  outcome_belongs (Redialed es) of = goes_own (noted w.sender es) states.Connect (acts.Dial (next_conn (noted w.sender es) (number l))) below refl
  outcome_belongs Introduced of =
      subst (λ (x : SendLane). SendBelongs (SendDoes (came_to w.sender (number l) Introduced).0) x) (sym (put_is (noted w.sender (events.Linked (number l) (next_conn w.sender (number l)) ∷ [])) l record { state = states.SendSettings; ask = not (is_some w.sender.have) } below)) refl
  outcome_belongs Presented of = goes_own w.sender states.ReadLocalCheckpoint acts.Read below refl
  outcome_belongs (Greeted count) of = greeted (noted w.sender (events.Greet (number l) count ∷ [])) (lane_at w.sender l).ask below
  outcome_belongs Listed of = goes_own (noted w.sender (events.Chunks (number l) ∷ [])) states.SendSize (came_to w.sender (number l) Listed).0 below tt
  outcome_belongs (Planned have) of = goes_own (noted (with_plan w.sender have) (events.Chunks (number l) ∷ [])) states.SendSize (came_to w.sender (number l) (Planned have)).0 below tt
  outcome_belongs (Claimed es b) of = goes_own (noted w.sender (es ++ events.Claim (number l) b ∷ [])) states.SendBlocks (came_to w.sender (number l) (Claimed es b)).0 below refl
  outcome_belongs (Emptied es) of = goes_own (noted w.sender es) states.SendDone (acts.Write frames.Done) below tt
  outcome_belongs Concluded of = goes_own (noted w.sender (events.Done (number l) ∷ [])) states.ReadReceiverCmd acts.Read below refl
  outcome_belongs Finished of = goes_own (noted w.sender (events.Finish (number l) ∷ [])) states.AnswerDone (acts.Write frames.Done) below tt
  outcome_belongs Acknowledged of = goes_own (noted w.sender (events.Acked (number l) ∷ [])) states.Ended acts.Stop below refl

  abbrev step : Step
  step = send_turn w.sender (number l) input

  pub own_belongs : Own step
  own_belongs = let x = comes w.sender (number l) input in subst Own (sym x.is) (outcome_belongs x.outcome x.of)

  pub turn_belongs : ((k : ℕ) → k < length w.pairs → SendBelongsAt w k) → (k : ℕ) → k < length (send_turned w l input step).pairs → SendBelongsAt (send_turned w l input step) k
  turn_belongs all k small =
      each_pair (λ (i : ℕ) (p : Pair). SendBelongs p.send (lane_at step.1 i)) w.pairs l (send_takes (pair_at w l) input (past_at step.1 l).is_greeted step.0) within own_belongs
      (λ i b ne. subst (λ (x : SendLane). SendBelongs (pair_at w i).send x) (sym ((touches w.sender (number l) input).others i ne)) (all i b)) k
      (subst (λ (n : ℕ). k < n) (length-set w.pairs l (send_takes (pair_at w l) input (past_at step.1 l).is_greeted step.0)) small)

-- ---- a step

-- what each sender's lane of a world holds belongs to its state
abbrev pub AllBelong : PlainWorld → Type 0
AllBelong w = (k : ℕ) → k < length w.pairs → SendBelongsAt w k

pub pair_belongs : (w : PlainWorld) (l : ℕ) (p : Pair) → l < length w.pairs → AllBelong w → SendBelongs p.send (lane_at w.sender l) → AllBelong (with_pair w l p)
pair_belongs w l p within all own k below =
    each_pair (λ (i : ℕ) (q : Pair). SendBelongs q.send (lane_at w.sender i)) w.pairs l p within own (λ i b ne. all i b) k (subst (λ (n : ℕ). k < n) (length-set w.pairs l p) below)

pub send_belongs : ((s : PlainSender) (k : Lane) (i : SendIn) → Comes s k i (send_turn s k i)) → ((s : PlainSender) (k : Lane) (i : SendIn) → Touches s k i (send_turn s k i).1) → (w : PlainWorld) (l : ℕ) (lost : Option ℕ) → Conversation w → l < length w.pairs → AllBelong w → AllBelong (send_steps w l lost)
send_belongs comes touches w l lost c within all = go (pair_at w l).send refl where
  has : (h : SendHold) → (pair_at w l).send ≡ h → SendBelongs h (lane_at w.sender l)
  has h is = subst (λ (x : SendHold). SendBelongs x (lane_at w.sender l)) is (all l within)

  go : (h : SendHold) → (pair_at w l).send ≡ h → AllBelong (send_steps w l lost)
  go (SendDoes act) is =
      subst (λ (x : SendHold). AllBelong (send_steps_by w l lost x)) (sym is)
      (pair_belongs w l (send_does (pair_at w l) lost act) within all (does_belong (lane_at w.sender l) (pair_at w l) lost act (all l within) (has (SendDoes act) is)))
  go (SendHas input) is = subst (λ (x : SendHold). AllBelong (send_steps_by w l lost x)) (sym is) (turn_belongs comes touches w l input c within (has (SendHas input) is) all)
