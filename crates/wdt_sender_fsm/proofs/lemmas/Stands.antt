-- A lane's phase with the input that it holds is its phase behind the step.
use Rattle.std.proofs.Common.{◌≡◌, ℕ, ◌<◌, ◌==◌, List, [], ◌∷◌, ◌++◌, length, Bool, true, false, not, Option, Some, None, subst, sym, ap, ◌∙◌, refl, inl, inr, is_some, eq-eqb}
use Rattle.std.proofs.lemmas.Option.{same_Some}
use Rattle.wdt_units.specs.Have.{HaveFile}
use Rattle.wdt_units.specs.declared.blocks.Block.{Block}
use Rattle.wdt_units.specs.declared.numbers.Lane.{Lane}
use Rattle.wdt_codec.specs.declared.frames.Frame.{Frame}
use Rattle.wdt_codec.specs.declared.frames.Frame.TheVariants as frames
use Rattle.wdt_codec.specs.declared.frames.Mark.{Mark}
use Rattle.wdt_sender_fsm.specs.declared.answers.RefusedKind.{RefusedKind}
use Rattle.wdt_sender_fsm.specs.declared.events.SendEvent.TheVariants as events
use Rattle.wdt_sender_fsm.specs.declared.inputs.SendIn.{SendIn}
use Rattle.wdt_sender_fsm.specs.declared.inputs.SendIn.TheVariants as inputs
use Rattle.wdt_sender_fsm.specs.declared.peers.PeerKind.{PeerKind}
use Rattle.wdt_sender_fsm.specs.declared.peers.PeerKind.TheVariants as peers
use Rattle.wdt_sender_fsm.specs.declared.states.SendLane.{SendLane}
use Rattle.wdt_sender_fsm.specs.declared.states.SendState.{SendState}
use Rattle.wdt_sender_fsm.specs.declared.states.SendState.TheVariants as states
use Rattle.wdt_sender_fsm.specs.Chunks.{unordered_at, different_at, refusal}
use Rattle.wdt_sender_fsm.specs.Faults.{count_fault, marks_fault, has_stranger}
use Rattle.wdt_sender_fsm.specs.Phases.{Phase, Open, Met, Listing, Told, Sending, Asked, Bye, Over as SaidAll, StandsIn, told, phase_of, phase_by, phase_heard, phase_holding, is_named}
use Rattle.wdt_sender_fsm.specs.PlainSender.{PlainSender, lane_at, state_at, past_at, is_closed, least_queued, unfinished_blocks, noted, with_lane, goes}
use Rattle.wdt_sender_fsm.specs.Rows.{Row, SettingsWritten, Linked, Greeted, DoneAtOnce, Listed, SizeWritten, BlockWritten, DoneWritten, Waits, Marked, Finished, Answered, row_of}
use Rattle.wdt_sender_fsm.specs.Rules.{is_failure}
use Rattle.wdt_sender_fsm.specs.SenderHistory.{past_of, past_of-more}
use Rattle.wdt_sender_fsm.specs.Turn.{Step, faults, writes, writes_size, greeted_by, greeted_with, greeted_for, listed_again, with_plan, planned_by, listed_after, listed_in, next_conn, next_by, next, globals, marked_with, marked_for, finished, finished_at_once, turn_row, is_over, turned, ruled, send_turn}
use Rattle.wdt_sender_fsm.proofs.lemmas.Steps.{lane_set, if_has, served}

-- a lane that was put in a state, where no phase hangs on its being acknowledged
put : (s : PlainSender) (l : Lane) (lane : SendLane) (p : Phase) → l.0 < length s.lanes → ((acked : Bool) → phase_of lane acked ≡ Some p) → StandsIn p l (with_lane s l lane)
put s l lane p within is = inr (ap (λ x. phase_of x (past_at (with_lane s l lane) l.0).is_acked) (lane_set s l lane within) ∙ is (past_at (with_lane s l lane) l.0).is_acked)

abbrev asking : PlainSender → SendLane
asking s = record { state = states.SendSettings; ask = not (is_some s.have) }

abbrev in_state : PlainSender → Lane → SendState → SendLane
in_state s l state = record { state = state; ask = (lane_at s l.0).ask }

size_told : (s : PlainSender) (l : Lane) → l.0 < length s.lanes → StandsIn Told l (writes_size s l).1
size_told s l within = put s l (in_state s l states.SendSize) Told within (λ acked. refl)

greets_by : (s : PlainSender) (l : Lane) (ask : Bool) → l.0 < length s.lanes → StandsIn (told ask) l (greeted_by s l ask).1
greets_by s l true within = put s l (in_state s l states.ReadFileChunks) Listing within (λ acked. refl)
greets_by s l false within = size_told s l within

greets_with : (s : PlainSender) (l : Lane) (m : Mark) (o : Option PeerKind) → l.0 < length s.lanes → StandsIn (told (lane_at s l.0).ask) l (greeted_with s l m o).1
greets_with s l m (Some kind) within = inl refl
greets_with s l m None within = greets_by (noted s (events.Greet l m.count ∷ [])) l (lane_at s l.0).ask within

greets_for : (s : PlainSender) (l : Lane) (m : Mark) (b : Bool) → l.0 < length s.lanes → StandsIn (told (lane_at s l.0).ask) l (greeted_for s l m b).1
greets_for s l m true within = greets_with s l m (count_fault (past_at s l.0).claims m.count) within
greets_for s l m false within = inl refl

lists_again : (s : PlainSender) (l : Lane) (have : List HaveFile) (o : Option ℕ) → l.0 < length s.lanes → StandsIn Told l (listed_again s l have o).1
lists_again s l have (Some at) within = inl refl
lists_again s l have None within = size_told (noted s (events.Chunks l ∷ [])) l within

plans : (s : PlainSender) (l : Lane) (have : List HaveFile) (o : Option RefusedKind) → l.0 < length s.lanes → StandsIn Told l (planned_by s l have o).1
plans s l have (Some kind) within = inl refl
plans s l have None within = size_told (noted (with_plan s have) (events.Chunks l ∷ [])) l within

lists_after : (s : PlainSender) (l : Lane) (have : List HaveFile) (o : Option (List HaveFile)) → l.0 < length s.lanes → StandsIn Told l (listed_after s l have o).1
lists_after s l have (Some first) within = lists_again s l have (different_at first have) within
lists_after s l have None within = plans s l have (refusal s.manifest have s.block) within

lists_in : (s : PlainSender) (l : Lane) (have : List HaveFile) (o : Option ℕ) → l.0 < length s.lanes → StandsIn Told l (listed_in s l have o).1
lists_in s l have (Some at) within = inl refl
lists_in s l have None within = lists_after s l have s.have within

takes_by : (s : PlainSender) (l : Lane) (o : Option Block) → l.0 < length s.lanes → StandsIn Sending l (next_by s l o).1
takes_by s l None within = put s l (in_state s l states.SendDone) Sending within (λ acked. refl)
takes_by s l (Some b) within = put (noted s (events.Claim l b ∷ [])) l (in_state s l states.SendBlocks) Sending within (λ acked. refl)

takes : (s : PlainSender) (l : Lane) → l.0 < length s.lanes → StandsIn Sending l (next s l).1
takes s l within = takes_by s l (least_queued s) within

marks_with : (s : PlainSender) (l : Lane) (ms : List Mark) (o : Option PeerKind) → l.0 < length s.lanes → StandsIn Sending l (marked_with s l ms o).1
marks_with s l ms (Some kind) within = inl refl
marks_with s l ms None within = takes (noted s (globals l ms)) l within

marks_for : (s : PlainSender) (l : Lane) (ms : List Mark) (b : Bool) → l.0 < length s.lanes → StandsIn Sending l (marked_for s l ms b).1
marks_for s l ms true within = inl refl
marks_for s l ms false within = marks_with s l ms (marks_fault s.history ms) within

abbrev BehindFinish : Lane → Step → Type 0
BehindFinish l step = StandsIn Bye l step.1

finishes : (s : PlainSender) (l : Lane) (row : Row) → l.0 < length s.lanes → BehindFinish l (faults s l row (peers.EarlyDone (unfinished_blocks s))) → BehindFinish l (finished s l row)
finishes s l row within fails =
    if_has (BehindFinish l) (unfinished_blocks s == 0) (writes (goes (noted s (events.Finish l ∷ [])) l states.AnswerDone) frames.Done) (faults s l row (peers.EarlyDone (unfinished_blocks s)))
    (put (noted s (events.Finish l ∷ [])) l (in_state s l states.AnswerDone) Bye within (λ acked. refl)) fails

finishes_at_once : (s : PlainSender) (l : Lane) (b : Bool) → l.0 < length s.lanes → BehindFinish l (finished_at_once s l b)
finishes_at_once s l true within = finishes s l DoneAtOnce within (inl refl)
finishes_at_once s l false within = inl refl

-- an answered last word acknowledges the lane
acknowledges : (s : PlainSender) (l : Lane) → l.0 < length s.lanes → StandsIn SaidAll l (goes (noted s (events.Acked l ∷ [])) l states.Ended)
acknowledges s l within =
    let is : (past_of (s.history ++ events.Acked l ∷ []) l.0).is_acked ≡ true = ap (λ x. x.is_acked) (past_of-more s.history (events.Acked l) l.0) ∙ rw (eq-eqb l.0 l.0 refl) refl in
    inr (ap (λ x. phase_of x (past_of (s.history ++ events.Acked l ∷ []) l.0).is_acked) (lane_set (noted s (events.Acked l ∷ [])) l (in_state s l states.Ended) within) ∙ ap (phase_of (in_state s l states.Ended)) is)

-- on a sound end an open lane's row is done, and the phase that it held is the one it is known to have held
serves : (p q : Phase) (s : PlainSender) (l : Lane) (row : Row) → Some q ≡ Some p → is_over row ≡ false → is_closed s l.0 ≡ false → is_failure s.answer ≡ false → StandsIn q l (turn_row s l row).1 → StandsIn p l (ruled s l row).1
serves p q s l row is over closed sound stands =
    subst (λ (step : Step). StandsIn p l step.1) (sym (served s l row over closed sound)) (subst (λ (x : Phase). StandsIn x l (turn_row s l row).1) (same_Some q p is) stands)

-- a lane whose state is known, and whether it asked
record IsLane (s : PlainSender) (l : Lane) (state : SendState) (ask : Bool) : Type 0 where
  pub within : l.0 < length s.lanes
  pub state_is : state_at s l.0 ≡ state
  pub ask_is : (lane_at s l.0).ask ≡ ask
  pub open_is : is_closed s l.0 ≡ false
  pub sound : is_failure s.answer ≡ false

abbrev Keeps : PlainSender → Lane → SendState → Bool → SendIn → Type 0
Keeps s l state ask input = (p : Phase) → phase_holding record { state = state; ask = ask } input ≡ Some p → StandsIn p l (turned s l (row_of state input)).1

-- a lane that tells of a failure, or has ended, holds no phase
abort_none : (ask : Bool) (input : SendIn) → phase_holding record { state = states.SendAbort; ask = ask } input ≡ None
abort_none ask inputs.Wrote = refl
abort_none ask (inputs.Got frame) = refl
abort_none ask inputs.Linked = refl
abort_none ask _ = refl

ended_none : (ask : Bool) (input : SendIn) → phase_holding record { state = states.Ended; ask = ask } input ≡ None
ended_none ask inputs.Wrote = refl
ended_none ask (inputs.Got frame) = refl
ended_none ask inputs.Linked = refl
ended_none ask _ = refl

none_apart : (p : Phase) → None ≡ Some p → ⊥
none_apart p e = cc

keeps : (s : PlainSender) (l : Lane) (state : SendState) (ask : Bool) (input : SendIn) → IsLane s l state ask → Keeps s l state ask input
keeps s l states.Connect ask inputs.Linked at p is =
    serves p Open s l Linked is refl at.open_is at.sound (put (noted s (events.Linked l (next_conn s l) ∷ [])) l (asking s) Open at.within (λ acked. refl))
keeps s l states.SendSettings ask inputs.Wrote at p is =
    serves p (Met ask) s l SettingsWritten is refl at.open_is at.sound (put s l (in_state s l states.ReadLocalCheckpoint) (Met ask) at.within (λ acked. ap (λ a. Some (Met a)) at.ask_is))
keeps s l states.ReadLocalCheckpoint ask (inputs.Got (frames.Greeting m)) at p is =
    serves p (told ask) s l (Greeted m) is refl at.open_is at.sound (subst (λ (a : Bool). StandsIn (told a) l (turn_row s l (Greeted m)).1) at.ask_is (greets_for s l m (m.lane.0 == l.0) at.within))
keeps s l states.ReadLocalCheckpoint ask (inputs.Got frames.Done) at p is =
    serves p Bye s l DoneAtOnce is refl at.open_is at.sound (finishes_at_once s l (is_some s.have) at.within)
keeps s l states.ReadFileChunks ask (inputs.Got (frames.Chunks have)) at p is =
    serves p Told s l (Listed have) is refl at.open_is at.sound (lists_in s l have (unordered_at have) at.within)
keeps s l states.SendSize ask inputs.Wrote at p is =
    serves p Sending s l SizeWritten is refl at.open_is at.sound (takes s l at.within)
keeps s l states.SendBlocks ask inputs.Wrote at p is =
    serves p Sending s l BlockWritten is refl at.open_is at.sound (takes (noted s (events.Sent l ∷ [])) l at.within)
keeps s l states.SendDone ask inputs.Wrote at p is =
    serves p Asked s l DoneWritten is refl at.open_is at.sound (put (noted s (events.Done l ∷ [])) l (in_state s l states.ReadReceiverCmd) Asked at.within (λ acked. refl))
keeps s l states.ReadReceiverCmd ask (inputs.Got frames.Wait) at p is =
    serves p Asked s l Waits is refl at.open_is at.sound (inr (ap (phase_by (lane_at s l.0).ask (past_at s l.0).is_acked) at.state_is))
keeps s l states.ReadReceiverCmd ask (inputs.Got (frames.ErrMarks ms)) at p is =
    serves p Sending s l (Marked ms) is refl at.open_is at.sound (marks_for s l ms (has_stranger (length s.lanes) l.0 ms) at.within)
keeps s l states.ReadReceiverCmd ask (inputs.Got frames.Done) at p is =
    serves p Bye s l Finished is refl at.open_is at.sound (finishes s l Finished at.within (inl refl))
keeps s l states.AnswerDone ask inputs.Wrote at p is =
    serves p SaidAll s l Answered is refl at.open_is at.sound (acknowledges s l at.within)
keeps s l states.SendAbort ask input at p is = absurd (none_apart p (sym (abort_none ask input) ∙ is))
keeps s l states.Ended ask input at p is = absurd (none_apart p (sym (ended_none ask input) ∙ is))
keeps s l state ask input at p is = absurd (none_apart p is)

-- on a sound end an open lane's phase is the same behind the step, or the end fails in it
pub turn_stands : (s : PlainSender) (l : Lane) (input : SendIn) (p : Phase) → l.0 < length s.lanes → is_closed s l.0 ≡ false → is_failure s.answer ≡ false → phase_holding (lane_at s l.0) input ≡ Some p → StandsIn p l (send_turn s l input).1
unfolding send_turn
turn_stands s l input p within closed sound is =
    keeps s l (state_at s l.0) (lane_at s l.0).ask input record { within = within; state_is = refl; ask_is = refl; open_is = closed; sound = sound } p is

-- what may be said to a lane has a row of the table
pub heard_is_named : (state : SendState) (ask acked : Bool) (frame : Frame) (q : Phase) → phase_heard frame (phase_by ask acked state) ≡ Some q → is_named (row_of state (inputs.Got frame)) ≡ true
heard_is_named states.ReadLocalCheckpoint ask acked (frames.Greeting m) q is = refl
heard_is_named states.ReadLocalCheckpoint ask acked frames.Done q is = refl
heard_is_named states.ReadFileChunks ask acked (frames.Chunks have) q is = refl
heard_is_named states.ReadReceiverCmd ask acked frames.Wait q is = refl
heard_is_named states.ReadReceiverCmd ask acked (frames.ErrMarks ms) q is = refl
heard_is_named states.ReadReceiverCmd ask acked frames.Done q is = refl
heard_is_named states.Ended ask true frame q is = cc
heard_is_named states.Ended ask false frame q is = cc
heard_is_named state ask acked frame q is = cc
