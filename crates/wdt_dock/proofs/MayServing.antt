-- As each lane of a receiver stands, its row may be done.
use Rattle.std.proofs.Common.{◌≡◌, ◌<◌, Bool, true, false, List, length, Option, None, subst}
use Rattle.wdt_units.specs.Headers.{IsHeaderOf}
use Rattle.wdt_units.specs.Tree.{File}
use Rattle.wdt_units.specs.declared.blocks.Block.{Block}
use Rattle.wdt_units.specs.declared.numbers.Lane.{Lane}
use Rattle.wdt_codec.specs.declared.frames.Frame.{Frame}
use Rattle.wdt_codec.specs.declared.frames.Frame.TheVariants as frames
use Rattle.wdt_codec.specs.Frames.{Fits}
use Rattle.wdt_sender_fsm.specs.Rules.{is_failure}
use Rattle.wdt_receiver_fsm.specs.declared.inputs.RecvIn.{RecvIn}
use Rattle.wdt_receiver_fsm.specs.declared.inputs.RecvIn.TheVariants as inputs
use Rattle.wdt_receiver_fsm.specs.declared.states.RecvLane.{RecvLane}
use Rattle.wdt_receiver_fsm.specs.declared.states.RecvState.{RecvState}
use Rattle.wdt_receiver_fsm.specs.declared.states.RecvState.TheVariants as states
use Rattle.wdt_receiver_fsm.specs.PlainReceiver.{PlainReceiver, lane_at, past_at}
use Rattle.wdt_receiver_fsm.specs.Receiver.{Fares, HasLeft, IsReceiver}
use Rattle.wdt_receiver_fsm.specs.ReceiverHistory.{EndPast, RecvPast, end_of}
use Rattle.wdt_receiver_fsm.specs.Rows.{at_answer, at_command, at_settings, row_of}
use Rattle.wdt_receiver_fsm.specs.Turn.{Given, row_at}
use Rattle.wdt_receiver_fsm.specs.Writes.{FitsPut}
use Rattle.wdt_dock.specs.DockGood.{PutOf}
use Rattle.wdt_dock.specs.Turning.{IsTreesRow, MayGoOn}

-- said of a frame that is a header
abbrev IsOfTree : List File → Frame → Type 0
IsOfTree T (frames.Block header) = IsHeaderOf T header
IsOfTree T frame = Unit {0}

settings_may : (frame : Frame) (past : RecvPast) → MayGoOn (at_settings frame) past
settings_may (frames.Abort code) past = tt
settings_may (frames.Settings settings) past = tt
settings_may _ past = tt

answer_may : (frame : Frame) (past : RecvPast) → MayGoOn (at_answer frame) past
answer_may (frames.Abort code) past = tt
answer_may frames.Done past = tt
answer_may _ past = tt

command_may : (sized : Bool) (frame : Frame) (past : RecvPast) → Fits frame → past.begun ≡ None → past.is_closed ≡ false → MayGoOn (at_command sized frame) past
command_may sized (frames.Abort code) past fits none going = tt
command_may false (frames.Size files bytes) past fits none going = tt
command_may true (frames.Block header) past fits none going = (fits, none)
command_may true frames.Done past fits none going = going
command_may true _ past fits none going = tt
command_may false _ past fits none going = tt

may_by : (sized : Bool) (state : RecvState) (input : RecvIn) (lane : RecvLane) (past : RecvPast) (end : EndPast) → Fares false state lane past end → FitsPut (Given input) → MayGoOn (row_of sized state input) past
may_by sized states.Ended input lane past end fares fits = tt
may_by sized state inputs.Starved lane past end fares fits = tt
may_by sized states.Listen inputs.NoLink lane past end fares fits = fares.tries
may_by sized states.Listen inputs.Linked lane past end fares fits = fares.takes
may_by sized states.ReadSettings (inputs.Got frame) lane past end fares fits = settings_may frame past
may_by sized states.ReadNextCmd (inputs.Got frame) lane past end fares fits = command_may sized frame past fits fares.1 fares.0.goes_on.closed
may_by sized states.ReadAck (inputs.Got frame) lane past end fares fits = answer_may frame past
may_by sized states.SendWait inputs.Wrote lane past end fares fits = fares.0.goes_on.closed
may_by sized states.WaitForFinish inputs.Woken lane past end fares fits = fares.0.goes_on.closed
may_by sized _ _ lane past end fares fits = tt

-- the row of an input of a sound end may be done
pub row_may : (r : PlainReceiver) (l : Lane) (input : RecvIn) → IsReceiver r → l.0 < length r.lanes → is_failure r.answer ≡ false → FitsPut (Given input) → MayGoOn (row_at r l (Given input)) (past_at r l.0)
row_may r l input receiver within sound fits =
    may_by (lane_at r l.0).is_sized (lane_at r l.0).state input (lane_at r l.0) (past_at r l.0) (end_of r.history)
    (subst (λ (failed : Bool). Fares failed (lane_at r l.0).state (lane_at r l.0) (past_at r l.0) (end_of r.history)) sound (receiver.lanes l.0 within)) fits

-- ---- what is handed in is of the tree

command_tree : (T : List File) (sized : Bool) (frame : Frame) → IsOfTree T frame → IsTreesRow T (at_command sized frame)
command_tree T sized (frames.Abort code) of = tt
command_tree T false (frames.Size files bytes) of = tt
command_tree T true (frames.Block header) of = of
command_tree T true frames.Done of = tt
command_tree T true _ of = tt
command_tree T false _ of = tt

settings_tree : (T : List File) (frame : Frame) → IsTreesRow T (at_settings frame)
settings_tree T (frames.Abort code) = tt
settings_tree T (frames.Settings settings) = tt
settings_tree T _ = tt

answer_tree : (T : List File) (frame : Frame) → IsTreesRow T (at_answer frame)
answer_tree T (frames.Abort code) = tt
answer_tree T frames.Done = tt
answer_tree T _ = tt

-- a frame that is handed in is of the tree
of_tree : (T : List File) (r : PlainReceiver) (l : Lane) (frame : Frame) → PutOf T r l (Given (inputs.Got frame)) → IsOfTree T frame
of_tree T r l (frames.Block header) put = put
of_tree T r l _ put = tt

tree_by : (T : List File) (r : PlainReceiver) (l : Lane) (sized : Bool) (state : RecvState) (input : RecvIn) → PutOf T r l (Given input) → IsTreesRow T (row_of sized state input)
tree_by T r l sized states.Ended input put = tt
tree_by T r l sized state inputs.Starved put = tt
tree_by T r l sized states.ReadSettings (inputs.Got frame) put = settings_tree T frame
tree_by T r l sized states.ReadNextCmd (inputs.Got frame) put = command_tree T sized frame (of_tree T r l frame put)
tree_by T r l sized states.ReadAck (inputs.Got frame) put = answer_tree T frame
tree_by T r l sized _ _ put = tt

pub row_tree : (T : List File) (r : PlainReceiver) (l : Lane) (input : RecvIn) → PutOf T r l (Given input) → IsTreesRow T (row_at r l (Given input))
row_tree T r l input put = tree_by T r l (lane_at r l.0).is_sized (lane_at r l.0).state input put

-- a lane that takes a block has begun one
pub taking_begun : (r : PlainReceiver) (l : Lane) → IsReceiver r → l.0 < length r.lanes → (lane_at r l.0).state ≡ states.TakeBlock → (past_at r l.0).begun ≡ None → ⊥
taking_begun r l receiver within takes none =
    let fares = subst (λ (state : RecvState). Fares (is_failure r.answer) state (lane_at r l.0) (past_at r l.0) (end_of r.history)) takes (receiver.lanes l.0 within) in
    subst (λ (o : Option Block). HasLeft o (lane_at r l.0).left) none fares.1
