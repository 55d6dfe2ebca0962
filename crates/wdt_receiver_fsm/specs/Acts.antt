-- The act that a lane holds: a function of the plain receiver and the lane.
use Rattle.std.specs.Prelude.{◌≡◌, ◌⊎◌, min}
use Rattle.wdt_units.specs.declared.numbers.Lane.{Lane}
use Rattle.wdt_codec.specs.declared.frames.Frame.TheVariants as frames
use Rattle.wdt_sender_fsm.specs.Phases.{piece_most}
use Rattle.wdt_sender_fsm.specs.Rules.{code_of}
use Rattle.wdt_receiver_fsm.specs.declared.acts.RecvAct.{RecvAct}
use Rattle.wdt_receiver_fsm.specs.declared.acts.RecvAct.TheVariants as acts
use Rattle.wdt_receiver_fsm.specs.declared.states.RecvLane.{RecvLane}
use Rattle.wdt_receiver_fsm.specs.declared.states.RecvState.{RecvState}
use Rattle.wdt_receiver_fsm.specs.declared.states.RecvState.TheVariants as states
use Rattle.wdt_receiver_fsm.specs.PlainReceiver.{PlainReceiver, have_now, lane_at, mark_of, marks_told, past_at, state_at}
use Rattle.wdt_receiver_fsm.specs.Turn.{Step, rests}

-- what a lane that stands so does in a state
abbrev pub act_in : PlainReceiver → Lane → RecvLane → RecvState → RecvAct
act_in r l lane states.Listen = acts.Accept
act_in r l lane states.ReadSettings = acts.Read
act_in r l lane states.SendLocalCheckpoint = acts.Write (frames.Greeting (mark_of r.history l.0))
act_in r l lane states.SendFileChunks = acts.Write (frames.Chunks (have_now r.opening r.history))
act_in r l lane states.ReadNextCmd = acts.Read
act_in r l lane states.TakeBlock = acts.TakePiece (min lane.left piece_most)
act_in r l lane states.SendWait = acts.Write frames.Wait
act_in r l lane states.WaitForFinish = acts.Park
act_in r l lane states.SendGlobalCheckpoint = acts.Write (marks_told r (past_at r l.0).telling)
act_in r l lane states.SendDone = acts.Write frames.Done
act_in r l lane states.ReadAck = acts.Read
act_in r l lane states.SendAbort = acts.Write (frames.Abort (code_of r.answer))
act_in r l lane states.Ended = acts.Stop

-- the act that a lane holds
abbrev pub act_of : PlainReceiver → Lane → RecvAct
act_of r l = act_in r l (lane_at r l.0) (state_at r l.0)

-- the act of a step is that of its lane as it stands behind it; or nothing changes, and the lane does
-- nothing more
abbrev pub IsActOf : PlainReceiver → Lane → Step → Type 0
IsActOf r l step = (step.0 ≡ act_of step.1 l) ⊎ (step ≡ rests r)
