-- What a lane is given to write lies in the grammar's ranges.
use Rattle.std.specs.Prelude.{◌≤◌}
use Rattle.wdt_codec.specs.Chunks.{FitsChunks}
use Rattle.wdt_codec.specs.Frames.{Fits}
use Rattle.wdt_codec.specs.declared.frames.Frame.{Frame}
use Rattle.wdt_codec.specs.declared.frames.Frame.TheVariants as frames
use Rattle.wdt_sender_fsm.specs.Rules.{code_of}
use Rattle.wdt_receiver_fsm.specs.declared.acts.RecvAct.{RecvAct}
use Rattle.wdt_receiver_fsm.specs.declared.acts.RecvAct.TheVariants as acts
use Rattle.wdt_receiver_fsm.specs.declared.inputs.RecvIn.TheVariants as inputs
use Rattle.wdt_receiver_fsm.specs.PlainReceiver.{PlainReceiver, have_now}
use Rattle.wdt_receiver_fsm.specs.Turn.{Given, Put}

-- what is read is in the grammar's ranges
abbrev pub FitsPut : Put → Type 0
FitsPut (Given (inputs.Got frame)) = Fits frame
FitsPut _ = Unit {0}

-- what the log said as it was opened can be told, and the answer's code is one byte
pub record CanTell (r : PlainReceiver) : Type 0 where
  pub have : FitsChunks (have_now r.opening r.history)
  pub code : code_of r.answer ≤ 255

-- a frame that a receiver writes: how many blocks landed, what the destination had, that the sender is to wait,
-- which lanes are closed, the last word, or that the end has failed; no other
abbrev pub IsOwnFrame : Frame → Type 0
IsOwnFrame (frames.Greeting mark) = Unit {0}
IsOwnFrame (frames.Chunks have) = Unit {0}
IsOwnFrame frames.Wait = Unit {0}
IsOwnFrame (frames.ErrMarks marks) = Unit {0}
IsOwnFrame frames.Done = Unit {0}
IsOwnFrame (frames.Abort code) = Unit {0}
IsOwnFrame _ = ⊥

-- an act of a receiver: what it writes is its own and in the grammar
abbrev pub FitsAct : RecvAct → Type 0
FitsAct (acts.Write frame) = Fits frame × IsOwnFrame frame
FitsAct _ = Unit {0}
