-- Acts and inputs of a sender's lane: when they are said of a run, and what an input tells.
use Rattle.std.specs.Prelude.{Bool, true, false, Option}
use Rattle.wdt_codec.specs.declared.frames.Frame.TheVariants as frames
use Rattle.wdt_tree.specs.Told.{ToldRun}
use Rattle.wdt_sender_fsm.specs.declared.acts.SendAct.{SendAct}
use Rattle.wdt_sender_fsm.specs.declared.acts.SendAct.TheVariants as acts
use Rattle.wdt_sender_fsm.specs.declared.inputs.SendIn.{SendIn}
use Rattle.wdt_sender_fsm.specs.declared.inputs.SendIn.TheVariants as inputs
use Rattle.wdt_link.specs.Saying.{IsFrameSaid}

-- the frame to be written, or the header of the block to be sent, is in the grammar and of the run
abbrev pub IsActSaid : Option ToldRun → SendAct → Type 0
IsActSaid run (acts.Write frame) = IsFrameSaid run frame
IsActSaid run (acts.SendBlock header) = IsFrameSaid run (frames.Block header)
IsActSaid run _ = Unit {0}

-- the frame that was read is in the grammar and of the run
abbrev pub IsInSaid : Option ToldRun → SendIn → Type 0
IsInSaid run (inputs.Got frame) = IsFrameSaid run frame
IsInSaid run _ = Unit {0}

-- there is a connection
abbrev pub is_linked : SendIn → Bool
is_linked inputs.Linked = true
is_linked _ = false

-- the connection failed, or none could be made
abbrev pub is_cut : SendIn → Bool
is_cut inputs.NoLink = true
is_cut inputs.Lost = true
is_cut _ = false

-- the source failed
abbrev pub is_source_lost : SendIn → Bool
is_source_lost (inputs.SourceLost unwritten) = true
is_source_lost _ = false

-- the other end said that it has failed, or what is no frame
abbrev pub is_alarming : SendIn → Bool
is_alarming (inputs.Got (frames.Abort code)) = true
is_alarming (inputs.Bad at) = true
is_alarming _ = false

-- the act is done on the connection that is held, and leaves it held
abbrev pub is_on_link : SendAct → Bool
is_on_link (acts.Write frame) = true
is_on_link (acts.SendBlock header) = true
is_on_link acts.Read = true
is_on_link _ = false

-- the act makes a connection
abbrev pub is_dial : SendAct → Bool
is_dial (acts.Dial conn) = true
is_dial _ = false
