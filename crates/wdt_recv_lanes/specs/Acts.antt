-- Acts of a receiver's lane, and what it hears: when an act is said of a run, and what is told by what is heard.
use Rattle.std.specs.Prelude.{Bool, true, false, Option}
use Rattle.wdt_codec.specs.declared.frames.Frame.TheVariants as frames
use Rattle.wdt_tree.specs.Told.{ToldRun}
use Rattle.wdt_receiver_fsm.specs.declared.acts.RecvAct.{RecvAct}
use Rattle.wdt_receiver_fsm.specs.declared.acts.RecvAct.TheVariants as acts
use Rattle.wdt_receiver_fsm.specs.declared.inputs.RecvIn.TheVariants as inputs
use Rattle.wdt_link.specs.Saying.{IsFrameSaid, Part, Whole}
use Rattle.wdt_recv_lanes.specs.declared.heard.Heard.{Heard}
use Rattle.wdt_recv_lanes.specs.declared.heard.Heard.TheVariants as heard

-- ---- acts

-- the frame to be written is in the grammar and of the run
abbrev pub IsActSaid : Option ToldRun → RecvAct → Type 0
IsActSaid run (acts.Write frame) = IsFrameSaid run frame
IsActSaid run _ = Unit {0}

-- the act is done on the connection that is held, and leaves it held
abbrev pub is_on_link : RecvAct → Bool
is_on_link (acts.Write frame) = true
is_on_link acts.Read = true
is_on_link (acts.TakePiece count) = true
is_on_link _ = false

-- the act takes a connection
abbrev pub is_accept : RecvAct → Bool
is_accept acts.Accept = true
is_accept _ = false

-- the lane waits for others
abbrev pub is_park : RecvAct → Bool
is_park acts.Park = true
is_park _ = false

-- the lane does nothing more
abbrev pub is_stop : RecvAct → Bool
is_stop acts.Stop = true
is_stop _ = false

-- ---- what is heard

-- what may become of an act: memory may run out in each, and behind Stop nothing comes
abbrev pub is_answer : {N : Type 0} → RecvAct → Heard N → Bool
is_answer acts.Stop _ = false
is_answer _ (heard.Put inputs.Starved) = true
is_answer acts.Accept (heard.Put inputs.Linked) = true
is_answer acts.Accept (heard.Put inputs.NoLink) = true
is_answer (acts.Write frame) (heard.Put inputs.Wrote) = true
is_answer (acts.Write frame) (heard.Put inputs.Lost) = true
is_answer acts.Read (heard.Frame (Whole frame)) = true
is_answer acts.Read (heard.Put (inputs.Bad at)) = true
is_answer acts.Read (heard.Put inputs.Lost) = true
is_answer (acts.TakePiece count) (heard.Piece (Part path offset bytes)) = true
is_answer (acts.TakePiece count) (heard.Put inputs.Lost) = true
is_answer acts.Park (heard.Put inputs.Woken) = true
is_answer _ _ = false

-- there is a connection
abbrev pub is_linked : {N : Type 0} → Heard N → Bool
is_linked (heard.Put inputs.Linked) = true
is_linked _ = false

-- the connection failed, or none could be taken
abbrev pub is_cut : {N : Type 0} → Heard N → Bool
is_cut (heard.Put inputs.NoLink) = true
is_cut (heard.Put inputs.Lost) = true
is_cut _ = false

-- the other end said that it has failed, or what is no frame
abbrev pub is_alarming : {N : Type 0} → Heard N → Bool
is_alarming (heard.Frame (Whole (frames.Abort code))) = true
is_alarming (heard.Put (inputs.Bad at)) = true
is_alarming _ = false
