use Rattle.wdt_receiver_fsm.proofs.Speaking.{act_fits, heard_named, piece_asked}
use Rattle.wdt_receiver_fsm.proofs.Talking.{turn_stands}
use Rattle.wdt_receiver_fsm.proofs.laws.a_receiver_speaks_in_turn.Goals as goal
use Rattle.std.specs.Prelude.{refl}

pub returns-clause-writes : goal.returns-clause-writes
returns-clause-writes c = λ r l. act_fits r l

pub returns-clause-stands : goal.returns-clause-stands
returns-clause-stands c = λ r l put step p is within sound holds ends. turn_stands r l put step p is within sound holds ends

pub returns-clause-hears : goal.returns-clause-hears
returns-clause-hears c = λ lane idle acked state frame q h. heard_named lane idle acked state frame q h

pub returns-clause-takes : goal.returns-clause-takes
returns-clause-takes c = λ lane count q h. piece_asked lane lane.state count q refl h
