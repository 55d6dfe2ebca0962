use Rattle.wdt_sender_fsm.proofs.lemmas.HeldActs.{turn_fits}
use Rattle.wdt_sender_fsm.proofs.lemmas.Stands.{turn_stands, heard_is_named}
use Rattle.wdt_sender_fsm.proofs.laws.a_sender_speaks_in_turn.Goals as goal

pub returns-clause-writes : goal.returns-clause-writes
returns-clause-writes c = turn_fits

pub returns-clause-stands : goal.returns-clause-stands
returns-clause-stands c = turn_stands

pub returns-clause-hears : goal.returns-clause-hears
returns-clause-hears c = heard_is_named
