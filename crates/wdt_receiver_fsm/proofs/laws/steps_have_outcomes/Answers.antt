use Rattle.wdt_receiver_fsm.proofs.Comes.{end_comes}
use Rattle.wdt_receiver_fsm.proofs.laws.steps_have_outcomes.Goals as goal

pub returns : goal.returns
returns c = λ r l put step ends. end_comes r l put (Unit {0}) step ends
