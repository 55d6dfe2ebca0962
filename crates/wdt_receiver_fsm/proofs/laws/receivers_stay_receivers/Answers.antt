use Rattle.wdt_receiver_fsm.proofs.Receiving.{opened_is, turn_keeps}
use Rattle.wdt_receiver_fsm.proofs.laws.receivers_stay_receivers.Goals as goal

pub returns-clause-begins : goal.returns-clause-begins
returns-clause-begins c = λ log batch n few. opened_is log batch n few

pub returns-clause-keeps : goal.returns-clause-keeps
returns-clause-keeps c = λ r l put step is within ends. turn_keeps r l put step is within ends
