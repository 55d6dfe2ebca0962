use Rattle.wdt_sender_fsm.proofs.lemmas.Comes.{turn_comes}
use Rattle.wdt_sender_fsm.proofs.lemmas.Made.{outcome_makes}
use Rattle.wdt_sender_fsm.proofs.lemmas.Turns.{serves_fares}
use Rattle.wdt_sender_fsm.proofs.keeping.steps_have_outcomes.Goals as goal

pub returns-clause-comes : goal.returns-clause-comes
returns-clause-comes c = turn_comes

pub returns-clause-makes : goal.returns-clause-makes
returns-clause-makes c = outcome_makes

pub returns-clause-fares : goal.returns-clause-fares
returns-clause-fares c = serves_fares
