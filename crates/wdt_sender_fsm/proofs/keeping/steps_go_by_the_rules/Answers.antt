use Rattle.wdt_sender_fsm.proofs.lemmas.Ruled.{turn_failed, turn_closed, row_turn}
use Rattle.wdt_sender_fsm.proofs.keeping.steps_go_by_the_rules.Goals as goal

pub returns-clause-failed : goal.returns-clause-failed
returns-clause-failed c = turn_failed

pub returns-clause-closed : goal.returns-clause-closed
returns-clause-closed c = turn_closed

pub returns-clause-served : goal.returns-clause-served
returns-clause-served c = row_turn
