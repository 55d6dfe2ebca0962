use Rattle.wdt_sender_fsm.proofs.lemmas.Behind.{past_behind, end_behind}
use Rattle.wdt_sender_fsm.proofs.laws.pasts_follow_the_history.Goals as goal

pub returns-clause-lane : goal.returns-clause-lane
returns-clause-lane c = past_behind

pub returns-clause-end : goal.returns-clause-end
returns-clause-end c = end_behind
