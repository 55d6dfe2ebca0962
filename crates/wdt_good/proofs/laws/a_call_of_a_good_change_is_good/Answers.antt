use Rattle.wdt_good.proofs.ForCallers.{call_good}
use Rattle.wdt_good.proofs.laws.a_call_of_a_good_change_is_good.Goals as goal

pub returns-clause-call : goal.returns-clause-call
returns-clause-call c = call_good

pub returns-clause-sync : goal.returns-clause-sync
returns-clause-sync c = call_good
