use Rattle.wdt_good.proofs.ForCallers.{log_is_good}
use Rattle.wdt_good.proofs.laws.a_log_that_leads_on_is_good.Goals as goal

pub returns : goal.returns
returns c = log_is_good
