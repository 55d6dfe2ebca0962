use Rattle.wdt_good.proofs.ForCallers.{moved_good}
use Rattle.wdt_good.proofs.laws.files_beside_the_log_may_change.Goals as goal

pub returns : goal.returns
returns c = moved_good
