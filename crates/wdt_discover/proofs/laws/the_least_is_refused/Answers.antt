use Rattle.wdt_discover.proofs.lemmas.Least.{least_is_refused}
use Rattle.wdt_discover.proofs.laws.the_least_is_refused.Goals as goal

pub returns : goal.returns
returns c = least_is_refused
