use Rattle.wdt_depot.proofs.Moments.{may_either}
use Rattle.wdt_depot.proofs.laws.a_changing_call_is_done_or_not.Goals as goal

pub returns : goal.returns
returns c done result d e may = may_either done result d e may
