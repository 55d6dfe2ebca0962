use Rattle.std.proofs.Common.{◌≡◌, true}
use Rattle.wdt_depot.proofs.Moments.{since_last}
use Rattle.wdt_depot.proofs.laws.what_holds_since_holds_at_the_last.Goals as goal

pub returns : goal.returns
returns c test a b = since_last (λ d. test d ≡ true) a b
