use Rattle.wdt_logfmt.proofs.Landing.{can_land, sum_covered}
use Rattle.wdt_logfmt.proofs.laws.what_has_room_can_land.Goals as goal

pub returns : goal.returns
returns c = record { sums = sum_covered; lands = can_land }
