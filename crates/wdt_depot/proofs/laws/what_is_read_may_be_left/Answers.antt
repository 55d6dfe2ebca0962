use Rattle.wdt_depot.proofs.Images.{seen_is_image}
use Rattle.wdt_depot.proofs.laws.what_is_read_may_be_left.Goals as goal

pub returns : goal.returns
returns c = seen_is_image
