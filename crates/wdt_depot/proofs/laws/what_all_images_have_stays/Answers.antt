use Rattle.std.proofs.Common.{◌≡◌, true}
use Rattle.wdt_depot.proofs.Images.{images_keep}
use Rattle.wdt_depot.proofs.laws.what_all_images_have_stays.Goals as goal

pub returns : goal.returns
returns c test d e has all = images_keep (λ i. test i ≡ true) d e has all
