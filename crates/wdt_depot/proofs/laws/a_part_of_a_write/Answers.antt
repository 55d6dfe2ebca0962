use Rattle.wdt_depot.proofs.Images.{part_images}
use Rattle.wdt_depot.proofs.laws.a_part_of_a_write.Goals as goal

pub returns : goal.returns
returns c path offset from n bytes d within = part_images path offset from n bytes d within
