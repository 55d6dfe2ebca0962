use Rattle.wdt_units.proofs.lemmas.Lawful.{lawful-text}
use Rattle.wdt_units.proofs.path.Name.of_lawful.Goals as goal

pub from_utf8_unchecked-requires : goal.from_utf8_unchecked-requires
from_utf8_unchecked-requires c = lawful-text c.args.bytes.now c.requires
