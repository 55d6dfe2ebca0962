use Rattle.wdt_history.proofs.Standing.{listed}
use Rattle.wdt_history.proofs.laws.a_listed_block_has_the_place_of_its_index.Goals as goal

pub returns : goal.returns
returns c = listed
