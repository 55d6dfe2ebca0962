use Rattle.wdt_rest.proofs.lemmas.Together.{landed}
use Rattle.wdt_rest.proofs.laws.landed_blocks_make_the_tree.Goals as goal

pub returns : goal.returns
returns c = landed
