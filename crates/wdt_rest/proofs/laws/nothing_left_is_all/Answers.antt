use Rattle.wdt_rest.proofs.lemmas.Together.{nothing_left}
use Rattle.wdt_rest.proofs.laws.nothing_left_is_all.Goals as goal

pub returns : goal.returns
returns c = nothing_left
