use Rattle.wdt_rest.proofs.lemmas.Together.{together}
use Rattle.wdt_rest.proofs.laws.rest_and_have_are_the_tree.Goals as goal

pub returns : goal.returns
returns c = together
