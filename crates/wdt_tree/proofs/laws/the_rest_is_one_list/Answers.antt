use Rattle.wdt_tree.proofs.lemmas.RestOnce.{rest_once}
use Rattle.wdt_tree.proofs.laws.the_rest_is_one_list.Goals as goal

pub returns : goal.returns
returns c = rest_once
