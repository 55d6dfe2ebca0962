use Rattle.wdt_rest.proofs.lemmas.Whole.{list_is_rest}
use Rattle.wdt_rest.proofs.laws.the_rest_as_a_list.Goals as goal

pub returns : goal.returns
returns c = list_is_rest
