use Rattle.wdt_tree.proofs.lemmas.Cuts.{cuts_rest}
use Rattle.wdt_tree.proofs.laws.cuts_are_the_rest.Goals as goal

pub returns : goal.returns
returns c = cuts_rest
