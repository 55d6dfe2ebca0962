use Rattle.wdt_pact.proofs.Finished.{finish_of_tree}
use Rattle.wdt_pact.proofs.laws.the_finish_is_of_the_tree.Goals as goal

pub returns : goal.returns
returns c = λ w s m come. finish_of_tree w s.talk.receiver m come
