use Rattle.std.proofs.Common.{◌≡◌, List, subst, None}
use Rattle.wdt_units.specs.Have.{HaveFile}
use Rattle.wdt_sender_fsm.specs.Chunks.{different_at}
use Rattle.wdt_sender_fsm.proofs.lemmas.Lists.{ordered, orders, no_difference, same_lists}
use Rattle.wdt_sender_fsm.proofs.laws.file_lists_are_compared.Goals as goal

pub returns-clause-ordered : goal.returns-clause-ordered
returns-clause-ordered c = λ files. (ordered files, orders files)

pub returns-clause-same : goal.returns-clause-same
returns-clause-same c = λ first later. (no_difference first later, λ e. subst (λ (xs : List HaveFile). different_at first xs ≡ None) e (same_lists first))
