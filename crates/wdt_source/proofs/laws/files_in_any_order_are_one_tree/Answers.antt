use Rattle.wdt_source.proofs.Once.{told, only_told}
use Rattle.wdt_source.proofs.laws.files_in_any_order_are_one_tree.Goals as goal

pub returns : goal.returns
returns c = record { told = told; only = only_told }
