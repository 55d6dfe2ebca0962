use Rattle.std.proofs.Common.{◌≡◌, ◌++◌, List, [], map, vec_len}
use Rattle.wdt_units.specs.Tree.{File}
use Rattle.wdt_tree.specs.Shown.{shown}
use Rattle.wdt_depot.specs.Memory.{told_in}
use Rattle.wdt_depot.specs.Plains.{plain_disk}
use Rattle.wdt_depot.proofs.memory.MemDepot.of.Given as goal

abbrev pub invariant-loop-file : goal.invariant-loop-file
invariant-loop-file l = (rest : List File) × (map shown l.initial.left.items ≡ map shown l.left.items ++ rest) × ((told_in l.store).now ≡ plain_disk rest) × (l.store.taken.items ≡ [])

abbrev pub decreases-loop-file : goal.decreases-loop-file
decreases-loop-file l = vec_len l.left
