use Rattle.std.specs.BTreeSet.{contains_by}
use Rattle.std.specs.Ordering.{nat_cmp}
use Rattle.std.specs.Cmp.Lexicographic.{slice_cmp}
use Rattle.wdt_tree.proofs.lemmas.Doubles.{IsWalk}
use Rattle.wdt_tree.proofs.manifest.first_double.Given as goal

abbrev pub invariant-loop-entry : goal.invariant-loop-entry
invariant-loop-entry l = IsWalk l.entries l.entry-index l.at (λ path. contains_by (λ k. slice_cmp nat_cmp path k.now) l.seen)
