use Rattle.std.proofs.Common.{rules}
use Rattle.std.specs.Ordering.{is_lt, nat_cmp}
use Rattle.std.specs.Cmp.Lexicographic.{slice_cmp}
use Rattle.std.proofs.lemmas.Cmp.{nat_list_cmp_total}
use Rattle.std.proofs.lemmas.List.Sorted.{answers_always, ranks_by}
use Rattle.wdt_ranges.specs.declared.have.FileHave.{FileHave}
use Rattle.wdt_logfmt.specs.Sorting.{path_of}
use Rattle.wdt_logfmt.proofs.view.sort.Goals as goal

pub returns-in-Ok-clause-sorted : goal.returns-in-Ok-clause-sorted
returns-in-Ok-clause-sorted c =
    c.in-Ok.ensures.sorted (λ (x : FileHave) (y : FileHave). is_lt (slice_cmp nat_cmp x.path y.path)) (ranks_by nat_list_cmp_total path_of)
    (answers_always _ _ _ (λ f a r g h. search rules))
