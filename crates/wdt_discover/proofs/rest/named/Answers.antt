use Rattle.std.proofs.Common.{rules, sym}
use Rattle.std.specs.Ordering.{nat_cmp}
use Rattle.std.specs.Cmp.Lexicographic.{slice_cmp}
use Rattle.std.proofs.lemmas.Cmp.{nat_list_cmp_total}
use Rattle.std.proofs.lemmas.Fn.{always_returns_same}
use Rattle.std.proofs.lemmas.List.Sorted.{searchable_from_sorted}
use Rattle.wdt_ranges.specs.declared.have.FileHave.{FileHave}
use Rattle.wdt_discover.proofs.lemmas.Naming.{path_of, sorted_from, search_finds, search_names, search_misses}
use Rattle.wdt_discover.proofs.rest.named.Goals as goal

pub returns-in-Ok-clause-named : goal.returns-in-Ok-clause-named
returns-in-Ok-clause-named c =
    let at = c.in-Ok.ensures.position (λ (y : FileHave). slice_cmp nat_cmp y.path c.args.path.now) (always_returns_same _ _ _ (λ a r f k. search rules)) in
    sym (search_names c.args.files.now c.args.path.now c.in-Ok.at c.requires c.in-Ok.ensures.bound at)

pub returns-in-Ok-clause-spans : goal.returns-in-Ok-clause-spans
returns-in-Ok-clause-spans c =
    let at = c.in-Ok.ensures.position (λ (y : FileHave). slice_cmp nat_cmp y.path c.args.path.now) (always_returns_same _ _ _ (λ a r f k. search rules)) in
    λ d. (search_finds c.args.files.now c.args.path.now c.in-Ok.at c.requires c.in-Ok.ensures.bound at d).1

pub returns-in-Err-clause-named : goal.returns-in-Err-clause-named
returns-in-Err-clause-named c =
    let split = c.in-Err.ensures.position (λ (y : FileHave). slice_cmp nat_cmp y.path c.args.path.now) (always_returns_same _ _ _ (λ a r f k. search rules))
    (searchable_from_sorted nat_list_cmp_total path_of c.args.files.now c.args.path.now (sorted_from c.args.files.now c.requires)) in
    sym (search_misses c.args.files.now c.args.path.now c.in-Err.field-0 split.0 split.1).0

pub returns-in-Err-clause-spans : goal.returns-in-Err-clause-spans
returns-in-Err-clause-spans c =
    let split = c.in-Err.ensures.position (λ (y : FileHave). slice_cmp nat_cmp y.path c.args.path.now) (always_returns_same _ _ _ (λ a r f k. search rules))
    (searchable_from_sorted nat_list_cmp_total path_of c.args.files.now c.args.path.now (sorted_from c.args.files.now c.requires)) in
    (search_misses c.args.files.now c.args.path.now c.in-Err.field-0 split.0 split.1).1
