use Rattle.std.proofs.Common.{rules, ◌≡◌, List, true, false, Some, slice_get, sym, subst}
use Rattle.std.specs.List.{list_any}
use Rattle.std.specs.Option.{option_map}
use Rattle.std.specs.Ordering.{nat_cmp}
use Rattle.std.specs.Cmp.Lexicographic.{slice_cmp}
use Rattle.std.proofs.lemmas.Cmp.{nat_list_cmp_total}
use Rattle.std.proofs.lemmas.Fn.{always_returns_same}
use Rattle.std.proofs.lemmas.List.Sorted.{searchable_from_sorted}
use Rattle.wdt_tree.specs.declared.entry.Entry.{Entry}
use Rattle.wdt_tree.specs.Listing.{path_of, has_path, IsSortedByPath}
use Rattle.wdt_tree.proofs.lemmas.Order.{found_at, missing, sorted_from}
use Rattle.wdt_tree.proofs.manifest.Manifest.find.Goals as goal

pub returns-in-Ok : goal.returns-in-Ok
returns-in-Ok c =
    let whole : c.deref.result.now ≡ c.args.self.now = search rules in
    let at = c.in-Ok.ensures.position (λ (y : Entry). slice_cmp nat_cmp y.path c.args.path.now) (always_returns_same _ _ _ (λ a r f k. search rules)) in
    let both = subst (λ (xs : List Entry). (option_map path_of (slice_get xs c.in-Ok.at) ≡ Some c.args.path.now) × (list_any (has_path c.args.path.now) xs ≡ true)) whole
    (found_at c.deref.result.now c.args.path.now c.in-Ok.at c.in-Ok.ensures.bound at) in
    record { place = both.0; found = sym both.1 }

pub returns-in-Err-clause-found : goal.returns-in-Err-clause-found
returns-in-Err-clause-found c =
    let whole : c.deref.result.now ≡ c.args.self.now = search rules in
    let up = sorted_from c.self.inside.entries.items c.self.invariant.0.rising in
    let rising = subst IsSortedByPath (sym c.deref.ensures.value) up in
    let split = c.in-Err.ensures.position (λ (y : Entry). slice_cmp nat_cmp y.path c.args.path.now) (always_returns_same _ _ _ (λ a r f k. search rules))
    (searchable_from_sorted nat_list_cmp_total path_of c.deref.result.now c.args.path.now rising) in
    subst (λ (xs : List Entry). false ≡ list_any (has_path c.args.path.now) xs) whole (sym (missing c.deref.result.now c.args.path.now c.in-Err.field-0 split.0 split.1))
