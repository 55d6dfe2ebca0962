use Rattle.std.proofs.Common.{◌≡◌, ◌≤◌, arith, List, length, map, sum_by, sym, ap, ◌∙◌, subst}
use Rattle.std.specs.List.Sorted.{IsPermutation}
use Rattle.std.proofs.lemmas.List.{length-map}
use Rattle.std.proofs.lemmas.List.Sorted.{sum_by-IsPermutation}
use Rattle.std.proofs.lemmas.Option.{MatchOption-at_none}
use Rattle.wdt_tree.specs.declared.entry.Entry.{Entry}
use Rattle.wdt_tree.specs.Listing.{entry_of, size_of, NoneTwiceBefore, NoFaultBefore}
use Rattle.wdt_tree.proofs.lemmas.Order.{made, ordered}
use Rattle.wdt_tree.proofs.lemmas.Refusals.{accepts}
use Rattle.wdt_tree.proofs.manifest.Manifest.check.Goals as goal

pub returns-clause-entries : goal.returns-clause-entries
returns-clause-entries c =
    let whole : c.in_ok-entries.entries.items ≡ map entry_of c.args.raw.items = c.in_ok-entries.ensures.entries ∙ ap (map entry_of) c.deref.ensures.value in
    let same = subst (λ (xs : List Entry). IsPermutation xs c.sort.new.entries.items) whole c.sort.ensures.permutation in
    let once = subst (λ (xs : List Entry). NoneTwiceBefore xs (length xs)) (c.deref-2.ensures.value ∙ whole) (MatchOption-at_none _ _ c.in_default.is c.in_ok-at.ensures.none) in
    ordered (map entry_of c.args.raw.items) c.sort.new.entries.items once same c.in_ok-sort.ensures.sorted

pub returns-clause-refuses : goal.returns-clause-refuses
returns-clause-refuses c =
    let whole : c.in_ok-entries.entries.items ≡ map entry_of c.args.raw.items = c.in_ok-entries.ensures.entries ∙ ap (map entry_of) c.deref.ensures.value in
    let once = subst (λ (xs : List Entry). NoneTwiceBefore xs (length xs)) (c.deref-2.ensures.value ∙ whole) (MatchOption-at_none _ _ c.in_default.is c.in_ok-at.ensures.none) in
    let few : length (map entry_of c.args.raw.items) ≤ 262144 = omega (arith, length-map c.args.raw.items entry_of, ap length c.deref.ensures.value) in
    let right : NoFaultBefore (map entry_of c.args.raw.items) (length (map entry_of c.args.raw.items)) =
    subst (λ xs. NoFaultBefore (map entry_of xs) (length (map entry_of xs))) c.deref.ensures.value (λ k h. c.in_ok-entries.ensures.right k (omega (arith, length-map c.deref.result.now entry_of))) in
    accepts (map entry_of c.args.raw.items) (record { few = few; right = right; once = once })

pub invariant_of-result : goal.invariant_of-result
invariant_of-result c =
    let whole : c.in_ok-entries.entries.items ≡ map entry_of c.args.raw.items = c.in_ok-entries.ensures.entries ∙ ap (map entry_of) c.deref.ensures.value in
    let same = subst (λ (xs : List Entry). IsPermutation xs c.sort.new.entries.items) whole c.sort.ensures.permutation in
    let once = subst (λ (xs : List Entry). NoneTwiceBefore xs (length xs)) (c.deref-2.ensures.value ∙ whole) (MatchOption-at_none _ _ c.in_default.is c.in_ok-at.ensures.none) in
    let listed : map entry_of c.deref.result.now ≡ map entry_of c.args.raw.items = ap (map entry_of) c.deref.ensures.value in
    let few : length (map entry_of c.args.raw.items) ≤ 262144 = omega (arith, length-map c.args.raw.items entry_of, ap length c.deref.ensures.value) in
    let total : c.in_ok-entries.total ≡ sum_by size_of (map entry_of c.args.raw.items) = c.in_ok-entries.ensures.total ∙ ap (sum_by size_of) listed in
    let right : NoFaultBefore (map entry_of c.args.raw.items) (length (map entry_of c.args.raw.items)) =
    subst (λ xs. NoFaultBefore (map entry_of xs) (length (map entry_of xs))) c.deref.ensures.value (λ k h. c.in_ok-entries.ensures.right k (omega (arith, length-map c.deref.result.now entry_of))) in (
      made (map entry_of c.args.raw.items) c.sort.new.entries.items few (omega (arith, total, c.in_ok-entries.ensures.fits)) right once same c.in_ok-sort.ensures.sorted,
      total ∙ sym (sum_by-IsPermutation size_of (map entry_of c.args.raw.items) c.sort.new.entries.items same),
    )
