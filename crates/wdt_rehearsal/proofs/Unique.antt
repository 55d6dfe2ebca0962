-- Entries have one order.
use Rattle.std.proofs.Common.{◌≡◌, true, List}
use Rattle.std.specs.List.Sorted.{IsPermutation}
use Rattle.std.proofs.lemmas.List.Sorted.{IsPermutation-sym, IsPermutation-trans}
use Rattle.wdt_tree.specs.declared.entry.Entry.{Entry}
use Rattle.wdt_tree.specs.Listing.{is_below_entry, is_in_order, Orders}
use Rattle.wdt_units.proofs.Shared.{before-one_way, rising_once}

-- two lists of the same entries in the order of their paths are one
pub one-order : (xs ys : List Entry) → is_in_order xs ≡ true → is_in_order ys ≡ true → IsPermutation xs ys → xs ≡ ys
one-order xs ys ux uy p = rising_once is_below_entry (λ a b. before-one_way a.path b.path) xs ys ux uy p

-- a listing has one order
pub one-list : (listing a b : List Entry) → Orders listing a → Orders listing b → a ≡ b
one-list listing a b x y = one-order a b x.rising y.rising (IsPermutation-trans a listing b (IsPermutation-sym listing a x.same) y.same)
