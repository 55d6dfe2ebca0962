-- Lists in the order of their paths: which are sorted, which rise, and where a path stands.
use Rattle.std.proofs.Common.{◌≡◌, ℕ, zero, suc, ◌+◌, ◌<◌, ◌≤◌, ◌^◌, Bool, true, false, cond, List, [], ◌∷◌, length, take, sum_by, count_by, slice_get, get_or, Some, refl, sym, ap, ◌∙◌, arith, inl, inr, subst, add-one}
use Rattle.std.specs.List.{list_any, HoldsAt, AllWithin}
use Rattle.std.specs.Option.{option_map}
use Rattle.std.specs.List.Sorted.{IsPermutation}
use Rattle.std.specs.Ordering.{is_lt, is_eq, nat_cmp}
use Rattle.std.specs.declared.cmp.Ordering.TheVariants.{Less, Equal, Greater}
use Rattle.std.specs.Cmp.Lexicographic.{slice_cmp}
use Rattle.std.specs.Str.{bytes_eq}
use Rattle.std.proofs.lemmas.Bool.{or_parts, cond-false, cond-true, false_from_ne_true, cases_lt, cases_Bool}
use Rattle.std.proofs.lemmas.Cmp.{nat_list_cmp_total}
use Rattle.std.proofs.lemmas.List.{take_all}
use Rattle.std.proofs.lemmas.List.Folds.{list_any_at, list_any_none}
use Rattle.std.proofs.lemmas.List.Sorted.{All-permutation, ranks_by, sorted_far, sum_by-IsPermutation, length_permutation}
use Rattle.std.proofs.lemmas.List.Sums.{sum_by-cons, sum_by_more, get_or-le-sum_by, AllPass-from_list_all, list_all-from_AllPass}
use Rattle.std.proofs.lemmas.Map.Text.{is_eq-slice_cmp}
use Rattle.std.proofs.lemmas.Option.{slice_get-get_or}
use Rattle.std.proofs.lemmas.Slice.Eq.{bytes_eq-Decides}
use Rattle.wdt_units.proofs.Shared.{before_back, rising_at, rising_from_pairs}
use Rattle.wdt_tree.specs.declared.entry.Entry.{Entry}
use Rattle.wdt_tree.specs.Listing.{size_of, path_of, has_path, is_entry, is_twice, is_path_among, is_below_entry, is_in_order, IsManifest, IsSortedByPath, NoneTwiceBefore, NoFaultBefore, Orders}
use Rattle.wdt_tree.proofs.lemmas.Scan.{all_fine}

nothing : Entry
nothing = record { path = []; size = 0; stamp = 0 }

-- ---- how often a path stands in a list

none_counts : (p : Entry → Bool) (xs : List Entry) → list_any p xs ≡ false → count_by p xs ≡ 0
none_counts p [] h = refl
none_counts p (x ∷ xs) h =
    let parts : (p x ≡ false) × (list_any p xs ≡ false) = or_parts (p x) (list_any p xs) h in
    omega (arith, sum_by-cons (λ y. cond (p y) 1 0) x xs, cond-false {A = ℕ} (p x) 1 0 parts.0, none_counts p xs parts.1)

pub two_count : {X : Type 0} (p : X → Bool) (xs : List X) (i j : ℕ) (d : X) → i < j → j < length xs → p (get_or xs i d) ≡ true → p (get_or xs j d) ≡ true → 2 ≤ count_by p xs
two_count p [] i j d lt within a b = absurd (omega arith)
two_count p (x ∷ xs) i zero d lt within a b = absurd (omega arith)
two_count p (x ∷ xs) zero (suc j) d lt within a b =
    omega (arith, sum_by-cons (λ y. cond (p y) 1 0) x xs, cond-true {A = ℕ} (p x) 1 0 a, get_or-le-sum_by (λ y. cond (p y) 1 0) xs j d (omega arith), cond-true {A = ℕ} (p (get_or xs j d)) 1 0 b)
two_count p (x ∷ xs) (suc i) (suc j) d lt within a b =
    omega (arith, sum_by-cons (λ y. cond (p y) 1 0) x xs, two_count p xs i j d (omega arith) (omega arith) a b)

same_path : (a b : List ℕ) → bytes_eq a b ≡ true → a ≡ b
same_path a b = (bytes_eq-Decides a b).0

count_step : (xs : List Entry) (path : List ℕ) (i : ℕ) → i < length xs → is_twice xs i ≡ false → count_by (has_path path) (take i xs) ≤ 1
    → count_by (has_path path) (take (i + 1) xs) ≤ 1
count_step xs path i lt once few = elim (cases_Bool (has_path path x)) [
  | inl this ↦
      let none : list_any (has_path x.path) (take i xs) ≡ false = sym (ap (is_path_among (take i xs)) (slice_get-get_or xs i nothing lt)) ∙ once in
      let here : list_any (has_path path) (take i xs) ≡ false = subst (λ q. list_any (has_path q) (take i xs) ≡ false) (same_path x.path path this) none in
      omega (arith, more, cond-true {A = ℕ} (has_path path x) 1 0 this, none_counts (has_path path) (take i xs) here)
  | inr other ↦ omega (arith, more, cond-false {A = ℕ} (has_path path x) 1 0 other, few)
]
  where
    x : Entry
    x = get_or xs i nothing

    more : sum_by (λ y. cond (has_path path y) 1 0) (take (i + 1) xs) ≡ sum_by (λ y. cond (has_path path y) 1 0) (take i xs) + cond (has_path path (get_or xs i nothing)) 1 0
    more = sum_by_more (λ y. cond (has_path path y) 1 0) xs i nothing lt

count_upto : (xs : List Entry) (path : List ℕ) → NoneTwiceBefore xs (length xs) → (i : ℕ) → i ≤ length xs → count_by (has_path path) (take i xs) ≤ 1
count_upto xs path once zero le = omega arith
count_upto xs path once (suc i) le =
    let lt : i < length xs = omega arith in
    subst (λ n. count_by (has_path path) (take n xs) ≤ 1) (add-one i) (count_step xs path i lt (once i lt) (count_upto xs path once i (omega arith)))

-- no path stands twice
count_once : (xs : List Entry) (path : List ℕ) → NoneTwiceBefore xs (length xs) → count_by (has_path path) xs ≤ 1
count_once xs path once =
    subst (λ ys. count_by (has_path path) ys ≤ 1) (take_all (length xs) xs (omega arith)) (count_upto xs path once (length xs) (omega arith))

-- ---- rising lists

pub in_order_at : (xs : List Entry) (i j : ℕ) (d : Entry) → is_in_order xs ≡ true → i < j → j < length xs → is_below_entry (get_or xs i d) (get_or xs j d) ≡ true
in_order_at = rising_at is_below_entry

pub sorted_from : (xs : List Entry) → is_in_order xs ≡ true → IsSortedByPath xs
sorted_from xs up k d lo hi =
    (ranks_by nat_list_cmp_total path_of).one_way (get_or xs k d) (get_or xs (k + 1) d) (in_order_at xs k (k + 1) d up (omega arith) hi)

-- a sorted list with the files of a list in which no path stands twice rises
pub rises : (xs ys : List Entry) → NoneTwiceBefore xs (length xs) → IsPermutation xs ys → IsSortedByPath ys → is_in_order ys ≡ true
rises xs ys once same sorted = rising_from_pairs is_below_entry ys pair
  where
    few : (path : List ℕ) → count_by (has_path path) ys ≤ 1
    few path = omega (arith, sum_by-IsPermutation (λ y. cond (has_path path y) 1 0) xs ys same, count_once xs path once)

    differ : (i j : ℕ) (d : Entry) → i < j → j < length ys → bytes_eq (get_or ys i d).path (get_or ys j d).path ≡ false
    differ i j d lt within = false_from_ne_true (bytes_eq (get_or ys i d).path (get_or ys j d).path)
        (λ e. absurd (omega (
          arith,
          few (get_or ys j d).path,
          two_count (has_path (get_or ys j d).path) ys i j d lt within e ((bytes_eq-Decides (get_or ys j d).path (get_or ys j d).path).1 refl),
        )))

    pair : (i j : ℕ) (d : Entry) → i < j → j < length ys → is_below_entry (get_or ys i d) (get_or ys j d) ≡ true
    pair i j d lt within = before_back (get_or ys i d).path (get_or ys j d).path
        (sorted_far (λ (x : Entry) (y : Entry). is_lt (slice_cmp nat_cmp (path_of x) (path_of y))) (ranks_by nat_list_cmp_total path_of) ys sorted i j d (omega arith) within)
        (differ i j d lt within)

-- ---- manifests

pub ordered : (xs ys : List Entry) → NoneTwiceBefore xs (length xs) → IsPermutation xs ys → IsSortedByPath ys → Orders xs ys
ordered xs ys once same sorted = record { same = same; rising = rises xs ys once same sorted }

pub made : (xs ys : List Entry) → length xs ≤ 262144 → sum_by size_of xs ≤ 2 ^ 50 → NoFaultBefore xs (length xs) → NoneTwiceBefore xs (length xs) → IsPermutation xs ys → IsSortedByPath ys
    → IsManifest ys
made xs ys few fits right once same sorted = record {
  few = omega (arith, length_permutation xs ys same);
  each = list_all-from_AllPass is_entry ys (All-permutation (λ x. is_entry x ≡ true) xs ys same (AllPass-from_list_all is_entry xs (all_fine xs right)));
  total = omega (arith, sum_by-IsPermutation size_of xs ys same);
  rising = rises xs ys once same sorted;
}

-- ---- where a path stands

pub found_at : (xs : List Entry) (path : List ℕ) (at : ℕ) → at < length xs → HoldsAt (λ (y : Entry). slice_cmp nat_cmp y.path path ≡ Equal) xs at
    → (option_map path_of (slice_get xs at) ≡ Some path) × (list_any (has_path path) xs ≡ true)
found_at xs path at within holds =
    let test : bytes_eq (get_or xs at nothing).path path ≡ true = sym (is_eq-slice_cmp (get_or xs at nothing).path path) ∙ ap is_eq (holds nothing) in
    (ap (option_map path_of) (slice_get-get_or xs at nothing within) ∙ ap Some (same_path (get_or xs at nothing).path path test), list_any_at (has_path path) xs at nothing within test)

pub missing : (xs : List Entry) (path : List ℕ) (i : ℕ) → AllWithin (λ (y : Entry). slice_cmp nat_cmp y.path path ≡ Less) xs 0 i
    → AllWithin (λ (y : Entry). slice_cmp nat_cmp y.path path ≡ Greater) xs i (length xs) → list_any (has_path path) xs ≡ false
missing xs path i low high = list_any_none (has_path path) xs (λ k d lt. elim (cases_lt k i) [
  | inl a ↦ sym (is_eq-slice_cmp (get_or xs k d).path path) ∙ ap is_eq (low k d (omega arith) a)
  | inr b ↦ sym (is_eq-slice_cmp (get_or xs k d).path path) ∙ ap is_eq (high k d b lt)
])
