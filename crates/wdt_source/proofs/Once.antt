-- Files have one order, and `in_order` finds it.
use Rattle.std.proofs.Common.{◌≡◌, Bool, true, false, List, [], ◌∷◌, Option, Some, None, refl, sym, ap, ◌∙◌, if◌then◌else◌}
use Rattle.std.specs.Prelude.{IsTrue}
use Rattle.std.specs.List.{AllByRecursion, IsDistinct, list_all, list_any}
use Rattle.std.specs.List.Sorted.{IsPermutation}
use Rattle.std.specs.Ordering.{is_eq, is_lt, nat_cmp, ordering_reverse}
use Rattle.std.specs.declared.cmp.Ordering.{Ordering}
use Rattle.std.specs.declared.cmp.Ordering.TheVariants.{Less, Equal, Greater}
use Rattle.std.specs.Cmp.Lexicographic.{slice_cmp}
use Rattle.std.specs.Str.{bytes_eq}
use Rattle.std.proofs.lemmas.Bool.{and_from, or_parts}
use Rattle.std.proofs.lemmas.Cmp.{eq_by_cmp_equiv, nat_list_cmp_total}
use Rattle.std.proofs.lemmas.List.Sorted.{IsPermutation-sym, IsPermutation-trans, list_any-IsPermutation}
use Rattle.std.proofs.lemmas.Map.Keys.{IsDistinct-IsPermutation}
use Rattle.std.proofs.lemmas.Map.Text.{is_eq-slice_cmp}
use Rattle.wdt_units.specs.Tree.{File, is_below, is_rising, is_tree}
use Rattle.std.proofs.lemmas.Bool.{and_parts}
use Rattle.wdt_units.proofs.Shared.{all_before, before_both, before-one_way, less, rising_once}
use Rattle.wdt_tree.proofs.Shared.{rising}
use Rattle.wdt_source.specs.Laws.{same_files}
use Rattle.wdt_source.specs.Order.{put, in_order, tree_of}
use Rattle.wdt_source.specs.Place.{has_path}

-- ---- a rising list is one

one-order : (xs ys : List File) → is_rising xs ≡ true → is_rising ys ≡ true → IsPermutation xs ys → xs ≡ ys
one-order xs ys ux uy p = rising_once is_below (λ a b. before-one_way a.path b.path) xs ys ux uy p

-- ---- files whose paths differ rise in order

below_all : (a b : File) (xs : List File) → is_below a b ≡ true → list_all (is_below b) xs ≡ true → list_all (is_below a) xs ≡ true
below_all = all_before is_below (λ a b c. before_both a.path b.path c.path)

put_all : (p : File → Bool) (file : File) (xs : List File) → p file ≡ true → list_all p xs ≡ true → list_all p (put file xs) ≡ true
put_all p file [] here all = and_from (p file) true here refl
put_all p file (x ∷ xs) here all =
    let parts : (p x ≡ true) × (list_all p xs ≡ true) = and_parts (p x) (list_all p xs) all in
    elim (is_below x file) as (λ b. list_all p (if b then x ∷ put file xs else file ∷ x ∷ xs) ≡ true) [
      | true ↦ and_from (p x) (list_all p (put file xs)) parts.0 (put_all p file xs here parts.1)
      | false ↦ and_from (p file) (list_all p (x ∷ xs)) here all
    ]

below_other : (o p : Ordering) → p ≡ ordering_reverse o → is_lt o ≡ false → is_eq o ≡ false → is_lt p ≡ true
below_other Less p e h k = cc
below_other Equal p e h k = cc
below_other Greater p e h k = ap is_lt e

put_step : (file x : File) (xs : List File) → is_rising (x ∷ xs) ≡ true → has_path file.path x ≡ false → is_rising (put file xs) ≡ true
    → (b : Bool) → is_below x file ≡ b → is_rising (if b then x ∷ put file xs else file ∷ x ∷ xs) ≡ true
put_step file x xs up other rest true e =
    and_from (list_all (is_below x) (put file xs)) (is_rising (put file xs)) (put_all (is_below x) file xs e ((and_parts (list_all (is_below x) xs) (is_rising xs) up).0)) rest
put_step file x xs up other rest false e =
    let low : is_below file x ≡ true = below_other (slice_cmp nat_cmp x.path file.path) (slice_cmp nat_cmp file.path x.path) (nat_list_cmp_total.antisymm file.path x.path) e (is_eq-slice_cmp x.path file.path ∙ other) in
    and_from (list_all (is_below file) (x ∷ xs)) (is_rising (x ∷ xs))
    (and_from (is_below file x) (list_all (is_below file) xs) low (below_all file x xs low ((and_parts (list_all (is_below x) xs) (is_rising xs) up).0)))
    up

put_rises : (file : File) (xs : List File) → is_rising xs ≡ true → list_any (has_path file.path) xs ≡ false → is_rising (put file xs) ≡ true
put_rises file [] up other = refl
put_rises file (x ∷ xs) up other =
    let parts : (has_path file.path x ≡ false) × (list_any (has_path file.path) xs ≡ false) = or_parts (has_path file.path x) (list_any (has_path file.path) xs) other in
    put_step file x xs up parts.0 (put_rises file xs ((and_parts (list_all (is_below x) xs) (is_rising xs) up).1) parts.1) (is_below x file) refl

same_path : File → File → Bool
same_path a b = bytes_eq b.path a.path

flips : (a b : File) → same_path a b ≡ same_path b a
unfolding same_path
flips a b = sym (is_eq-slice_cmp b.path a.path) ∙ (eq_by_cmp_equiv nat_list_cmp_total).symm b.path a.path ∙ is_eq-slice_cmp a.path b.path

none_same : (file : File) (xs : List File) → AllByRecursion (λ (y : File). same_path file y ≡ false) xs → list_any (has_path file.path) xs ≡ false
unfolding same_path
none_same file [] h = refl
none_same file (x ∷ xs) h = rw (h.0) (none_same file xs (h.1))

apart : (x : File) (xs : List File) → list_all (is_below x) xs ≡ true → AllByRecursion (λ (y : File). same_path x y ≡ false) xs
unfolding same_path
apart x [] h = tt
apart x (y ∷ ys) h =
    let parts : (is_below x y ≡ true) × (list_all (is_below x) ys ≡ true) = and_parts (is_below x y) (list_all (is_below x) ys) h in
    let other : bytes_eq x.path y.path ≡ false = sym (is_eq-slice_cmp x.path y.path) ∙ ap is_eq (less (slice_cmp nat_cmp x.path y.path) parts.0) in
    (flips x y ∙ other, apart x ys parts.1)

distinct : (xs : List File) → is_rising xs ≡ true → IsDistinct same_path xs
unfolding IsDistinct
distinct [] up = tt
distinct (x ∷ xs) up =
    let parts : (list_all (is_below x) xs ≡ true) × (is_rising xs ≡ true) = and_parts (list_all (is_below x) xs) (is_rising xs) up in
    (apart x xs parts.0, distinct xs parts.1)

in_order_rises : (files : List File) → IsDistinct same_path files → is_rising (in_order files) ≡ true
unfolding IsDistinct
in_order_rises [] d = refl
in_order_rises (file ∷ files) d =
    put_rises file (in_order files) (in_order_rises files d.1) (sym (list_any-IsPermutation (has_path file.path) files (in_order files) (same_files files)) ∙ none_same file files d.0)

-- ---- files are told as the tree of which they are the files

pub told : (tree files : List File) → IsTrue (is_tree tree) → IsPermutation tree files → tree_of files ≡ Some tree
told tree files h same =
    let up : is_rising tree ≡ true = rising tree h in
    let rises : is_rising (in_order files) ≡ true = in_order_rises files (IsDistinct-IsPermutation same_path flips tree files same (distinct tree up)) in
    let moved : IsPermutation tree (in_order files) = IsPermutation-trans tree files (in_order files) same (same_files files) in
    let one : in_order files ≡ tree = sym (one-order tree (in_order files) up rises moved) in
    let tell : List File → Option (List File) = λ t. if is_tree t then Some t else None in
    ap tell one ∙ rw h refl

pub only_told : (tree files : List File) → tree_of files ≡ Some tree → IsTrue (is_tree tree) × IsPermutation tree files
only_told tree files = go (is_tree (in_order files)) refl
  where
    go : (b : Bool) → is_tree (in_order files) ≡ b → (if b then Some (in_order files) else None) ≡ Some tree → IsTrue (is_tree tree) × IsPermutation tree files
    go false e h = cc
    go true e h =
        let one : in_order files ≡ tree = cc in
        rw (sym one) (e, IsPermutation-sym files (in_order files) (same_files files))
