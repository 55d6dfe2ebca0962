-- What a destination has: its order as a place and as a test, and lists that don't differ.
use Rattle.std.proofs.Common.{◌≡◌, ℕ, zero, suc, ◌+◌, ◌<◌, ◌==◌, ◌&&◌, List, [], ◌∷◌, length, get_or, Bool, true, false, if◌then◌else◌, Option, Some, None, refl, arith, bytes_eq, eq-eqb}
use Rattle.std.specs.List.{list_all}
use Rattle.std.proofs.lemmas.Bool.{and_parts, eqb-true}
use Rattle.std.proofs.lemmas.Slice.Eq.{bytes_eq-Decides}
use Rattle.wdt_units.specs.Have.{PlainSpan, HaveFile}
use Rattle.wdt_units.specs.Tree.{is_before}
use Rattle.wdt_ranges.specs.Files.{is_before_file, is_in_order}
use Rattle.wdt_ranges.proofs.ForCallers.{in_order_from}
use Rattle.wdt_sender_fsm.specs.Chunks.{unordered_from, unordered_at, different_from, different_at, is_same_span, are_same_spans, is_same_file}

-- ---- order

some_none : {X Y : Type 0} (x : X) → Some x ≡ None → Y
some_none x e = cc

-- a list without such a place is in order
none_then : (b : Bool) (at : ℕ) (rest : Option ℕ) → (if b then rest else Some at) ≡ None → (b ≡ true) × (rest ≡ None)
none_then true at rest e = (refl, e)
none_then false at rest e = cc

rises_from : (at : ℕ) (file : HaveFile) (files : List HaveFile) → unordered_from at file.path files ≡ None → (k : ℕ) (d : HaveFile) → suc k < length (file ∷ files) → is_before_file (get_or (file ∷ files) k d) (get_or (file ∷ files) (suc k) d) ≡ true
rises_from at file [] e k d lt = absurd (omega (arith, lt))
rises_from at file (next ∷ files) e zero d lt = (none_then (is_before file.path next.path) at (unordered_from (at + 1) next.path files) e).0
rises_from at file (next ∷ files) e (suc k) d lt =
    rises_from (at + 1) next files (none_then (is_before file.path next.path) at (unordered_from (at + 1) next.path files) e).1 k d (omega (arith, lt))

-- and a list in order has none
orders_from : (at : ℕ) (file : HaveFile) (files : List HaveFile) → is_in_order (file ∷ files) ≡ true → unordered_from at file.path files ≡ None
orders_from at file [] is = refl
orders_from at file (x ∷ xs) is =
    let parts = and_parts (list_all (is_before_file file) (x ∷ xs)) (is_in_order (x ∷ xs)) is in
    let here = and_parts (is_before_file file x) (list_all (is_before_file file) xs) parts.0 in
    rw (here.0) (orders_from (at + 1) x xs parts.1)

pub ordered : (files : List HaveFile) → unordered_at files ≡ None → is_in_order files ≡ true
ordered [] none = refl
ordered (x ∷ xs) none = in_order_from (x ∷ xs) (rises_from 1 x xs none)

pub orders : (files : List HaveFile) → is_in_order files ≡ true → unordered_at files ≡ None
orders [] is = refl
orders (x ∷ xs) is = orders_from 1 x xs is

-- ---- lists that don't differ

same_span : (a b : PlainSpan) → is_same_span a b ≡ true → a ≡ b
same_span a b same = let parts = and_parts (a.offset == b.offset) (a.count == b.count) same in rw (eqb-true a.offset b.offset parts.0, eqb-true a.count b.count parts.1) refl

same_spans : (xs ys : List PlainSpan) → are_same_spans xs ys ≡ true → xs ≡ ys
same_spans [] [] same = refl
same_spans [] (y ∷ ys) same = cc
same_spans (x ∷ xs) [] same = cc
same_spans (x ∷ xs) (y ∷ ys) same =
    let parts = and_parts (is_same_span x y) (are_same_spans xs ys) same in
    rw (same_span x y parts.0, same_spans xs ys parts.1) refl

spans_same : (xs : List PlainSpan) → are_same_spans xs xs ≡ true
spans_same [] = refl
spans_same (x ∷ xs) = rw (eq-eqb x.offset x.offset refl, eq-eqb x.count x.count refl) (spans_same xs)

same_file : (a b : HaveFile) → is_same_file a b ≡ true → a ≡ b
same_file a b same =
    let p = and_parts (bytes_eq a.path b.path && a.size == b.size && a.stamp == b.stamp) (are_same_spans a.spans b.spans) same in
    let q = and_parts (bytes_eq a.path b.path && a.size == b.size) (a.stamp == b.stamp) p.0 in
    let r = and_parts (bytes_eq a.path b.path) (a.size == b.size) q.0 in
    rw ((bytes_eq-Decides a.path b.path).0 r.0, eqb-true a.size b.size r.1, eqb-true a.stamp b.stamp q.1, same_spans a.spans b.spans p.1) refl

file_same : (a : HaveFile) → is_same_file a a ≡ true
file_same a = rw ((bytes_eq-Decides a.path a.path).1 refl, eq-eqb a.size a.size refl, eq-eqb a.stamp a.stamp refl, spans_same a.spans) refl

no_difference_from : (at : ℕ) (xs ys : List HaveFile) → different_from at xs ys ≡ None → xs ≡ ys
no_difference_from at [] [] none = refl
no_difference_from at [] (y ∷ ys) none = some_none at none
no_difference_from at (x ∷ xs) [] none = some_none at none
no_difference_from at (x ∷ xs) (y ∷ ys) none = go (is_same_file x y) refl (no_difference_from (at + 1) xs ys) none where
  go : (b : Bool) → is_same_file x y ≡ b → (different_from (at + 1) xs ys ≡ None → xs ≡ ys) → (if b then different_from (at + 1) xs ys else Some at) ≡ None → x ∷ xs ≡ y ∷ ys
  go true e f n = rw (same_file x y e, f n) refl
  go false e f n = some_none at n

same_from : (at : ℕ) (xs : List HaveFile) → different_from at xs xs ≡ None
same_from at [] = refl
same_from at (x ∷ xs) = rw (file_same x) (same_from (at + 1) xs)

pub no_difference : (xs ys : List HaveFile) → different_at xs ys ≡ None → xs ≡ ys
no_difference xs ys none = no_difference_from 0 xs ys none

pub same_lists : (xs : List HaveFile) → different_at xs xs ≡ None
same_lists xs = same_from 0 xs
