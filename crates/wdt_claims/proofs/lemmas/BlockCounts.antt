-- How often a block stands in a list: laws of counting.
use Rattle.std.proofs.Common.{get_or, length, zero, suc, ◌<◌, ◌≡◌, ℕ, ◌+◌, true, false, cond, List, [], ◌∷◌, ◌++◌, take, drop, reverse, refl, sym, ap, ◌∙◌, subst, inl, inr, arith}
use Rattle.std.specs.List.{list_all, insert}
use Rattle.std.specs.List.Sorted.{IsPermutation, IsSorted}
use Rattle.std.specs.Ordering.{is_lt}
use Rattle.std.proofs.lemmas.Bool.{and_parts, and_from, cases_Bool, cond-true, cond-false}
use Rattle.std.proofs.lemmas.List.Sorted.{sum_by-IsPermutation, IsPermutation-reverse, ranks_by, sorted_far}
use Rattle.std.proofs.lemmas.List.Sums.{sum_by-cons, sum_by-append, sum_by_push, sum_by-take-drop, sum_by-insert, list_all-from_AllPass}
use Rattle.wdt_units.specs.declared.blocks.Block.{Block}
use Rattle.wdt_units.proofs.Shared.{all_before, rising_at as ordered_at, rising_insert as ordered_insert}
use Rattle.wdt_claims.specs.Blocks.{block_cmp, precedes, is_same, are_rising, count_of, HaveSameBlocks, AreDistinct}
use Rattle.wdt_claims.proofs.lemmas.BlockOrder.{block_total, one_block, same_back, same_itself, ordered, precedes_other, precedes_trans, precedes_back}

abbrev pub one_if_same : Block → Block → ℕ
one_if_same b x = cond (is_same b x) 1 0

pub count_of-nil : (b : Block) → count_of b [] ≡ 0
unfolding count_of
count_of-nil b = refl

pub count_of-cons : (b x : Block) (xs : List Block) → count_of b (x ∷ xs) ≡ one_if_same b x + count_of b xs
unfolding count_of
count_of-cons b x xs = sum_by-cons (one_if_same b) x xs

pub count_of-append : (b : Block) (xs ys : List Block) → count_of b (xs ++ ys) ≡ count_of b xs + count_of b ys
unfolding count_of
count_of-append b xs ys = sum_by-append (one_if_same b) xs ys

pub count_of-push : (b : Block) (xs : List Block) (x : Block) → count_of b (xs ++ x ∷ []) ≡ count_of b xs + one_if_same b x
unfolding count_of
count_of-push b xs x = sum_by_push (one_if_same b) xs x

pub count_of-parts : (b : Block) (xs : List Block) (n : ℕ) → count_of b (take n xs) + count_of b (drop n xs) ≡ count_of b xs
unfolding count_of
count_of-parts b xs n = sum_by-take-drop (one_if_same b) xs n

pub count_of-insert : (b : Block) (xs : List Block) (i : ℕ) (x : Block) → count_of b (insert xs i x) ≡ count_of b xs + one_if_same b x
unfolding count_of
count_of-insert b xs i x = sum_by-insert (one_if_same b) xs i x

pub count_of-permutation : (b : Block) (xs ys : List Block) → IsPermutation xs ys → count_of b ys ≡ count_of b xs
unfolding count_of
count_of-permutation b xs ys p = sum_by-IsPermutation (one_if_same b) xs ys p

pub count_of-reverse : (b : Block) (xs : List Block) → count_of b (reverse xs) ≡ count_of b xs
count_of-reverse b xs = count_of-permutation b xs (reverse xs) (IsPermutation-reverse xs)

pub one_if-true : (b x : Block) → is_same b x ≡ true → one_if_same b x ≡ 1
one_if-true b x h = cond-true {A = ℕ} (is_same b x) 1 0 h

pub one_if-false : (b x : Block) → is_same b x ≡ false → one_if_same b x ≡ 0
one_if-false b x h = cond-false {A = ℕ} (is_same b x) 1 0 h

-- a block that comes before all of a list isn't in it
pub count_of-behind : (b : Block) (xs : List Block) → list_all (precedes b) xs ≡ true → count_of b xs ≡ 0
count_of-behind b [] h = count_of-nil b
count_of-behind b (x ∷ xs) h =
    let parts : (precedes b x ≡ true) × (list_all (precedes b) xs ≡ true) = and_parts (precedes b x) (list_all (precedes b) xs) h in
    omega (arith, count_of-cons b x xs, one_if-false b x ((precedes_other b x parts.0).0), count_of-behind b xs parts.1)

all_behind : (a b : Block) (xs : List Block) → precedes a b ≡ true → list_all (precedes b) xs ≡ true → list_all (precedes a) xs ≡ true
all_behind = all_before precedes precedes_trans

-- rising blocks are distinct
pub rising_distinct : (xs : List Block) → are_rising xs ≡ true → AreDistinct xs
rising_distinct [] up b = omega (arith, count_of-nil b)
rising_distinct (x ∷ xs) up b =
    let parts : (list_all (precedes x) xs ≡ true) × (are_rising xs ≡ true) = and_parts (list_all (precedes x) xs) (are_rising xs) up in
    elim (cases_Bool (is_same b x)) [
      | inl s ↦ omega (arith, count_of-cons b x xs, one_if-true b x s, subst (λ (y : Block). count_of y xs ≡ 0) (sym (one_block b x s)) (count_of-behind x xs parts.0))
      | inr d ↦ omega (arith, count_of-cons b x xs, one_if-false b x d, rising_distinct xs parts.1 b)
    ]

-- the first of a rising list isn't the block before a rising list with the same blocks
not_before : (x y : Block) (xs ys : List Block) → list_all (precedes y) ys ≡ true → HaveSameBlocks (x ∷ xs) (y ∷ ys) → precedes x y ≡ true → ⊥
not_before x y xs ys up same before =
    omega (
      arith,
      same x,
      count_of-cons x x xs,
      one_if-true x x (same_itself x),
      count_of-cons x y ys,
      one_if-false x y ((precedes_other x y before).0),
      count_of-behind x ys (all_behind x y ys before up),
    )

-- rising lists with the same blocks are one
pub rising_once : (xs ys : List Block) → are_rising xs ≡ true → are_rising ys ≡ true → HaveSameBlocks xs ys → xs ≡ ys
rising_once [] [] u v same = refl
rising_once [] (y ∷ ys) u v same = absurd (omega (arith, same y, count_of-nil y, count_of-cons y y ys, one_if-true y y (same_itself y)))
rising_once (x ∷ xs) [] u v same = absurd (omega (arith, same x, count_of-nil x, count_of-cons x x xs, one_if-true x x (same_itself x)))
rising_once (x ∷ xs) (y ∷ ys) u v same =
    elim (ordered x y) [
      | inl s ↦
          let e : x ≡ y = one_block x y s in
          let rest : HaveSameBlocks xs ys = λ b. omega (arith, same b, count_of-cons b x xs, count_of-cons b y ys, ap (one_if_same b) e) in
          ap (λ (z : Block). z ∷ xs) e ∙ ap (λ (zs : List Block). y ∷ zs) (rising_once xs ys us.1 vs.1 rest)
      | inr o ↦ elim o [
        | inl before ↦ absurd (not_before x y xs ys vs.0 same before)
        | inr behind ↦ absurd (not_before y x ys xs us.0 (λ b. sym (same b)) behind)
      ]
    ]
  where
    us : (list_all (precedes x) xs ≡ true) × (are_rising xs ≡ true)
    us = and_parts (list_all (precedes x) xs) (are_rising xs) u

    vs : (list_all (precedes y) ys ≡ true) × (are_rising ys ≡ true)
    vs = and_parts (list_all (precedes y) ys) (are_rising ys) v

-- a block that a list doesn't have is none of it
pub other_at : (b : Block) (xs : List Block) (k : ℕ) (d : Block) → count_of b xs ≡ 0 → k < length xs → is_same b (get_or xs k d) ≡ false
other_at b [] k d none lt = absurd (omega arith)
other_at b (x ∷ xs) zero d none lt = elim (cases_Bool (is_same b x)) [ inl s ↦ absurd (omega (arith, none, count_of-cons b x xs, one_if-true b x s)) | inr o ↦ o ]
other_at b (x ∷ xs) (suc k) d none lt = other_at b xs k d (omega (arith, none, count_of-cons b x xs)) (omega arith)

-- distinct blocks that are sorted rise
pub rising_from_sorted : (xs : List Block) → IsSorted block_cmp xs → AreDistinct xs → are_rising xs ≡ true
rising_from_sorted [] sorted once = refl
rising_from_sorted (x ∷ xs) sorted once =
    and_from (list_all (precedes x) xs) (are_rising xs) (list_all-from_AllPass (precedes x) xs behind) (rising_from_sorted xs tail (λ b. omega (arith, once b, count_of-cons b x xs)))
  where
    tail : IsSorted block_cmp xs
    tail k d lo hi =
        let e : suc k + 1 ≡ suc (k + 1) = omega arith in
        subst (λ (n : ℕ). is_lt (block_cmp (get_or (x ∷ xs) n d) (get_or xs k d)) ≡ false) e (sorted (suc k) d (omega arith) (omega arith))

    behind : (k : ℕ) (d : Block) → k < length xs → precedes x (get_or xs k d) ≡ true
    behind k d lt =
        precedes_back (get_or xs k d) x
        (sorted_far (λ (a b : Block). is_lt (block_cmp a b)) (ranks_by block_total (λ (b : Block). b)) (x ∷ xs) sorted 0 (suc k) d (omega arith) (omega arith))
        (same_back x (get_or xs k d) (other_at x xs k d (omega (arith, once x, count_of-cons x x xs, one_if-true x x (same_itself x))) lt))

-- each block of a rising list comes before each later one
pub rising_at : (xs : List Block) (i j : ℕ) (d : Block) → are_rising xs ≡ true → i < j → j < length xs → precedes (get_or xs i d) (get_or xs j d) ≡ true
rising_at = ordered_at precedes

-- a block between rising blocks that come before it and rising blocks that come behind it
pub rising_insert : (xs : List Block) (b : Block) (ys : List Block) → are_rising (xs ++ ys) ≡ true → list_all (λ (x : Block). precedes x b) xs ≡ true → list_all (precedes b) ys ≡ true
    → are_rising (xs ++ b ∷ ys) ≡ true
rising_insert = ordered_insert precedes
