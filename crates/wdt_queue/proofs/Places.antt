-- A list with the greatest block first, and the place of a block in it.
use Rattle.std.proofs.Common.{◌≡◌, ℕ, ◌+◌, ◌-◌, ◌<◌, ◌≤◌, true, false, List, [], ◌∷◌, ◌++◌, get_or, length, take, drop, reverse, sym, ap, ◌∙◌, subst, inl, inr, arith}
use Rattle.std.specs.List.{insert}
use Rattle.std.specs.List.Sorted.{IsPermutation, IsSorted, IsPartitionedBy, IsPartitionPoint}
use Rattle.std.proofs.lemmas.Bool.{cases_eq}
use Rattle.std.proofs.lemmas.List.{reverse-reverse, get_or-reverse, get_or-take, get_or-drop, length-take-le, length-drop, length-reverse, reverse-append, append_assoc, take-append-drop}
use Rattle.std.proofs.lemmas.List.Sorted.{All-permutation, IsPermutation-reverse}
use Rattle.std.proofs.lemmas.List.Sums.{list_all-from_AllPass}
use Rattle.wdt_units.specs.declared.blocks.Block.{Block}
use Rattle.wdt_claims.specs.Blocks.{block_cmp, precedes, are_rising, count_of, AreDistinct, HaveSameBlocks}
use Rattle.wdt_claims.proofs.Shared.{precedes_back, precedes_trans, count_of-cons, count_of-insert, count_of-permutation, count_of-reverse, other_at, rising_at, rising_from_sorted, rising_insert}

-- distinct blocks that were sorted and reversed
pub made_rising : (given sorted back : List Block) → AreDistinct given → IsPermutation given sorted → IsSorted block_cmp sorted → back ≡ reverse sorted → are_rising (reverse back) ≡ true
made_rising given sorted back once same up e =
    subst (λ (xs : List Block). are_rising xs ≡ true) (sym (ap reverse e ∙ reverse-reverse sorted))
    (rising_from_sorted sorted up (λ b. omega (arith, once b, count_of-permutation b given sorted same)))

pub made_same : (given sorted back : List Block) → IsPermutation given sorted → back ≡ reverse sorted → HaveSameBlocks (reverse back) given
made_same given sorted back same e b = ap (count_of b) (ap reverse e ∙ reverse-reverse sorted) ∙ count_of-permutation b given sorted same

-- an element of a list with the greatest first, in the reversed list
turned : (back : List Block) (k : ℕ) (d : Block) → k < length back → get_or (reverse back) (length back - 1 - k) d ≡ get_or back k d
turned back k d lt = get_or-reverse back (length back - 1 - k) d (omega arith) ∙ ap (λ (n : ℕ). get_or back n d) (let e : length back - 1 - (length back - 1 - k) ≡ k = omega arith in e)

later_precedes : (back : List Block) (i j : ℕ) (d : Block) → are_rising (reverse back) ≡ true → i < j → j < length back → precedes (get_or back j d) (get_or back i d) ≡ true
later_precedes back i j d up lt within =
    subst (λ (x : Block). precedes x (get_or back i d) ≡ true) (turned back j d within)
    (subst (λ (y : Block). precedes (get_or (reverse back) (length back - 1 - j) d) y ≡ true) (turned back i d (omega arith))
    (rising_at (reverse back) (length back - 1 - j) (length back - 1 - i) d up (omega arith) (omega (arith, length-reverse back))))

-- the greater blocks stand in front
pub greater_first : (back : List Block) (b : Block) → are_rising (reverse back) ≡ true → IsPartitionedBy (precedes b) back
greater_first back b up i j d le within this = elim (cases_eq i j) [
  | inl e ↦ subst (λ (k : ℕ). precedes b (get_or back k d) ≡ true) (sym e) this
  | inr other ↦ precedes_trans b (get_or back j d) (get_or back i d) this (later_precedes back i j d up (omega arith) within)
]

-- a block put to its place
put_is : (back : List Block) (place : ℕ) (b : Block) → reverse (insert back place b) ≡ reverse (drop place back) ++ b ∷ reverse (take place back)
put_is back place b = reverse-append (take place back) (b ∷ drop place back) ∙ ap (λ (xs : List Block). xs ++ reverse (take place back)) (reverse-append (b ∷ []) (drop place back)) ∙ append_assoc (reverse (drop place back)) (b ∷ []) (reverse (take place back))

parts_are : (back : List Block) (place : ℕ) → reverse (drop place back) ++ reverse (take place back) ≡ reverse back
parts_are back place = sym (reverse-append (take place back) (drop place back)) ∙ ap reverse (take-append-drop place back)

pub put_rising : (back : List Block) (place : ℕ) (b : Block) → are_rising (reverse back) ≡ true → count_of b (reverse back) ≡ 0 → place ≤ length back
    → IsPartitionPoint (λ (y : Block). precedes b y ≡ true) (λ (y : Block). precedes b y ≡ false) back place → are_rising (reverse (insert back place b)) ≡ true
put_rising back place b up absent within point =
    subst (λ (xs : List Block). are_rising xs ≡ true) (sym (put_is back place b))
    (rising_insert (reverse (drop place back)) b (reverse (take place back)) (subst (λ (xs : List Block). are_rising xs ≡ true) (sym (parts_are back place)) up)
    (list_all-from_AllPass (λ (x : Block). precedes x b) (reverse (drop place back)) (All-permutation (λ (x : Block). precedes x b ≡ true) (drop place back) (reverse (drop place back)) (IsPermutation-reverse (drop place back)) least))
    (list_all-from_AllPass (precedes b) (reverse (take place back)) (All-permutation (λ (x : Block). precedes b x ≡ true) (take place back) (reverse (take place back)) (IsPermutation-reverse (take place back)) great)))
  where
    none : count_of b back ≡ 0
    none = sym (count_of-reverse b back) ∙ absent

    least : (k : ℕ) (d : Block) → k < length (drop place back) → precedes (get_or (drop place back) k d) b ≡ true
    least k d lt =
        let here : place + k < length back = omega (arith, length-drop place back) in
        subst (λ (x : Block). precedes x b ≡ true) (sym (get_or-drop place back k d)) (precedes_back b (get_or back (place + k) d) (point.1 (place + k) d (omega arith) here) (other_at b back (place + k) d none here))

    great : (k : ℕ) (d : Block) → k < length (take place back) → precedes b (get_or (take place back) k d) ≡ true
    great k d lt =
        let here : k < place = omega (arith, length-take-le place back within) in
        subst (λ (x : Block). precedes b x ≡ true) (sym (get_or-take place back k d here)) (point.0 k d (omega arith) here)

pub put_same : (back : List Block) (place : ℕ) (b : Block) → HaveSameBlocks (reverse (insert back place b)) (b ∷ reverse back)
put_same back place b x = omega (arith, count_of-reverse x (insert back place b), count_of-insert x back place b, count_of-cons x b (reverse back), count_of-reverse x back)
