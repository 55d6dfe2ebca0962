-- Where a block is found in one list.
use Rattle.std.proofs.Common.{◌≡◌, ℕ, suc, ◌+◌, ◌-◌, ◌<◌, ◌≤◌, true, false, ltb, ◌==◌, List, [], ◌∷◌, length, get_or, take, drop, slice_get, Option, Some, None, is_some, refl, sym, ap, ◌∙◌, subst, inl, inr, arith}
use Rattle.std.specs.List.{position, position_or_len}
use Rattle.std.proofs.lemmas.Bool.{cases_Bool, cases_eq, cases_lt, cond-true, eq-eqb, le-ltb, lt-ltb, ltb-false, ne_eqb, or_parts}
use Rattle.std.proofs.lemmas.List.{drop_more, get_or-drop, get_or-take, length-drop, length-take-le}
use Rattle.std.proofs.lemmas.List.Folds.{list_any_at, list_any_none}
use Rattle.std.proofs.lemmas.List.Quantifiers.{position-Some}
use Rattle.std.proofs.lemmas.List.Sums.{fails_before_first, position_or_len_is}
use Rattle.std.proofs.lemmas.Option.{get_or_from_slice_get, slice_get-get_or, slice_get_within}
use Rattle.wdt_units.specs.declared.blocks.Block.{Block}
use Rattle.wdt_claims.specs.Blocks.{count_of, is_same}
use Rattle.wdt_claims.proofs.lemmas.BlockOrder.{one_block, same_itself}
use Rattle.wdt_claims.proofs.lemmas.BlockCounts.{count_of-cons, count_of-nil, count_of-parts, one_if-false, one_if-true, other_at}
use Rattle.wdt_claims.specs.Places.{is_among}

-- the first block that is the same, at an index
first_at : (b : Block) (xs : List Block) (i : ℕ) → position_or_len (is_same b) xs ≡ i → i < length xs → position (is_same b) xs ≡ Some i
first_at b xs i e lt =
    cond-true {A = Option ℕ} (ltb (position_or_len (is_same b) xs) (length xs)) (Some (position_or_len (is_same b) xs)) None (lt-ltb (position_or_len (is_same b) xs) (length xs) (omega (arith, e, lt)))
    ∙ ap Some e

pub counted_at : (b : Block) (xs : List Block) (i : ℕ) → slice_get xs i ≡ Some b → count_of b (take i xs) + 1 ≤ count_of b xs
counted_at b xs i e =
    omega (
      arith,
      count_of-parts b xs i,
      ap (count_of b) (drop_more xs i b (slice_get_within xs i b e) ∙ ap (λ (x : Block). x ∷ drop (i + 1) xs) (get_or_from_slice_get xs i b b e)),
      count_of-cons b b (drop (i + 1) xs),
      one_if-true b b (same_itself b),
    )

-- a block that stands once in a list is found at its index
pub found : (b : Block) (xs : List Block) (i : ℕ) → slice_get xs i ≡ Some b → count_of b xs ≤ 1 → position (is_same b) xs ≡ Some i
found b xs i e once = first_at b xs i (position_or_len_is (is_same b) xs i b (omega (arith, within)) before here) within
  where
    within : i < length xs
    within = slice_get_within xs i b e

    before : (k : ℕ) → k < i → is_same b (get_or xs k b) ≡ false
    before k lt =
        subst (λ (x : Block). is_same b x ≡ false) (get_or-take i xs k b lt)
        (other_at b (take i xs) k b (omega (arith, counted_at b xs i e, once)) (omega (arith, within, length-take-le i xs)))

    here : i < length xs → is_same b (get_or xs i b) ≡ true
    here lt = subst (λ (x : Block). is_same b x ≡ true) (sym (get_or_from_slice_get xs i b b e)) (same_itself b)

none_same : (b : Block) (xs : List Block) → ((k : ℕ) → k < length xs → is_same b (get_or xs k b) ≡ false) → count_of b xs ≡ 0
none_same b [] none = count_of-nil b
none_same b (x ∷ xs) none = omega (arith, count_of-cons b x xs, one_if-false b x (none 0 (omega arith)), none_same b xs (λ k lt. none (suc k) (omega (arith, lt))))

-- a block that isn't found isn't in the list
pub not_found : (b : Block) (xs : List Block) → position (is_same b) xs ≡ None → count_of b xs ≡ 0
not_found b xs none = elim (cases_Bool (ltb (position_or_len (is_same b) xs) (length xs))) [
  | inl t ↦ absurd (other (sym none ∙ cond-true {A = Option ℕ} (ltb (position_or_len (is_same b) xs) (length xs)) (Some (position_or_len (is_same b) xs)) None t))
  | inr f ↦ none_same b xs (λ k lt. fails_before_first (is_same b) xs k b (omega (arith, lt, ltb-false (position_or_len (is_same b) xs) (length xs) f)))
]
  where
    other : None ≡ Some (position_or_len (is_same b) xs) → ⊥
    other e = cc

-- where a block is found, there it stands
pub stands_at : (b : Block) (xs : List Block) (i : ℕ) → position (is_same b) xs ≡ Some i → slice_get xs i ≡ Some b
stands_at b xs i e =
    let first = position-Some (is_same b) xs i b e in
    slice_get-get_or xs i b first.0 ∙ ap Some (sym (one_block b (get_or xs i b) first.1))

-- ---- fronts and ends of the list

pub not_among : (b : Block) (xs : List Block) → count_of b xs ≡ 0 → is_among xs b ≡ false
not_among b xs none = list_any_none (is_same b) xs (λ k d lt. other_at b xs k d none lt)

pub among : (b : Block) (xs : List Block) (i : ℕ) → position (is_same b) xs ≡ Some i → is_among xs b ≡ true
among b xs i e =
    let first = position-Some (is_same b) xs i b e in
    list_any_at (is_same b) xs i b first.0 first.1

-- it stands among the first n where its index is below n
pub among_first : (b : Block) (xs : List Block) (i n : ℕ) → n ≤ length xs → position (is_same b) xs ≡ Some i → is_among (take n xs) b ≡ ltb i n
among_first b xs i n within e =
    let first = position-Some (is_same b) xs i b e in
    elim (cases_lt i n) [
      | inl lt ↦
          list_any_at (is_same b) (take n xs) i b (omega (arith, lt, length-take-le n xs within))
          (subst (λ (x : Block). is_same b x ≡ true) (sym (get_or-take n xs i b lt)) first.1)
          ∙ sym (lt-ltb i n lt)
      | inr ge ↦ list_any_none (is_same b) (take n xs) (λ k d lt. none k d lt (omega (arith, ge, lt, length-take-le n xs within))) ∙ sym (le-ltb i n ge)
    ]
  where
    none : (k : ℕ) (d : Block) → k < length (take n xs) → k < i → is_same b (get_or (take n xs) k d) ≡ false
    none k d lt below =
        subst (λ (x : Block). is_same b x ≡ false) (sym (get_or-take n xs k d (omega (arith, lt, length-take-le n xs within))))
        ((position-Some (is_same b) xs i d e).2 k below)

-- it is the last where its index is
pub among_last : (b : Block) (xs : List Block) (i : ℕ) → count_of b xs ≤ 1 → position (is_same b) xs ≡ Some i → is_among (drop (length xs - 1) xs) b ≡ ((i + 1) == length xs)
among_last b xs i once e =
    let first = position-Some (is_same b) xs i b e in
    let here : slice_get xs i ≡ Some b = stands_at b xs i e in
    elim (cases_eq (i + 1) (length xs)) [
      | inl last ↦
          list_any_at (is_same b) (drop (length xs - 1) xs) 0 b (omega (arith, first.0, length-drop (length xs - 1) xs))
          (subst (λ (x : Block). is_same b x ≡ true) (sym (get_or-drop (length xs - 1) xs 0 b ∙ ap (λ (k : ℕ). get_or xs k b) (let m : length xs - 1 + 0 ≡ i = omega (arith, last) in m))) first.1)
          ∙ sym (eq-eqb (i + 1) (length xs) last)
      | inr other ↦
          not_among b (drop (length xs - 1) xs) (omega (arith, once, count_of-parts b xs (length xs - 1), in_front (omega (arith, first.0, other))))
          ∙ sym (ne_eqb (i + 1) (length xs) other)
    ]
  where
    in_front : i < length xs - 1 → 1 ≤ count_of b (take (length xs - 1) xs)
    in_front lt =
        omega (
          arith,
          counted_at b (take (length xs - 1) xs) i
              (slice_get-get_or (take (length xs - 1) xs) i b (omega (arith, lt, length-take-le (length xs - 1) xs (omega arith)))
              ∙ ap Some (get_or-take (length xs - 1) xs i b lt ∙ get_or_from_slice_get xs i b b (stands_at b xs i e))),
        )

pub absent : (b : Block) (xs : List Block) → is_among xs b ≡ false → count_of b xs ≡ 0
absent b [] gone = count_of-nil b
absent b (x ∷ xs) gone =
    let both = or_parts (is_same b x) (is_among xs b) gone in
    omega (arith, count_of-cons b x xs, one_if-false b x both.0, absent b xs both.1)

pub none_of : (o : Option ℕ) → is_some o ≡ false → o ≡ None
none_of None h = refl
none_of (Some n) h = cc
