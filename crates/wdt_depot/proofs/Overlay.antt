-- Bytes with others put over them.
use Rattle.std.proofs.Common.{◌≡◌, inl, inr, ℕ, ◌+◌, ◌-◌, ◌<◌, ◌≤◌, min, List, ◌++◌, length, take, drop, get_or, sym, ◌∙◌, ap, arith, length-append, length-drop}
use Rattle.std.proofs.lemmas.List.{length-take, take_all, get_or-take, get_or-drop, get_or_append_left, get_or-append_right, ext_get_or, take-append-le}
use Rattle.std.proofs.lemmas.Bool.{cases_lt}

-- the bytes with p from o on, as far as p goes
abbrev pub over : List ℕ → ℕ → List ℕ → List ℕ
over p o y = take o y ++ p ++ drop (o + length p) y

over_before : (p : List ℕ) (o : ℕ) (y : List ℕ) (k : ℕ) → k < length y → k < o → get_or (over p o y) k 0 ≡ get_or y k 0
over_before p o y k below h =
    get_or_append_left (take o y ++ p) (drop (o + length p) y) 0 k (omega (arith, length-take o y, length-append (take o y) p))
    ∙ get_or_append_left (take o y) p 0 k (omega (arith, length-take o y))
    ∙ get_or-take o y k 0 h

over_in : (p : List ℕ) (o : ℕ) (y : List ℕ) (k : ℕ) → k < length y → o ≤ k → k < o + length p → get_or (over p o y) k 0 ≡ get_or p (k - o) 0
over_in p o y k below h g =
    get_or_append_left (take o y ++ p) (drop (o + length p) y) 0 k (omega (arith, length-take o y, length-append (take o y) p))
    ∙ get_or-append_right (take o y) p o k 0 (omega (arith, length-take o y)) h

over_behind : (p : List ℕ) (o : ℕ) (y : List ℕ) (k : ℕ) → k < length y → o + length p ≤ k → get_or (over p o y) k 0 ≡ get_or y k 0
over_behind p o y k below h =
    get_or-append_right (take o y ++ p) (drop (o + length p) y) (o + length p) k 0 (omega (arith, length-take o y, length-append (take o y) p)) h
    ∙ get_or-drop (o + length p) y (k - (o + length p)) 0
    ∙ ap (λ (n : ℕ). get_or y n 0) (omega (arith, h))

over_long : (p : List ℕ) (o : ℕ) (y : List ℕ) → length y ≤ length (over p o y)
over_long p o y = omega (arith, length-take o y, length-append (take o y) p, length-append (take o y ++ p) (drop (o + length p) y), length-drop (o + length p) y)

-- the bytes cut first are the bytes cut afterwards
pub cut_over : (b p : List ℕ) (o s : ℕ) → take (length (take s b)) (over p o (take s b)) ≡ take (min s (length b)) (over p o b)
cut_over b p o s = ext_get_or 0 _ _ (sizes_y ∙ sym sizes_b) each
  where
    y : List ℕ
    y = take s b

    sizes_y : length (take (length y) (over p o y)) ≡ min s (length b)
    sizes_y = omega (arith, length-take (length y) (over p o y), over_long p o y, length-take s b)

    sizes_b : length (take (min s (length b)) (over p o b)) ≡ min s (length b)
    sizes_b = omega (arith, length-take (min s (length b)) (over p o b), over_long p o b)

    same : (k : ℕ) → k < length y → k < length b → k < s → get_or (over p o y) k 0 ≡ get_or (over p o b) k 0
    same k in_y in_b in_s = elim (cases_lt k o) [
      | inl h ↦ over_before p o y k in_y h ∙ get_or-take s b k 0 in_s ∙ sym (over_before p o b k in_b h)
      | inr h ↦ elim (cases_lt k (o + length p)) [
        | inl g ↦ over_in p o y k in_y h g ∙ sym (over_in p o b k in_b h g)
        | inr g ↦ over_behind p o y k in_y g ∙ get_or-take s b k 0 in_s ∙ sym (over_behind p o b k in_b g)
      ]
    ]

    each : (k : ℕ) → k < length (take (length y) (over p o y)) → get_or (take (length y) (over p o y)) k 0 ≡ get_or (take (min s (length b)) (over p o b)) k 0
    each k h =
        let short : k < min s (length b) = omega (arith, sizes_y, h) in
        let in_y : k < length y = omega (arith, short, length-take s b) in
        get_or-take (length y) (over p o y) k 0 in_y ∙ same k in_y (omega (arith, short)) (omega (arith, short)) ∙ sym (get_or-take (min s (length b)) (over p o b) k 0 short)

-- nothing is put past the end
pub over_none : (b p : List ℕ) (o : ℕ) → length b ≤ o → b ≡ take (length b) (over p o b)
over_none b p o h =
    sym (take-append-le (length b) (take o b ++ p) (drop (o + length p) b) (omega (arith, length-take o b, length-append (take o b) p))
    ∙ take-append-le (length b) (take o b) p (omega (arith, length-take o b))
    ∙ ap (λ (l : List ℕ). take (length b) l) (take_all o b h)
    ∙ take_all (length b) b (omega arith))

-- as much of p as there are bytes for
pub over_within : (b p : List ℕ) (o c : ℕ) → o < length b → c ≡ min (length p) (length b - o) → over (take c p) o b ≡ take (length b) (over p o b)
over_within b p o c inside is = ext_get_or 0 _ _ (size ∙ sym cut) each
  where
    part : length (take c p) ≡ c
    part = omega (arith, is, length-take c p)

    size : length (over (take c p) o b) ≡ length b
    size = omega (arith, inside, is, part, length-take o b, length-append (take o b) (take c p), length-append (take o b ++ take c p) (drop (o + length (take c p)) b), length-drop (o + length (take c p)) b)

    cut : length (take (length b) (over p o b)) ≡ length b
    cut = omega (arith, length-take (length b) (over p o b), over_long p o b)

    each : (k : ℕ) → k < length (over (take c p) o b) → get_or (over (take c p) o b) k 0 ≡ get_or (take (length b) (over p o b)) k 0
    each k h =
        let below : k < length b = omega (arith, size, h) in
        elim (cases_lt k o) [
          | inl before ↦ over_before (take c p) o b k below before ∙ sym (get_or-take (length b) (over p o b) k 0 below ∙ over_before p o b k below before)
          | inr there ↦ elim (cases_lt k (o + c)) [
            | inl g ↦ over_in (take c p) o b k below there (omega (arith, part, g)) ∙ get_or-take c p (k - o) 0 (omega (arith, there, g)) ∙ sym (get_or-take (length b) (over p o b) k 0 below ∙ over_in p o b k below there (omega (arith, g, is)))
            | inr g ↦ over_behind (take c p) o b k below (omega (arith, part, g)) ∙ sym (get_or-take (length b) (over p o b) k 0 below ∙ over_behind p o b k below (omega (arith, g, is, below)))
          ]
        ]
