-- How a write is put together, and how it is taken back.
use Rattle.std.proofs.Common.{◌≡◌, inl, inr, ℕ, ◌+◌, ◌-◌, ◌<◌, ◌≤◌, min, List, [], ◌++◌, length, take, drop, get_or, refl, sym, ◌∙◌, ap, arith, length-append, length-drop}
use Rattle.std.specs.Prelude.{replicate}
use Rattle.std.proofs.lemmas.List.{append-nil, take_all, drop_all, get_or-replicate, get_or_past, length-take, length-replicate, get_or-take, get_or-drop, get_or_append_left, get_or-append_right, ext_get_or}
use Rattle.std.proofs.lemmas.Bool.{cases_lt}
use Rattle.wdt_depot.specs.Disk.{spliced}
use Rattle.wdt_depot.specs.Slots.{change_of, undo_change}
use Rattle.wdt_depot.proofs.Writes.{length-spliced, spliced_before, spliced_behind}

-- bytes and enough zeros behind them
take_zeros : (old : List ℕ) (o m n : ℕ) → o ≤ length old + m → o ≤ length old + n → take o (old ++ replicate m 0) ≡ take o (old ++ replicate n 0)
take_zeros old o m n hm hn = ext_get_or 0 _ _ (sizes m hm ∙ sym (sizes n hn)) (λ k h. let below : k < o = omega (arith, h, sizes m hm) in each m k below hm ∙ sym (each n k below hn))
  where
    sizes : (m : ℕ) → o ≤ length old + m → length (take o (old ++ replicate m 0)) ≡ o
    sizes m hm = omega (arith, hm, length-take o (old ++ replicate m 0), length-append old (replicate m 0), length-replicate {A = ℕ} m 0)

    each : (m k : ℕ) → k < o → o ≤ length old + m → get_or (take o (old ++ replicate m 0)) k 0 ≡ get_or old k 0
    each m k below hm = get_or-take o (old ++ replicate m 0) k 0 below ∙ elim (cases_lt k (length old)) [
      | inl h ↦ get_or_append_left old (replicate m 0) 0 k h
      | inr h ↦ get_or-append_right old (replicate m 0) (length old) k 0 refl h ∙ (get_or-replicate m (k - length old) 0 0 (omega (arith, h, below, hm)) ∙ sym (get_or_past old k 0 h))
    ]

-- a write within the bytes
pub spliced_within : (old : List ℕ) (o : ℕ) (piece : List ℕ) → o + length piece ≤ length old → take o old ++ piece ++ drop (o + length piece) old ≡ spliced old o piece
unfolding spliced
spliced_within old o piece h =
    let none : o - length old ≡ 0 = omega (arith, h) in
    let same : take o old ≡ take o (old ++ replicate (o - length old) 0) = ap (λ (l : List ℕ). take o l) (sym (append-nil old) ∙ ap (λ (n : ℕ). old ++ replicate n 0) (sym none)) in
    ap (λ (l : List ℕ). l ++ piece ++ drop (o + length piece) old) same

-- a write past the end, which is first filled up with zeros
pub spliced_past : (old : List ℕ) (o : ℕ) (piece : List ℕ) → length old ≤ o + length piece → let all : List ℕ = take (o + length piece) old ++ replicate (o + length piece - length old) 0 in take o all ++ piece ++ drop (o + length piece) all ≡ spliced old o piece
unfolding spliced
spliced_past old o piece h =
    let whole : take (o + length piece) old ≡ old = take_all (o + length piece) old h in
    let all_is : take (o + length piece) old ++ replicate (o + length piece - length old) 0 ≡ old ++ replicate (o + length piece - length old) 0 = ap (λ (l : List ℕ). l ++ replicate (o + length piece - length old) 0) whole in
    let size : length (old ++ replicate (o + length piece - length old) 0) ≤ o + length piece = omega (arith, h, length-append old (replicate (o + length piece - length old) 0), length-replicate {A = ℕ} (o + length piece - length old) 0) in
    let no_end : drop (o + length piece) (old ++ replicate (o + length piece - length old) 0) ≡ [] = drop_all (o + length piece) _ size in
    let no_end_old : drop (o + length piece) old ≡ [] = drop_all (o + length piece) old h in
    ap (λ (all : List ℕ). take o all ++ piece ++ drop (o + length piece) all) all_is
    ∙ (ap (λ (l : List ℕ). take o (old ++ replicate (o + length piece - length old) 0) ++ piece ++ l) (no_end ∙ sym no_end_old)
    ∙ ap (λ (l : List ℕ). l ++ piece ++ drop (o + length piece) old) (take_zeros old o (o + length piece - length old) (o - length old) (omega (arith, h)) (omega arith)))

-- what was overwritten, put back
pub restored-spliced : (old : List ℕ) (o : ℕ) (bytes : List ℕ) → undo_change (change_of o bytes old) (spliced old o bytes) ≡ old
restored-spliced old o bytes = ext_get_or 0 _ _ sizes each
  where
    new : List ℕ
    new = spliced old o bytes

    before : List ℕ
    before = take (length bytes) (drop o old)

    inner : List ℕ
    inner = take o new ++ before ++ drop (o + length before) new

    cut : ℕ
    cut = min (length old) (length new)

    cut_is : cut ≡ length old
    cut_is = omega (arith, length-spliced old o bytes)

    size_before : length before ≡ min (length bytes) (length old - o)
    size_before = omega (arith, length-take (length bytes) (drop o old), length-drop o old)

    size_front : length (take o new) ≡ o
    size_front = omega (arith, length-take o new, length-spliced old o bytes)

    size_both : length (take o new ++ before) ≡ o + length before
    size_both = omega (arith, size_front, length-append (take o new) before)

    size_inner : length inner ≡ length new
    size_inner = omega (arith, size_both, length-append (take o new ++ before) (drop (o + length before) new), length-drop (o + length before) new, length-spliced old o bytes, size_before)

    sizes : length (take cut inner) ≡ length old
    sizes = omega (arith, length-take cut inner, size_inner, length-spliced old o bytes)

    at_inner : (k : ℕ) → k < length old → get_or inner k 0 ≡ get_or old k 0
    at_inner k below = elim (cases_lt k o) [
      | inl h ↦
          get_or_append_left (take o new ++ before) (drop (o + length before) new) 0 k (omega (arith, size_both))
          ∙ get_or_append_left (take o new) before 0 k (omega (arith, size_front))
          ∙ get_or-take o new k 0 h
          ∙ spliced_before old o bytes k h below
      | inr h ↦ elim (cases_lt k (o + length before)) [
        | inl in_range ↦
            get_or_append_left (take o new ++ before) (drop (o + length before) new) 0 k (omega (arith, size_both))
            ∙ get_or-append_right (take o new) before o k 0 size_front h
            ∙ get_or-take (length bytes) (drop o old) (k - o) 0 (omega (arith, size_before))
            ∙ get_or-drop o old (k - o) 0
            ∙ ap (λ (n : ℕ). get_or old n 0) (omega (arith, h))
        | inr past ↦
            get_or-append_right (take o new ++ before) (drop (o + length before) new) (o + length before) k 0 size_both past
            ∙ get_or-drop (o + length before) new (k - (o + length before)) 0
            ∙ ap (λ (n : ℕ). get_or new n 0) (omega (arith, past))
            ∙ spliced_behind old o bytes k (omega (arith, size_before, past, below))
      ]
    ]

    each : (k : ℕ) → k < length (take cut inner) → get_or (take cut inner) k 0 ≡ get_or old k 0
    each k h =
        let below : k < length old = omega (arith, sizes, h) in
        get_or-take cut inner k 0 (omega (arith, below, cut_is)) ∙ at_inner k below
