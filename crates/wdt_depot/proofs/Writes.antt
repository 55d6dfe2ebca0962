-- Bytes with others in their place.
use Rattle.std.proofs.Common.{◌≡◌, inl, inr, ℕ, ◌+◌, ◌-◌, ◌<◌, ◌≤◌, max, List, ◌++◌, length, take, drop, get_or, refl, ◌∙◌, ap, arith, length-append, length-drop}
use Rattle.std.specs.Prelude.{replicate}
use Rattle.std.proofs.lemmas.List.{get_or-replicate, length-take, length-replicate, get_or-take, get_or-drop, get_or_append_left, get_or-append_right}
use Rattle.std.proofs.lemmas.Bool.{cases_lt}
use Rattle.wdt_depot.specs.Disk.{AreBytes, spliced}

pub length-front : (old : List ℕ) (o : ℕ) → length (take o (old ++ replicate (o - length old) 0)) ≡ o
length-front old o = omega (arith, length-take o (old ++ replicate (o - length old) 0), length-append old (replicate (o - length old) 0), length-replicate {A = ℕ} (o - length old) 0)

pub length-spliced : (old : List ℕ) (o : ℕ) (bytes : List ℕ) → length (spliced old o bytes) ≡ max (length old) (o + length bytes)
unfolding spliced
length-spliced old o bytes =
    let front : List ℕ = take o (old ++ replicate (o - length old) 0) in
    let back : List ℕ = drop (o + length bytes) old in
    omega (arith, length-front old o, length-append front bytes, length-append (front ++ bytes) back, length-drop (o + length bytes) old)

-- before the offset stands what stood there, and zeros behind that
pub before_offset : (old : List ℕ) (o : ℕ) (bytes : List ℕ) (k : ℕ) → k < o → get_or (spliced old o bytes) k 0 ≡ get_or (old ++ replicate (o - length old) 0) k 0
unfolding spliced
before_offset old o bytes k h =
    let all : List ℕ = old ++ replicate (o - length old) 0 in
    let front : List ℕ = take o all in
    let back : List ℕ = drop (o + length bytes) old in
    get_or_append_left (front ++ bytes) back 0 k (omega (arith, length-front old o, length-append front bytes))
    ∙ get_or_append_left front bytes 0 k (omega (arith, length-front old o))
    ∙ get_or-take o all k 0 h

pub spliced_before : (old : List ℕ) (o : ℕ) (bytes : List ℕ) (k : ℕ) → k < o → k < length old → get_or (spliced old o bytes) k 0 ≡ get_or old k 0
spliced_before old o bytes k h below = before_offset old o bytes k h ∙ get_or_append_left old (replicate (o - length old) 0) 0 k below

-- the gap
pub spliced_gap : (old : List ℕ) (o : ℕ) (bytes : List ℕ) (k : ℕ) → k < o → length old ≤ k → get_or (spliced old o bytes) k 0 ≡ 0
spliced_gap old o bytes k h past =
    before_offset old o bytes k h
    ∙ get_or-append_right old (replicate (o - length old) 0) (length old) k 0 refl past
    ∙ get_or-replicate (o - length old) (k - length old) 0 0 (omega (arith, h, past))

pub spliced_behind : (old : List ℕ) (o : ℕ) (bytes : List ℕ) (k : ℕ) → o + length bytes ≤ k → get_or (spliced old o bytes) k 0 ≡ get_or old k 0
unfolding spliced
spliced_behind old o bytes k h =
    let front : List ℕ = take o (old ++ replicate (o - length old) 0) in
    let back : List ℕ = drop (o + length bytes) old in
    get_or-append_right (front ++ bytes) back (o + length bytes) k 0 (omega (arith, length-front old o, length-append front bytes)) h
    ∙ get_or-drop (o + length bytes) old (k - (o + length bytes)) 0
    ∙ ap (λ (n : ℕ). get_or old n 0) (omega (arith, h))

pub spliced_in : (old : List ℕ) (o : ℕ) (bytes : List ℕ) (k : ℕ) → o ≤ k → k < o + length bytes → get_or (spliced old o bytes) k 0 ≡ get_or bytes (k - o) 0
unfolding spliced
spliced_in old o bytes k h below =
    let front : List ℕ = take o (old ++ replicate (o - length old) 0) in
    let back : List ℕ = drop (o + length bytes) old in
    get_or_append_left (front ++ bytes) back 0 k (omega (arith, length-front old o, length-append front bytes))
    ∙ get_or-append_right front bytes o k 0 (length-front old o) h

pub bytes_by : (x y : ℕ) → x ≡ y → y < 256 → x < 256
bytes_by x y e h = omega (arith, e, h)

-- bytes in the place of bytes are bytes
pub bytes_spliced : (old : List ℕ) (o : ℕ) (bytes : List ℕ) → AreBytes old → AreBytes bytes → AreBytes (spliced old o bytes)
bytes_spliced old o bytes h g k = elim (cases_lt k o) [
  | inl before ↦ elim (cases_lt k (length old)) [
    | inl there ↦ bytes_by _ _ (spliced_before old o bytes k before there) (h k)
    | inr past ↦ bytes_by _ _ (spliced_gap old o bytes k before past) (omega arith)
  ]
  | inr from_there ↦ elim (cases_lt k (o + length bytes)) [
    | inl within ↦ bytes_by _ _ (spliced_in old o bytes k from_there within) (g (k - o))
    | inr behind ↦ bytes_by _ _ (spliced_behind old o bytes k behind) (h k)
  ]
]
