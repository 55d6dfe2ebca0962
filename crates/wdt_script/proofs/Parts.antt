-- The first line of a text and the first field of a line.
use Rattle.std.proofs.Common.{◌≡◌, ℕ, suc, ◌+◌, ◌-◌, ◌<◌, Bool, true, false, cond, not, List, [], ◌∷◌, length, take, drop, refl, sym, ap, ◌∙◌, arith}
use Rattle.std.specs.List.{onto_first, position_or_len}
use Rattle.std.proofs.lemmas.List.{drop-drop, length-drop, take_rest}
use Rattle.std.proofs.lemmas.List.Splits.{slice_split_first, slice_split_none}
use Rattle.std.proofs.lemmas.List.Sums.{fails_before_first}
use Rattle.wdt_script.specs.Lines.{ends_line, fields_of, is_space, lines_of}

-- ---- lines

shift : (b : ℕ) (bytes : List ℕ) (p : ℕ) → take (1 + p) (b ∷ bytes) ∷ lines_of (drop (1 + p + 1) (b ∷ bytes)) ≡ (b ∷ take p bytes) ∷ lines_of (drop (p + 1) bytes)
shift b bytes p =
    let one : 1 + p ≡ suc p = omega arith in
    let two : 1 + p + 1 ≡ suc (p + 1) = omega arith in
    ap (λ (n : ℕ). take n (b ∷ bytes) ∷ lines_of (drop (1 + p + 1) (b ∷ bytes))) one ∙ ap (λ (n : ℕ). (b ∷ take p bytes) ∷ lines_of (drop n (b ∷ bytes))) two

step : (b : ℕ) (bytes : List ℕ) (t : Bool) (p : ℕ) → (length bytes ≡ 0 → p ≡ 0) → (0 < length bytes → lines_of bytes ≡ take p bytes ∷ lines_of (drop (p + 1) bytes))
    → cond t ([] ∷ lines_of bytes) (onto_first b (lines_of bytes)) ≡ take (cond (not t) (1 + p) 0) (b ∷ bytes) ∷ lines_of (drop (cond (not t) (1 + p) 0 + 1) (b ∷ bytes))
unfolding lines_of
step b bytes true p none more = refl
step b [] false p none more = sym (ap (λ (n : ℕ). take (1 + n) (b ∷ []) ∷ lines_of (drop (1 + n + 1) (b ∷ []))) (none refl))
step b (x ∷ xs) false p none more = ap (onto_first b) (more (omega arith)) ∙ sym (shift b (x ∷ xs) p)

no-place : (bytes : List ℕ) → length bytes ≡ 0 → position_or_len ends_line bytes ≡ 0
no-place [] e = refl
no-place (b ∷ bytes) e = absurd (omega (arith, e))

-- a text that isn't empty is its first line, and the lines behind it
pub first-line : (bytes : List ℕ) → 0 < length bytes → lines_of bytes ≡ take (position_or_len ends_line bytes) bytes ∷ lines_of (drop (position_or_len ends_line bytes + 1) bytes)
unfolding lines_of
first-line [] some = absurd (omega arith)
first-line (b ∷ bytes) some = step b bytes (ends_line b) (position_or_len ends_line bytes) (no-place bytes) (first-line bytes)

-- the same from a place on
pub line-from : (bytes : List ℕ) (start p : ℕ) → start < length bytes → p ≡ position_or_len ends_line (drop start bytes)
    → lines_of (drop start bytes) ≡ take (start + p - start) (drop start bytes) ∷ lines_of (drop (start + p + 1) bytes)
line-from bytes start p within is =
    let rest = drop start bytes in
    let some : 0 < length rest = omega (arith, length-drop start bytes) in
    let n : start + p - start ≡ p = omega arith in
    let m : start + p + 1 ≡ start + (p + 1) = omega arith in
    rw (n, m, ← drop-drop (p + 1) start bytes, is) (first-line rest some)

-- ---- fields

-- a line without a space is one field
pub one-field : (line : List ℕ) (p : ℕ) → p ≡ position_or_len is_space line → p ≡ length line → fields_of line ≡ line ∷ []
unfolding fields_of
one-field line p at all = slice_split_none is_space line λ k d lt. fails_before_first is_space line k d (omega (arith, at, all, lt))

-- another is its first field, and the fields behind the space
pub first-field : (line : List ℕ) (p : ℕ) → p ≡ position_or_len is_space line → p < length line → fields_of line ≡ take p line ∷ fields_of (drop (p + 1) line)
unfolding fields_of
first-field line p at within = rw at (slice_split_first is_space line 0 (omega (arith, at, within)))

-- the same where what stands behind the space is lent
pub lent-field : (line : List ℕ) (p : ℕ) → p ≡ position_or_len is_space line → p < length line
    → (fields_of line ≡ take p line ∷ fields_of (take (length line - (p + 1)) (drop (p + 1) line))) × (length (take (length line - (p + 1)) (drop (p + 1) line)) < length line)
lent-field line p at within =
    let same : take (length line - (p + 1)) (drop (p + 1) line) ≡ drop (p + 1) line = take_rest line (p + 1) in
    (first-field line p at within ∙ ap (λ (more : List ℕ). take p line ∷ fields_of more) (sym same), omega (arith, within, ap length same, length-drop (p + 1) line))
