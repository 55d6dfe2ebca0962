-- The place of the first byte, or the length where there is none.
use Rattle.std.proofs.Common.{◌≡◌, ℕ, ◌≤◌, Bool, true, false, cond, not, nat_lt, List, length, Some, None, refl, sym, arith}
use Rattle.std.specs.List.{position, position_or_len}
use Rattle.std.proofs.lemmas.Bool.Decides.{nat_tests}
use Rattle.std.proofs.lemmas.List.Sums.{prefix_len-le-length}

found : (t : Bool) (p at : ℕ) → cond t (Some p) None ≡ Some at → (t ≡ true) × (at ≡ p)
found true p at e = (refl, let h : Some p ≡ Some at = e in cc)
found false p at e = absurd (let h : None ≡ Some at = e in cc)

none : (t : Bool) (p : ℕ) → cond t (Some p) None ≡ None → t ≡ false
none true p e = absurd (let h : Some p ≡ None = e in cc)
none false p e = refl

-- where a byte passes
pub place-found : (test : ℕ → Bool) (bytes : List ℕ) (at : ℕ) → Some at ≡ position test bytes → at ≡ position_or_len test bytes
place-found test bytes at e = (found (nat_lt (position_or_len test bytes) (length bytes)) (position_or_len test bytes) at (sym e)).1

not-below : (p n : ℕ) → nat_lt p n ≡ false → n ≤ p
not-below p n e = grind (arith, nat_tests)

-- where none passes
pub place-none : (test : ℕ → Bool) (bytes : List ℕ) → None ≡ position test bytes → length bytes ≡ position_or_len test bytes
place-none test bytes e =
    let past : length bytes ≤ position_or_len test bytes = not-below (position_or_len test bytes) (length bytes) (none (nat_lt (position_or_len test bytes) (length bytes)) (position_or_len test bytes) (sym e)) in
    let within : position_or_len test bytes ≤ length bytes = prefix_len-le-length (λ b. not (test b)) bytes in
    omega (arith, past, within)
