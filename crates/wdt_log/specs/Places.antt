-- Where a number stands among files that rise by number.
use Rattle.std.specs.Prelude.{◌≡◌, ℕ, zero, suc, ◌<◌, ◌≤◌, ◌==◌, ◌&&◌, nat_lt, Bool, false, List, [], ◌∷◌}
use Rattle.wdt_logfmt.specs.View.{NamedFile}

-- so many files have a number below it, and the next, if there is one, hasn't
abbrev pub IsPlace : ℕ → List NamedFile → ℕ → Type 0
IsPlace number [] at = at ≡ 0
IsPlace number (f ∷ fs) zero = number ≤ f.number
IsPlace number (f ∷ fs) (suc at) = (f.number < number) × IsPlace number fs at

-- the file at the place has the number, and those before it have numbers below it
abbrev pub is_at : ℕ → ℕ → List NamedFile → Bool
is_at number at [] = false
is_at number zero (f ∷ fs) = f.number == number
is_at number (suc at) (f ∷ fs) = nat_lt f.number number && is_at number at fs
