-- Numbers within limits.
use Rattle.std.specs.Prelude.{ℕ, ◌≤◌, ◌&&◌, nat_le, List, Option, Some, None, option_and_then, if◌then◌else◌}
use Rattle.wdt_units.specs.Decimal.{number_of}

-- a number lies within limits
pub record IsWithin (low high number : ℕ) : Type 0 where
  pub least : low ≤ number
  pub greatest : number ≤ high

-- a number that lies within limits
abbrev pub within : ℕ → ℕ → ℕ → Option ℕ
within low high number = if nat_le low number && nat_le number high then Some number else None

-- the number that the word spells, where it lies within the limits
abbrev pub number_in : ℕ → ℕ → List ℕ → Option ℕ
number_in low high word = option_and_then (within low high) (number_of word)
