-- What a read does to what is left of an input, where that is told.
use Rattle.std.specs.Prelude.{◌≡◌, ℕ, ◌<◌, List, [], ◌++◌, length, take, Option, Some, None, Result, Ok, Err}

-- the next n bytes of what was left stand at the front of the slice, and the rest is still left
pub record Takes (left : List ℕ) (n : ℕ) (slice rest : List ℕ) : Type 0 where
  pub taken : left ≡ take n slice ++ rest
  pub end : n ≡ 0 → 0 < length slice → left ≡ []

-- what a read answers, what stands in the slice after it, and what was and is left
abbrev pub Reads : {E : Type 0} → Result ℕ E → List ℕ → Option (List ℕ) → Option (List ℕ) → Type 0
Reads result slice None new = new ≡ None
Reads (Ok n) slice (Some left) new = (rest : List ℕ) × (new ≡ Some rest) × Takes left n slice rest
Reads (Err e) slice (Some left) new = new ≡ Some left
