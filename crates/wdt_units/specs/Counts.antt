-- Counts of faults and slips: they never fall, and stop at 2^64 less 1. A count that stands there
-- counts as one that rose.
use Rattle.std.specs.Prelude.{◌≡◌, ℕ, ◌+◌, ◌<◌, ◌≤◌, ◌-◌, ◌^◌, min, Option, Some, None, Result, OnErr}

-- it rose, or stands at its end
pub record Rises (old new : ℕ) : Type 0 where
  pub later : old ≤ new
  pub more : old < 2 ^ 64 - 1 → old < new

-- it is known not to have risen
pub record Stands (old new : ℕ) : Type 0 where
  pub same : new ≡ old
  pub below : old < 2 ^ 64 - 1

-- it didn't fall, and a failure came only where it rose
pub record HasCause {T E : Type 0} (result : Result T E) (old new : ℕ) : Type 0 where
  pub later : old ≤ new
  pub failed : OnErr result (Rises old new)

-- ---- counts added up

-- two counts together: the sum stops at 2^64 less 1, as its parts do
abbrev pub added : ℕ → ℕ → ℕ
added a b = min (a + b) (2 ^ 64 - 1)

-- one count as a sum tells it
abbrev pub capped : ℕ → ℕ
capped count = added count 0

-- the count of an object that may be there, or 0
abbrev pub count_in : {A : Type 0} → (A → ℕ) → Option A → ℕ
count_in count None = 0
count_in count (Some object) = count object

-- the count of an object and that of one that it may have handed out, together
abbrev pub along : {A B : Type 0} → (A → ℕ) → (B → ℕ) → A → Option B → ℕ
along outer inner object handed = added (outer object) (count_in inner handed)

-- it rose by at least n, or stands at its end
abbrev pub RoseBy : ℕ → ℕ → ℕ → Type 0
RoseBy n old new = added old n ≤ new
