-- Counts of several objects.
use Rattle.std.specs.Prelude.{ℕ, ◌<◌, List, length, slice_index_or}
use Rattle.wdt_units.specs.Counts.{Rises, Stands}

-- the count of one of these rose
pub record SomeRose {A : Type 0} (count : A → ℕ) (old new : List A) : Type 0 where
  pub at : ℕ
  pub within : at < length old
  pub rose : (d : A) → Rises (count (slice_index_or old at d)) (count (slice_index_or new at d))

-- the count of none of these rose
abbrev pub NoneRose : {A : Type 0} → (A → ℕ) → List A → List A → Type 0
NoneRose {A} count old new = (at : ℕ) (d : A) → at < length old → Stands (count (slice_index_or old at d)) (count (slice_index_or new at d))
