-- Bytes, files and images that differ in a range alone.
use Rattle.std.specs.Prelude.{◌≡◌, ℕ, ◌<◌, false, List, length, slice_index, Option, Some, None}
use Rattle.std.specs.Str.{bytes_eq}
use Rattle.wdt_units.specs.Have.{PlainSpan}
use Rattle.wdt_depot.specs.Disk.{Image, IsOutside}

-- so many positions from the offset on
abbrev pub range_at : ℕ → ℕ → PlainSpan
range_at offset count = record { offset = offset; count = count }

-- what the old bytes have outside the range, the new ones have too
abbrev pub IsRewritten : ℕ → ℕ → List ℕ → List ℕ → Type 0
IsRewritten offset count old new = (k : ℕ) → k < length old → IsOutside k (range_at offset count) → (k < length new) × (slice_index new k ≡ slice_index old k)

-- the same of a file, which stands in both or in neither
abbrev pub IsFileRewritten : ℕ → ℕ → Option (List ℕ) → Option (List ℕ) → Type 0
IsFileRewritten offset count None None = Unit {0}
IsFileRewritten offset count None (Some new) = ⊥
IsFileRewritten offset count (Some old) None = ⊥
IsFileRewritten offset count (Some old) (Some new) = IsRewritten offset count old new

-- the images differ at this path alone
abbrev pub IsSameElsewhere : List ℕ → Image → Image → Type 0
IsSameElsewhere path old new = (other : List ℕ) → bytes_eq path other ≡ false → new other ≡ old other

-- the images differ in a range of one file alone
pub record IsImageRewritten (path : List ℕ) (offset count : ℕ) (old new : Image) : Type 0 where
  pub others : IsSameElsewhere path old new
  pub here : IsFileRewritten offset count (old path) (new path)
