-- Lists with one item for each lane, and sets of lanes beside them.
use Rattle.std.specs.Prelude.{◌≡◌, ℕ, ◌<◌, Bool, true, false, List, length, slice_index_or}
use Rattle.wdt_units.specs.declared.numbers.LaneSet.{LaneSet}
use Rattle.wdt_units.specs.LaneSets.{has_lane}

-- what comes back for each lane stands so to what was handed in for it
pub record EachLane {A : Type 0} (R : ℕ → A → A → Type 0) (old new : List A) : Type 0 where
  pub same : length new ≡ length old
  pub at : (lane : ℕ) (d : A) → lane < length old → R lane (slice_index_or old lane d) (slice_index_or new lane d)

-- the lanes of the set are those that have a flag
abbrev pub HasFlags : LaneSet → List Bool → Type 0
HasFlags set flags = (lane : ℕ) → has_lane set lane ≡ slice_index_or flags lane false

-- the lanes of the set are among the first so many
abbrev pub IsAmong : ℕ → LaneSet → Type 0
IsAmong lanes set = (lane : ℕ) → has_lane set lane ≡ true → lane < lanes
