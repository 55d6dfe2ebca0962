-- Sets of lanes as the code has them: bit l of the number stands for lane l.
use Rattle.std.specs.Prelude.{ℕ, ◌-◌, ◌^◌, ◌==◌, Bool}
use Rattle.std.specs.Int.{bit_at}
use Rattle.std.specs.Int.RustNames.{bit_and, bit_or, bit_xor}
use Rattle.wdt_units.specs.declared.numbers.LaneSet.{LaneSet}

-- a lane is in a set
abbrev pub has_lane : LaneSet → ℕ → Bool
has_lane set lane = bit_at set.0 lane == 1

-- the set of no lane
abbrev pub no_lanes : LaneSet
no_lanes = record { 0 = 0 }

-- the set of one lane
unfoldable pub only_lane : ℕ → LaneSet
only_lane lane = record { 0 = 2 ^ lane }

-- the set of the first so many lanes
unfoldable pub first_lanes : ℕ → LaneSet
first_lanes count = record { 0 = 2 ^ count - 1 }

-- the lanes that are in one set or in the other
unfoldable pub lanes_with : LaneSet → LaneSet → LaneSet
lanes_with a b = record { 0 = bit_or a.0 b.0 }

-- the lanes of the first set that aren't in the second
unfoldable pub lanes_without : LaneSet → LaneSet → LaneSet
lanes_without a b = record { 0 = bit_xor a.0 (bit_and a.0 b.0) }
