-- The lanes of a set as a list, the least first.
use Rattle.std.specs.Prelude.{ℕ, zero, suc, ◌+◌, ◌-◌, Bool, true, false, List, [], ◌∷◌}
use Rattle.wdt_units.specs.declared.limits.TheConstants.{MAX_LANES}
use Rattle.wdt_units.specs.declared.numbers.Lane.{Lane}
use Rattle.wdt_units.specs.declared.numbers.LaneSet.{LaneSet}
use Rattle.wdt_units.specs.declared.lanes.Lanes.{Lanes}
use Rattle.wdt_units.specs.LaneSets.{has_lane}

-- a lane before others, where it is in the set
abbrev pub put_if : Bool → ℕ → List Lane → List Lane
put_if true at lanes = record { 0 = at } ∷ lanes
put_if false at lanes = lanes

-- of the next n lanes from one on, those that are in the set
unfoldable pub lanes_from : LaneSet → ℕ → ℕ → List Lane
lanes_from set at zero = []
lanes_from set at (suc n) = put_if (has_lane set at) at (lanes_from set (at + 1) n)

-- the lanes of a set
abbrev pub lanes_of : LaneSet → List Lane
lanes_of set = lanes_from set 0 MAX_LANES

-- the lanes that are still to come
abbrev pub lanes_left : Lanes → List Lane
lanes_left lanes = lanes_from lanes.set lanes.at (MAX_LANES - lanes.at)
