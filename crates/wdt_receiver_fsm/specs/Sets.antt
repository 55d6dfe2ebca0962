-- Sets of lanes, as rising lists of their numbers.
use Rattle.std.specs.Prelude.{ℕ, ◌==◌, not, Bool, List, [], ◌∷◌, filter}
use Rattle.std.specs.List.{list_any}
use Rattle.wdt_units.specs.LaneSets.{has_lane, lanes_with, no_lanes, only_lane}
use Rattle.wdt_units.specs.declared.numbers.LaneSet.{LaneSet}
use Rattle.wdt_sender_fsm.specs.Places.{tabulate}

-- a lane is among these
abbrev pub has : List ℕ → ℕ → Bool
has lanes l = list_any (λ (k : ℕ). k == l) lanes

-- these but for one
abbrev pub without : ℕ → List ℕ → List ℕ
without l lanes = filter (λ (k : ℕ). not (k == l)) lanes

-- the numbers below n
abbrev pub numbers : ℕ → List ℕ
numbers n = tabulate n (λ k. k)

-- the lanes of a set, rising
abbrev pub lanes_of : LaneSet → List ℕ
lanes_of set = filter (has_lane set) (numbers 16)

-- the set of some lanes
abbrev pub set_of : List ℕ → LaneSet
set_of [] = no_lanes
set_of (l ∷ lanes) = lanes_with (only_lane l) (set_of lanes)
