-- What a history is seen as, and what it keeps of each lane.
use Rattle.std.specs.Prelude.{ℕ, ◌<◌, List, map, slice_index_or, Option, Some, None}
use Rattle.wdt_claims.specs.LaneWords.{Claims, no_claims, finished}
use Rattle.wdt_units.specs.declared.numbers.Lane.{Lane}
use Rattle.wdt_claims.specs.Claimed.{AreLanes}

-- the claims of each lane, and the lane that can claim one more block without memory, if any
pub record Book : Type 0 where
  pub lanes : List Claims
  pub ready : Option Lane

-- a lane's claims, and for how many more blocks its list has room
pub record Slot : Type 0 where
  pub claims : Claims
  pub room : ℕ

-- a lane's claims, without the room of its list
abbrev pub claims_in : Slot → Claims
claims_in slot = slot.claims

-- a lane that claimed nothing, and has no room
abbrev pub no_slot : Slot
no_slot = record { claims = no_claims; room = 0 }

-- the lane's list has room for one more block
abbrev pub HasRoom : List Slot → Option Lane → Type 0
HasRoom slots None = Unit {0}
HasRoom slots (Some lane) = 0 < (slice_index_or slots lane.0 no_slot).room

-- the claims are those of lanes, and the lane that is ready has room for a block
pub record IsBook (slots : List Slot) (ready : Option Lane) : Type 0 where
  pub lanes : AreLanes (map claims_in slots)
  pub room : HasRoom slots ready

-- all blocks of a lane have landed
abbrev pub finished_slot : Slot → Slot
finished_slot slot = record slot { claims = finished slot.claims }
