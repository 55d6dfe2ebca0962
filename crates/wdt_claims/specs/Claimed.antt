-- What the lanes of a sender have claimed together. A lane's number is its place in the list.
use Rattle.std.specs.Prelude.{◌≡◌, ℕ, ◌≤◌, ◌<◌, ◌^◌, Bool, false, IsTrue, List, length, All, IfSome, slice_index_or, slice_set, sum_by}
use Rattle.wdt_units.specs.declared.blocks.Block.{Block}
use Rattle.wdt_claims.specs.Blocks.{count_of}
use Rattle.wdt_claims.specs.LaneWords.{Claims, no_claims}

-- a lane's claims
abbrev pub lane_at : List Claims → ℕ → Claims
lane_at lanes lane = slice_index_or lanes lane no_claims

-- one lane's claims are others now
abbrev pub with_lane : List Claims → ℕ → Claims → List Claims
with_lane lanes lane claims = slice_set lanes lane claims

-- how often a block stands in a lane's list
abbrev pub count_in : Block → Claims → ℕ
count_in block claims = count_of block claims.kept

-- the last block of a lane is still being written
abbrev pub is_held : Claims → Bool
is_held claims = claims.held

-- how often a block stands in the lists of all lanes
unfoldable pub count_kept : Block → List Claims → ℕ
count_kept block lanes = sum_by (count_in block) lanes

-- a lane's sure blocks are of its list, a block that is being written isn't sure, and the list of a
-- closed lane is what its closing kept
pub record IsLane (claims : Claims) : Type 0 where
  pub sure : claims.sure ≤ length claims.kept
  pub held : IsTrue claims.held → claims.sure < length claims.kept
  pub closed : IfSome claims.closed (λ count. (length claims.kept ≡ count) × (claims.sure ≡ count) × (claims.held ≡ false))
  pub few : length claims.kept ≤ 2 ^ 31

-- no block stands twice in the lists of the lanes
pub record AreLanes (lanes : List Claims) : Type 0 where
  pub each : All IsLane lanes
  pub once : (block : Block) → count_kept block lanes ≤ 1
  pub few : length lanes < 2 ^ 8
