-- Where a block stands: in one lane's list, or in the queue.
use Rattle.std.specs.Prelude.{ℕ, ◌+◌, ◌-◌, ◌==◌, nat_lt, ◌&&◌, not, Bool, if◌then◌else◌, List, length, take, drop, position, Option, option_map}
use Rattle.std.specs.List.{list_any}
use Rattle.wdt_units.specs.declared.blocks.Block.{Block}
use Rattle.wdt_claims.specs.Blocks.{is_same}
use Rattle.wdt_claims.specs.LaneWords.{Claims}
use Rattle.wdt_claims.specs.declared.place.Place.{Place}
use Rattle.wdt_claims.specs.declared.place.Place.TheVariants.{Queued, Held, Unconfirmed, Confirmed}

-- a block stands in a list
abbrev pub is_among : List Block → Block → Bool
is_among blocks block = list_any (is_same block) blocks

-- a block stands in a lane's list
abbrev pub keeps : Block → Claims → Bool
keeps block claims = is_among claims.kept block

-- it stands among those that have surely landed
abbrev pub confirms : Block → Claims → Bool
confirms block claims = is_among (take claims.sure claims.kept) block

-- it is the last of the list, may not have landed, and is being written
abbrev pub holds : Block → Claims → Bool
holds block claims = claims.held && is_among (drop (length claims.kept - 1) claims.kept) block && not (confirms block claims)

-- it stands in no lane's list
abbrev pub is_queued : List Claims → Block → Bool
is_queued lanes block = not (list_any (keeps block) lanes)

-- where a block stands
abbrev pub place_of : Block → List Claims → Place
place_of block lanes =
    if is_queued lanes block then Queued
    else if list_any (confirms block) lanes then Confirmed
    else if list_any (holds block) lanes then Held
    else Unconfirmed

-- the place of the block at an index of a lane's list
abbrev pub place_at : Claims → ℕ → Place
place_at claims index =
    if nat_lt index claims.sure then Confirmed
    else if claims.held && (index + 1) == length claims.kept then Held
    else Unconfirmed

-- the place of a block in a lane's list, if it stands there
abbrev pub place_in : Block → Claims → Option Place
place_in block claims = option_map (place_at claims) (position (is_same block) claims.kept)
