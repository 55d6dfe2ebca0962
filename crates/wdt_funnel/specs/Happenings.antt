-- What happens on a receiver's lanes as far as the finish depends on it, in order, and what a list of
-- it says of each lane.
use Rattle.std.specs.Prelude.{ℕ, zero, suc, ◌<◌, ◌==◌, ◌&&◌, ◌||◌, not, Bool, true, false, List, [], ◌∷◌}
use Rattle.std.specs.List.{list_any}
use Rattle.wdt_units.specs.declared.numbers.LaneSet.{LaneSet}
use Rattle.wdt_units.specs.LaneSets.{has_lane}

-- one thing that happens on a receiver's lane, by the lane's number
pub data Happening : Type 0 where
  -- the lane took a connection
  Took : ℕ → Happening
  -- its connection is lost
  Dropped : ℕ → Happening
  -- it read that the sender has nothing more to send
  Idled : ℕ → Happening
  -- it tells of these closed lanes, behind which the sender may have more to send
  Told : ℕ → LaneSet → Happening
  -- it is given up
  Closed : ℕ → Happening

-- ---- what a happening is for a lane

-- the lane took a connection
abbrev pub takes : ℕ → Happening → Bool
takes l (Took k) = k == l
takes l _ = false

-- the lane's connection is lost
abbrev pub drops : ℕ → Happening → Bool
drops l (Dropped k) = k == l
drops l _ = false

-- the lane read that the sender has nothing more to send
abbrev pub idles : ℕ → Happening → Bool
idles l (Idled k) = k == l
idles l _ = false

-- the lane is given up
abbrev pub closes : ℕ → Happening → Bool
closes l (Closed k) = k == l
closes l _ = false

-- the lane tells of another
abbrev pub tells : ℕ → ℕ → Happening → Bool
tells l c (Told k set) = k == l && has_lane set c
tells l c _ = false

-- behind this the lane isn't idle
abbrev pub ends_idling : ℕ → Happening → Bool
ends_idling l (Dropped k) = k == l
ends_idling l (Told k set) = k == l
ends_idling l _ = false

-- behind this nothing that the lane told is still to be answered
abbrev pub ends_telling : ℕ → Happening → Bool
ends_telling l (Dropped k) = k == l
ends_telling l (Idled k) = k == l
ends_telling l _ = false

-- ---- what a history says

-- something happened that starts this, and nothing since that ends it
abbrev pub stands : (Happening → Bool) → (Happening → Bool) → List Happening → Bool
stands starts ends [] = false
stands starts ends (e ∷ later) = (starts e && not (list_any ends later)) || stands starts ends later

-- a lane idled, and since then it neither lost its connection nor told of a closed lane
abbrev pub is_idle : List Happening → ℕ → Bool
is_idle history l = stands (idles l) (ends_idling l) history

-- a lane was given up
abbrev pub is_closed : List Happening → ℕ → Bool
is_closed history l = list_any (closes l) history

-- a lane told of another since it took its last connection
abbrev pub has_named : List Happening → ℕ → ℕ → Bool
has_named history l c = stands (tells l c) (takes l) history

-- a lane told of another, and since then it neither lost its connection nor idled
abbrev pub is_telling : List Happening → ℕ → ℕ → Bool
is_telling history l c = stands (tells l c) (ends_telling l) history

-- a lane idles before its connection is lost
abbrev pub idles_first : List Happening → ℕ → Bool
idles_first [] l = false
idles_first (Idled k ∷ later) l = k == l || idles_first later l
idles_first (Dropped k ∷ later) l = not (k == l) && idles_first later l
idles_first (_ ∷ later) l = idles_first later l

-- some lane told of this one, and idled behind that before its connection was lost: so the sender has
-- read it, and has nothing left to send of what it put back
abbrev pub is_heard : List Happening → ℕ → Bool
is_heard [] c = false
is_heard (Told k set ∷ later) c = (has_lane set c && idles_first later k) || is_heard later c
is_heard (_ ∷ later) c = is_heard later c

-- a closed lane that the sender has read of
abbrev pub is_confirmed : List Happening → ℕ → Bool
is_confirmed history c = is_closed history c && is_heard history c

-- a closed lane that isn't confirmed, and of which a lane hasn't told on its connection
abbrev pub is_untold : List Happening → ℕ → ℕ → Bool
is_untold history l c = is_closed history c && not (is_heard history c) && not (has_named history l c)

-- each of the first so many lanes passes
abbrev pub every : ℕ → (ℕ → Bool) → Bool
every zero passes = true
every (suc n) passes = passes n && every n passes

-- one of the first so many lanes passes
abbrev pub some : ℕ → (ℕ → Bool) → Bool
some zero passes = false
some (suc n) passes = passes n || some n passes

-- the finish may come: every lane is idle or closed, one is idle, and every closed lane is confirmed
abbrev pub is_ready : ℕ → List Happening → Bool
is_ready lanes history =
    every lanes (λ l. is_idle history l || is_closed history l) && some lanes (is_idle history)
    && every lanes (λ l. not (is_closed history l) || is_heard history l)

-- the lane on which something happens
abbrev pub lane_of : Happening → ℕ
lane_of (Took l) = l
lane_of (Dropped l) = l
lane_of (Idled l) = l
lane_of (Told l set) = l
lane_of (Closed l) = l

-- all of it happens on the first so many lanes
abbrev pub AreOn : ℕ → List Happening → Type 0
AreOn lanes [] = Unit {0}
AreOn lanes (e ∷ history) = (lane_of e < lanes) × AreOn lanes history
