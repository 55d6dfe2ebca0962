-- What a reopening leaves.
use Rattle.std.specs.Prelude.{◌≡◌, ℕ, [], Option, Some, None}
use Rattle.wdt_depot.specs.Disk.{Disk, HasImagesOf}
use Rattle.wdt_depot.specs.Moments.{Told, Since}
use Rattle.wdt_depot.specs.State.{State}

-- the pick of a reopening: that of the stop that struck, or 0
abbrev pub pick_of : Option ℕ → ℕ
pick_of None = 0
pick_of (Some pick) = pick

-- a reopening puts the picked image in place; the moments on the way leave nothing new
abbrev pub Reopens : (Disk → ℕ → Disk) → ℕ → Option Told → Option Told → Type 0
Reopens picked pick None None = Unit {0}
Reopens picked pick None (Some u) = ⊥
Reopens picked pick (Some t) None = ⊥
Reopens picked pick (Some t) (Some u) = (u.now ≡ picked t.now pick) × Since (HasImagesOf t.now) (Some t) (Some u)

-- the state after an arming: a stop that hasn't struck is replaced, one that has stays
abbrev pub armed : ℕ → ℕ → State → State
armed calls pick s = record s { stop = record { armed = Some (calls, pick); struck = s.stop.struck } }

-- the state after a reopening, but for what is told: no spot is entered, a stop that struck is over and
-- one that hasn't stays armed, and the count of own faults is noted
abbrev pub reopened : Option Told → State → State
reopened told s = record { told = told; stop = record { armed = s.stop.armed; struck = None }; spots = []; faults = s.faults; own = s.own; own_then = s.own; slips = s.slips; schedule = s.schedule }
