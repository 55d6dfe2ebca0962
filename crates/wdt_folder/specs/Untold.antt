-- What contracts see of a depot that tells nothing of its disk.
use Rattle.std.specs.Prelude.{ℕ, List, [], None, Bool, is_some}
use Rattle.wdt_depot.specs.declared.health.Health.{Health}
use Rattle.wdt_depot.specs.Health.{stop_of}
use Rattle.wdt_depot.specs.State.{State, counted}

-- its stop, its spots and its counts; it has no slips, and tells of no call whether it will fail
abbrev pub untold : Health → List (ℕ × List ℕ) → State
untold l es = record { told = None; stop = stop_of l; spots = es; faults = l.faults; own = l.own; own_then = l.own_then; slips = 0; schedule = None }

-- a changing call can't go on: a stop has struck, or strikes it
abbrev pub is_barred : Health → Bool
is_barred l = is_some (counted (stop_of l)).struck

-- how it begins: nothing happened yet
abbrev pub fresh : State
fresh = record { told = None; stop = record { armed = None; struck = None }; spots = []; faults = 0; own = 0; own_then = 0; slips = 0; schedule = None }
