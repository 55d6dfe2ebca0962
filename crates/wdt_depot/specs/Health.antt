-- What goes wrong in a depot.
use Rattle.std.specs.Prelude.{◌≡◌, ◌≢◌, ℕ, ◌-◌, ◌%◌, ◌==◌, Bool, true, false, List, Option, Some, None, IsSome, Result, Ok, Err}
use Rattle.wdt_units.specs.Counts.{Rises}
use Rattle.wdt_units.specs.Schedule.{Schedule, is_due, numbered}
use Rattle.wdt_units.specs.Slips.{RisesIf}
use Rattle.wdt_depot.specs.State.{Stop, State}
use Rattle.wdt_depot.specs.Moments.{Told}
use Rattle.wdt_depot.specs.declared.failure.DepotFail.{DepotFail}
use Rattle.wdt_depot.specs.declared.failure.DepotFail.TheVariants.{Failed}
use Rattle.wdt_depot.specs.declared.health.Health.{Health}
use Rattle.wdt_depot.specs.declared.health.Turn.{Turn}
use Rattle.wdt_depot.specs.declared.health.Turn.TheVariants.{Bars, Strikes, Fails, Goes}

-- its stop
abbrev pub stop_of : Health → Stop
stop_of l = record { armed = l.armed; struck = l.struck }

-- which changing calls fail by their numbers, and how many there were
abbrev pub schedule_of : Health → Schedule
schedule_of l = record { fails = l.fails.items; calls = l.calls }

-- the state of what is told, of the health and of the spots
abbrev pub state_of : Told → Health → List (ℕ × List ℕ) → State
state_of t l es = record { told = Some t; stop = stop_of l; spots = es; faults = l.faults; own = l.own; own_then = l.own_then; slips = l.slips; schedule = Some (schedule_of l) }

-- nothing went wrong yet, and the calls of these numbers will fail
pub record IsFresh (fails : List ℕ) (l : Health) : Type 0 where
  pub stop : stop_of l ≡ record { armed = None; struck = None }
  pub schedule : schedule_of l ≡ record { fails = fails; calls = 0 }
  pub faults : l.faults ≡ 0
  pub own : l.own ≡ 0
  pub own_then : l.own_then ≡ 0
  pub slips : l.slips ≡ 0

-- a fault, and nothing else
pub record IsFaulted (old new : Health) : Type 0 where
  pub armed : new.armed ≡ old.armed
  pub struck : new.struck ≡ old.struck
  pub own : new.own ≡ old.own
  pub own_then : new.own_then ≡ old.own_then
  pub slips : new.slips ≡ old.slips
  pub schedule : schedule_of new ≡ schedule_of old
  pub faults : Rises old.faults new.faults

-- an own fault, with a slip or without
pub record IsOwnFault (slips : Bool) (old new : Health) : Type 0 where
  pub armed : new.armed ≡ old.armed
  pub struck : new.struck ≡ old.struck
  pub own_then : new.own_then ≡ old.own_then
  pub schedule : schedule_of new ≡ schedule_of old
  pub faults : Rises old.faults new.faults
  pub own : Rises old.own new.own
  pub slipped : RisesIf slips old.slips new.slips

-- the stop isn't at its last call
abbrev pub IsLater : Option (ℕ × ℕ) → Type 0
IsLater None = Unit {0}
IsLater (Some a) = a.0 ≢ 1

-- no stop hinders the next changing call, and by its number it fails or doesn't
pub record IsFree (fails : Bool) (l : Health) : Type 0 where
  pub up : l.struck ≡ None
  pub later : IsLater l.armed
  pub due : is_due (schedule_of l) ≡ fails

-- What becomes of the next changing call. A stop that has struck comes first, then one that strikes at
-- its last call, then the numbers.
abbrev pub IsTurn : Health → Turn → Type 0
IsTurn l Bars = IsSome l.struck
IsTurn l (Strikes pick) = (l.struck ≡ None) × (l.armed ≡ Some (1, pick))
IsTurn l Fails = IsFree true l
IsTurn l Goes = IsFree false l

-- a stop that struck before bars a changing call, which has a number
pub record IsBarred (old new : Health) : Type 0 where
  pub armed : new.armed ≡ old.armed
  pub struck : new.struck ≡ old.struck
  pub own : new.own ≡ old.own
  pub own_then : new.own_then ≡ old.own_then
  pub slips : new.slips ≡ old.slips
  pub schedule : schedule_of new ≡ numbered (schedule_of old)
  pub faults : Rises old.faults new.faults

-- the stop struck
pub record IsStruck (pick : ℕ) (old new : Health) : Type 0 where
  pub armed : new.armed ≡ None
  pub struck : new.struck ≡ Some pick
  pub own : new.own ≡ old.own
  pub own_then : new.own_then ≡ old.own_then
  pub slips : new.slips ≡ old.slips
  pub schedule : schedule_of new ≡ numbered (schedule_of old)
  pub faults : Rises old.faults new.faults

-- one call less up to the stop
abbrev pub less : Option (ℕ × ℕ) → Option (ℕ × ℕ)
less None = None
less (Some a) = Some (a.0 - 1, a.1)

-- a changing call was counted
pub record IsCountedOn (old new : Health) : Type 0 where
  pub armed : new.armed ≡ less old.armed
  pub struck : new.struck ≡ old.struck
  pub faults : new.faults ≡ old.faults
  pub own : new.own ≡ old.own
  pub own_then : new.own_then ≡ old.own_then
  pub slips : new.slips ≡ old.slips
  pub schedule : schedule_of new ≡ numbered (schedule_of old)

-- an own fault of a changing call
pub record IsOwnRefusal (slips : Bool) (old new : Health) : Type 0 where
  pub armed : new.armed ≡ less old.armed
  pub struck : new.struck ≡ old.struck
  pub own_then : new.own_then ≡ old.own_then
  pub schedule : schedule_of new ≡ numbered (schedule_of old)
  pub faults : Rises old.faults new.faults
  pub own : Rises old.own new.own
  pub slipped : RisesIf slips old.slips new.slips

-- the call wasn't done: a stop had struck or strikes, or else it is an own fault
abbrev pub IsRefused : Turn → Bool → Health → Health → Type 0
IsRefused Bars slips old new = IsBarred old new
IsRefused (Strikes pick) slips old new = IsStruck pick old new
IsRefused Fails slips old new = IsOwnRefusal slips old new
IsRefused Goes slips old new = IsOwnRefusal slips old new

-- a call that can be done ended by its turn
abbrev pub IsEnded : Turn → Result (Unit {0}) DepotFail → Health → Health → Type 0
IsEnded Bars result old new = (result ≡ Err Failed) × IsBarred old new
IsEnded (Strikes pick) result old new = (result ≡ Err Failed) × IsStruck pick old new
IsEnded Fails result old new = (result ≡ Err Failed) × IsOwnRefusal false old new
IsEnded Goes result old new = (result ≡ Ok tt) × IsCountedOn old new

-- the call goes on
abbrev pub goes : Turn → Bool
goes Bars = false
goes (Strikes pick) = false
goes Fails = false
goes Goes = true

-- it reaches the disk: it goes on, or a stop strikes it there
abbrev pub reaches_disk : Turn → Bool
reaches_disk Bars = false
reaches_disk (Strikes pick) = true
reaches_disk Fails = false
reaches_disk Goes = true

-- it is done, where it is done whole or not at all: it goes on, or a stop strikes it by an odd pick
abbrev pub is_whole : Turn → Bool
is_whole Bars = false
is_whole (Strikes pick) = pick % 2 == 1
is_whole Fails = false
is_whole Goes = true
