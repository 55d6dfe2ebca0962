-- Which entries may be noted: far more than are legal, and all that are.
use Rattle.std.specs.Prelude.{◌≡◌, ℕ, ◌<◌, List, length, Option, Some, None}
use Rattle.wdt_units.specs.declared.limits.TheConstants.{MAX_BLOCKS, MAX_CONNECTIONS, MAX_TRIES}
use Rattle.wdt_receiver_fsm.specs.declared.events.RecvEvent.{RecvEvent}
use Rattle.wdt_receiver_fsm.specs.declared.events.RecvEvent.TheVariants.{Take, NoLink, Begin, Told}
use Rattle.wdt_receiver_fsm.specs.Ready.{untold}
use Rattle.wdt_receiver_fsm.specs.ReceiverHistory.{lane_of, past_of}
use Rattle.wdt_receiver_fsm.specs.Sets.{set_of}

-- the lane is one of n, where there is one
abbrev pub IsWithin : ℕ → Option ℕ → Type 0
IsWithin n None = Unit {0}
IsWithin n (Some l) = l < n

-- what is counted of a lane stays within the limits of a transfer, and a lane tells of all closed lanes
-- that are untold for it
abbrev pub KeepsLimits : ℕ → List RecvEvent → RecvEvent → Type 0
KeepsLimits n g (Take l c) = (past_of g l.0).takes < MAX_CONNECTIONS
KeepsLimits n g (NoLink l) = (past_of g l.0).failed_tries < MAX_TRIES
KeepsLimits n g (Begin l b) = length (past_of g l.0).landed < MAX_BLOCKS
KeepsLimits n g (Told l set) = set ≡ set_of (untold n g l.0)
KeepsLimits n g _ = Unit {0}

-- an entry may be noted behind a history of n lanes
pub record MayNote (n : ℕ) (g : List RecvEvent) (e : RecvEvent) : Type 0 where
  pub within : IsWithin n (lane_of e)
  pub limits : KeepsLimits n g e
