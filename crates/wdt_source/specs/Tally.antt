-- The counts of a source in memory.
use Rattle.std.specs.Prelude.{◌≡◌, Bool}
use Rattle.wdt_units.specs.Counts.{Rises}
use Rattle.wdt_units.specs.Schedule.{Schedule, numbered}
use Rattle.wdt_units.specs.Slips.{RisesIf}
use Rattle.wdt_source.specs.declared.tally.Tally.{Tally}

-- which calls fail by their numbers, and how many there were
abbrev pub schedule_of : Tally → Schedule
schedule_of t = record { fails = t.fails.items; calls = t.calls }

-- a call was numbered, and nothing else
pub record IsNumbered (old new : Tally) : Type 0 where
  pub schedule : schedule_of new ≡ numbered (schedule_of old)
  pub faults : new.faults ≡ old.faults
  pub slips : new.slips ≡ old.slips

-- a call failed, and was a slip where this says so
pub record IsFailed (slips : Bool) (old new : Tally) : Type 0 where
  pub schedule : schedule_of new ≡ numbered (schedule_of old)
  pub faults : Rises old.faults new.faults
  pub slipped : RisesIf slips old.slips new.slips
