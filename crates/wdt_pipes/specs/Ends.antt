-- What a dialer or an acceptor inside a process is seen as, and what its calls make of it.
use Rattle.std.specs.Prelude.{ℕ, zero, suc, ◌==◌, ◌-◌, Bool, true, false, List, [], ◌∷◌, ◌++◌, Result, Ok, Err, if◌then◌else◌}
use Rattle.wdt_units.specs.Counts.{added}
use Rattle.wdt_units.specs.Schedule.{Schedule, numbered}
use Rattle.wdt_units.specs.View.{new_schedule}
use Rattle.wdt_units.specs.declared.numbers.Lane.{Lane}
use Rattle.wdt_link.specs.declared.fails.LinkFail.{LinkFail}
use Rattle.wdt_link.specs.declared.fails.LinkFail.TheVariants.{Failed, NoMemory}
use Rattle.wdt_pipes.specs.Pipes.{PipeView}

-- which of its calls fail by their numbers, whether its lane makes no further call, how many of its
-- links are out, and its counts
pub record EndView : Type 0 where
  pub schedule : Schedule
  pub retired : Bool
  pub out : ℕ
  pub faults : ℕ
  pub alarms : ℕ
  pub slips : ℕ

-- ---- one end

-- behind a call that gives a link
abbrev pub giving : EndView → EndView
giving e = record { schedule = numbered e.schedule; retired = e.retired; out = 1; faults = e.faults; alarms = e.alarms; slips = e.slips }

-- behind a call that fails
abbrev pub failing : EndView → EndView
failing e = record { schedule = numbered e.schedule; retired = e.retired; out = e.out; faults = added e.faults 1; alarms = e.alarms; slips = e.slips }

-- behind a call for a link: one that is refused for want of memory gets no number
abbrev pub called : {T : Type 0} → Result T LinkFail → EndView → EndView
called (Ok link) e = giving e
called (Err Failed) e = failing e
called (Err NoMemory) e = e

-- behind the return of a link
abbrev pub taking_back : PipeView → EndView → EndView
taking_back link e =
    record {
      schedule = e.schedule;
      retired = e.retired;
      out = e.out - 1;
      faults = added e.faults link.faults;
      alarms = added e.alarms link.alarms;
      slips = added e.slips link.slips;
    }

-- once its lane makes no further call
abbrev pub retiring : EndView → EndView
retiring e = record { schedule = e.schedule; retired = true; out = e.out; faults = e.faults; alarms = e.alarms; slips = e.slips }

-- ---- the ends of all lanes

-- an end of which no call was made
abbrev pub new_end : List ℕ → EndView
new_end fails = record { schedule = new_schedule fails; retired = false; out = 0; faults = 0; alarms = 0; slips = 0 }

-- the numbers of one lane's calls that fail, of pairs of a lane and a number
abbrev pub fails_of : ℕ → List (Lane × ℕ) → List ℕ
fails_of lane [] = []
fails_of lane (pair ∷ pairs) = if pair.0.0 == lane then pair.1 ∷ fails_of lane pairs else fails_of lane pairs

-- an end for each of the first n lanes, in order
abbrev pub new_ends : ℕ → List (Lane × ℕ) → List EndView
new_ends zero pairs = []
new_ends (suc n) pairs = new_ends n pairs ++ new_end (fails_of n pairs) ∷ []
