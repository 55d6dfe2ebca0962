-- What notes keep beside their history, and that the history says the same.
use Rattle.std.specs.Prelude.{◌≡◌, ℕ, ◌-◌, ◌<◌, ◌≤◌, List, length, slice_index_or, vec_len, vec_capacity, slice_set, [], ◌∷◌, Option, Some, None}
use Rattle.wdt_units.specs.declared.limits.TheConstants.{MAX_LANES}
use Rattle.wdt_funnel.specs.Barrier.{Barrier, barrier_of, untold}
use Rattle.wdt_receiver_fsm.specs.declared.events.RecvEvent.{RecvEvent}
use Rattle.wdt_receiver_fsm.specs.declared.events.RecvEvent.TheVariants.{Told}
use Rattle.wdt_receiver_fsm.specs.ReceiverHistory.{end_of, has_finish_after, lane_of, met_after, past_of, sized_after}
use Rattle.wdt_receiver_fsm.specs.declared.common.Common.{Common}
use Rattle.wdt_receiver_fsm.specs.declared.notes.Notes.TheInside.{Inside}
use Rattle.wdt_receiver_fsm.specs.declared.tally.Tally.{Tally}
use Rattle.wdt_receiver_fsm.specs.Happened.{happenings_of}
use Rattle.wdt_receiver_fsm.specs.Notable.{IsWithin}
use Rattle.wdt_receiver_fsm.specs.Tallies.{IsTally, counted, no_tally, tally_of}
use Rattle.wdt_receiver_fsm.specs.View.{NotesView}

-- the notes that a caller sees
abbrev pub seen : Inside → NotesView
seen notes = record { lanes = notes.lanes; history = notes.events.items; room = vec_capacity notes.events - vec_len notes.events }

-- what is kept of a lane
abbrev pub tally_at : List Tally → ℕ → Tally
tally_at tallies l = slice_index_or tallies l no_tally

-- one more entry is counted, where it is of a lane
abbrev pub counted_by : Option ℕ → List Tally → RecvEvent → List Tally
counted_by None tallies e = tallies
counted_by (Some l) tallies e = slice_set tallies l (counted (tally_at tallies l) e)

-- one more entry is counted for its lane
abbrev pub counted_in : List Tally → RecvEvent → List Tally
counted_in tallies e = counted_by (lane_of e) tallies e

-- an entry is of a lane whose tally stays within the limits, or of none
abbrev pub CanCountFor : Option ℕ → List Tally → RecvEvent → Type 0
CanCountFor None tallies e = Unit {0}
CanCountFor (Some l) tallies e = (l < length tallies) × IsTally (counted (tally_at tallies l) e)

-- an entry can be counted
abbrev pub CanCount : List Tally → RecvEvent → Type 0
CanCount tallies e = CanCountFor (lane_of e) tallies e

-- a lane tells of all that is untold for it
abbrev pub TellsAll : Barrier → RecvEvent → Type 0
TellsAll b (Told l set) = set ≡ untold b l.0
TellsAll b _ = Unit {0}

-- an entry can be passed on to a funnel
pub record CanPass (b : Barrier) (e : RecvEvent) : Type 0 where
  pub within : IsWithin b.lanes (lane_of e)
  pub tells : TellsAll b e

-- one more entry is noted of the whole end
abbrev pub noted_in : Common → RecvEvent → Common
noted_in c e = record { met = met_after c.met e; sized = sized_after c.sized e; has_finish = has_finish_after c.has_finish e }

-- each entry is of one of n lanes, or of none
abbrev pub AreWithin : ℕ → List RecvEvent → Type 0
AreWithin n [] = Unit {0}
AreWithin n (e ∷ g) = IsWithin n (lane_of e) × AreWithin n g

-- what is kept is what the history says
pub record IsKept (n : ℕ) (tallies : List Tally) (funnel : Barrier) (common : Common) (g : List RecvEvent) : Type 0 where
  pub few : n ≤ MAX_LANES
  pub within : AreWithin n g
  pub many : length tallies ≡ MAX_LANES
  pub tallied : (l : ℕ) → l < MAX_LANES → tally_at tallies l ≡ tally_of (past_of g l)
  pub limits : (l : ℕ) → l < MAX_LANES → IsTally (tally_of (past_of g l))
  pub barrier : funnel ≡ barrier_of n (happenings_of g)
  pub met : common.met ≡ (end_of g).met
  pub sized : common.sized ≡ (end_of g).sized
  pub finish : common.has_finish ≡ (end_of g).has_finish

-- notes as the code keeps them
abbrev pub IsNotes : Inside → Type 0
IsNotes notes = IsKept notes.lanes notes.tallies notes.funnel notes.common notes.events.items
