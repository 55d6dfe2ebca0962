-- What contracts see of a depot.
use Rattle.std.specs.Prelude.{◌≡◌, ◌⊎◌, ℕ, ◌+◌, ◌-◌, ◌≤◌, ◌^◌, nat_lt, ◌&&◌, ◌||◌, ◌==◌, if◌then◌else◌, Bool, true, false, is_none, List, [], ◌∷◌, length, take, drop, Option, Some, None, IsSome, Result, Ok, Err, IsErrOf}
use Rattle.std.specs.List.{list_any}
use Rattle.std.specs.Str.{bytes_eq}
use Rattle.wdt_units.specs.Counts.{Rises}
use Rattle.wdt_units.specs.Schedule.{Schedule, IfScheduled, is_due, numbered}
use Rattle.wdt_units.specs.declared.numbers.Spot.{Spot}
use Rattle.wdt_depot.specs.Disk.{Disk, DiskFile, IfFile}
use Rattle.wdt_depot.specs.Moments.{Told, IfTold}
use Rattle.wdt_depot.specs.declared.failure.DepotFail.{DepotFail}
use Rattle.wdt_depot.specs.declared.failure.DepotFail.TheVariants.{Failed, NoMemory}

-- a stop: armed, with the changing calls up to it and its pick, or struck, with its pick
pub record Stop : Type 0 where
  pub armed : Option (ℕ × ℕ)
  pub struck : Option ℕ

-- the moments where they are told, the stop, the entered spots with their paths, the counts of faults
-- and of own faults, the count of own faults at the last reopening, the count of slips, and which
-- changing calls fail by themselves, where that is told
pub record State : Type 0 where
  pub told : Option Told
  pub stop : Stop
  pub spots : List (ℕ × List ℕ)
  pub faults : ℕ
  pub own : ℕ
  pub own_then : ℕ
  pub slips : ℕ
  pub schedule : Option Schedule

-- spots

-- the path of a spot
abbrev pub path_of : ℕ → List (ℕ × List ℕ) → Option (List ℕ)
path_of spot [] = None
path_of spot (e ∷ es) = if e.0 == spot then Some e.1 else path_of spot es

-- the path, or the empty one where there is none
abbrev pub path_or : Option (List ℕ) → List ℕ
path_or None = []
path_or (Some path) = path

-- the path of a spot that is entered
abbrev pub at_spot : ℕ → State → List ℕ
at_spot spot s = path_or (path_of spot s.spots)

-- the spot is entered
abbrev pub IsEntered : ℕ → State → Type 0
IsEntered spot s = IsSome (path_of spot s.spots)

-- no spot is on this path
abbrev pub NotEntered : List ℕ → State → Type 0
NotEntered path s = list_any (λ (e : ℕ × List ℕ). bytes_eq path e.1) s.spots ≡ false

-- the spots without this one
abbrev pub without : ℕ → List (ℕ × List ℕ) → List (ℕ × List ℕ)
without spot [] = []
without spot (e ∷ es) = if e.0 == spot then es else e ∷ without spot es

-- the spot that a call entered, if it did
abbrev pub entered : Result (Option Spot) DepotFail → List ℕ → List (ℕ × List ℕ)
entered (Ok (Some spot)) path = (spot.0, path) ∷ []
entered (Ok None) path = []
entered (Err e) path = []

-- the same for a call that enters a spot wherever it succeeds
abbrev pub needed : Result Spot DepotFail → List ℕ → List (ℕ × List ℕ)
needed (Ok spot) path = (spot.0, path) ∷ []
needed (Err e) path = []

-- where the disk is told, the file of each entered spot stands
abbrev pub SpotsStand : State → Type 0
SpotsStand s = IfTold (λ t. (spot : ℕ) → IsEntered spot s → IsSome (t.now (at_spot spot s))) s.told

-- reads

-- said of the told file at a path
abbrev pub IfFileAt : (DiskFile → Type 0) → List ℕ → State → Type 0
IfFileAt P path s = IfTold (λ t. IfFile P (t.now path)) s.told

-- as many bytes were read as the file has from the offset on, up to the slice's length
pub record Reads (s : State) (path : List ℕ) (offset n : ℕ) (old new : List ℕ) : Type 0 where
  pub fits : n ≤ length new
  pub bytes : IfFileAt (λ f. take n new ≡ take (length old) (drop offset f.seen)) path s

-- the stop

-- a stop that hasn't struck, after one more changing call: it strikes at the last
abbrev pub armed_on : Option (ℕ × ℕ) → Stop
armed_on None = record { armed = None; struck = None }
armed_on (Some a) = if a.0 == 1 then record { armed = None; struck = Some a.1 } else record { armed = Some (a.0 - 1, a.1); struck = None }

-- the same, by whether it had struck before: then it stays as it is
abbrev pub counted_on : Option ℕ → Option (ℕ × ℕ) → Stop
counted_on None armed = armed_on armed
counted_on (Some pick) armed = record { armed = armed; struck = Some pick }

-- a stop after one more changing call: it strikes at the last, and counts no call after it struck
abbrev pub counted : Stop → Stop
counted stop = counted_on stop.struck stop.armed

-- what a call leaves

-- a call that was refused for memory changed nothing
abbrev pub IsKept : {T : Type 0} → Result T DepotFail → State → State → Type 0
IsKept result old new = IsErrOf result NoMemory → new ≡ old

-- each changing call counts for the stop, unless it was refused for memory
abbrev pub IsCounted : {T : Type 0} → Result T DepotFail → State → State → Type 0
IsCounted result old new = (IsErrOf result NoMemory → ⊥) → new.stop ≡ counted old.stop

-- a call that looks leaves the disk and the stop, and has no number
pub record OnlyLooks (old new : State) : Type 0 where
  pub told : new.told ≡ old.told
  pub stop : new.stop ≡ old.stop
  pub schedule : new.schedule ≡ old.schedule

-- The counts after a call that failed or didn't: no count falls. A failed call counts a fault, and an
-- own fault unless a stop struck, before it or in it. A stop makes no own fault, and a call that
-- didn't fail makes none.
pub record Counts (failed : Type 0) (old new : State) : Type 0 where
  pub faults : old.faults ≤ new.faults
  pub own : old.own ≤ new.own
  pub own_then : new.own_then ≡ old.own_then
  pub slips : old.slips ≤ new.slips
  pub rose : failed → Rises old.faults new.faults
  pub cause : failed → IsSome new.stop.struck ⊎ Rises old.own new.own
  pub struck : IsSome new.stop.struck → new.own ≡ old.own
  pub fine : (failed → ⊥) → (new.faults ≡ old.faults) × (new.own ≡ old.own)

-- slips: what a caller asked for that can't be

-- The count of slips rises exactly where the call is one, and such a call fails. A call that a stop
-- struck is none, and one that was refused for memory isn't made.
pub record CountsSlip {T : Type 0} (slip : Bool) (result : Result T DepotFail) (failed : Type 0) (old new : State) : Type 0 where
  pub none : slip ≡ false → new.slips ≡ old.slips
  pub struck : IsSome new.stop.struck → new.slips ≡ old.slips
  pub rose : slip ≡ true → new.stop.struck ≡ None → (IsErrOf result NoMemory → ⊥) → Rises old.slips new.slips × failed

-- no file is at the path
abbrev pub lacks : List ℕ → Disk → Bool
lacks path d = is_none (d path)

-- a write would end above 2^41
abbrev pub is_past_end : ℕ → ℕ → Bool
is_past_end offset count = nat_lt (2 ^ 41) (offset + count)

-- the offset is above the file's length, or there is no file
abbrev pub is_behind : ℕ → Option DiskFile → Bool
is_behind offset None = true
is_behind offset (Some f) = nat_lt (length f.seen) offset

-- such a write begins above both 2^40 and the file's length
abbrev pub is_far : List ℕ → ℕ → ℕ → Disk → Bool
is_far path offset count d = is_past_end offset count && nat_lt (2 ^ 40) offset && is_behind offset (d path)

-- the same where the disk is told, the slip being judged on the disk before the call
abbrev pub SlipsWhere : {T : Type 0} → (Disk → Bool) → Result T DepotFail → Type 0 → State → State → Type 0
SlipsWhere test result failed old new = IfTold (λ t. CountsSlip (test t.now) result failed old new) old.told

-- what fails by itself, where that is told

-- A call that no stop struck, and that wasn't refused for memory, fails exactly where it is due to.
pub record FailsWhere (due : Bool) (failed refused : Type 0) (new : State) : Type 0 where
  pub only : failed → new.stop.struck ≡ None → due ≡ true
  pub each : due ≡ true → new.stop.struck ≡ None → (refused → ⊥) → failed

-- a call that looks fails only where it can't be done, judged on the disk before the call
abbrev pub OnlyWhere : {T : Type 0} → (Disk → Bool) → Result T DepotFail → State → State → Type 0
OnlyWhere cant result old new = IfScheduled (λ s. IfTold (λ t. FailsWhere (cant t.now) (IsErrOf result Failed) (IsErrOf result NoMemory) new) old.told) old.schedule

-- A changing call has a number, behind a stop too, unless it was refused for memory. It fails where it
-- can't be done, and where its number is one of those that fail.
pub record IsByNumber (cant : Bool) (failed refused : Type 0) (s : Schedule) (new : State) : Type 0 where
  pub number : (refused → ⊥) → new.schedule ≡ Some (numbered s)
  pub fails : FailsWhere (cant || is_due s) failed refused new

-- the same where it is told, judged on the disk before the call
abbrev pub NumberedBy : (Disk → Bool) → Type 0 → Type 0 → State → State → Type 0
NumberedBy cant failed refused old new = IfScheduled (λ s. IfTold (λ t. IsByNumber (cant t.now) failed refused s new) old.told) old.schedule

-- the same, by the call's answer
abbrev pub ByNumber : {T : Type 0} → (Disk → Bool) → Result T DepotFail → State → State → Type 0
ByNumber cant result old new = NumberedBy cant (IsErrOf result Failed) (IsErrOf result NoMemory) old new
