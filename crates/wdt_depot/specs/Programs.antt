-- The exact tier: where the disk is told and no own fault came, a call's answer and what stands after
-- it are fixed by what stood before. Programs of calls are functions, one behind the other.
use Rattle.std.specs.Prelude.{◌≡◌, ℕ, ◌%◌, ◌==◌, if◌then◌else◌, Bool, true, false, List, length, Option, Some, None, option_map, Result, IsErrOf, is_ok}
use Rattle.wdt_units.specs.Counts.{Stands}
use Rattle.wdt_depot.specs.Disk.{Disk, made, wrote, synced_at, placed}
use Rattle.wdt_depot.specs.State.{Stop, State, counted, is_past_end}
use Rattle.wdt_depot.specs.declared.failure.DepotFail.{DepotFail}
use Rattle.wdt_depot.specs.declared.failure.DepotFail.TheVariants.{NoMemory}

-- a disk and its stop
pub record Drive : Type 0 where
  pub disk : Disk
  pub stop : Stop

-- the disk and the stop of a state, where the disk is told
abbrev pub drive_of : State → Option Drive
drive_of s = option_map (λ t. record { disk = t.now; stop = s.stop }) s.told

-- a call that no stop struck before: done, or torn where a stop strikes it now
abbrev pub done_or_torn : (Disk → Disk) → (ℕ → Disk → Disk) → Stop → Disk → Option ℕ → Bool × Drive
done_or_torn done torn after d None = (true, record { disk = done d; stop = after })
done_or_torn done torn after d (Some pick) = (false, record { disk = torn pick d; stop = after })

-- the same, by whether a stop had struck before: then nothing changes
abbrev pub changed : (Disk → Disk) → (ℕ → Disk → Disk) → Stop → Disk → Option ℕ → Bool × Drive
changed done torn after d None = done_or_torn done torn after d after.struck
changed done torn after d (Some pick) = (false, record { disk = d; stop = after })

-- a changing call
unfoldable pub changing : (Disk → Disk) → (ℕ → Disk → Disk) → Drive → Bool × Drive
changing done torn p = changed done torn (counted p.stop) p.disk p.stop.struck

-- a call that changes nothing, by whether a stop had struck before: then it fails
abbrev pub looked : Drive → Option ℕ → Bool × Drive
looked p None = (true, p)
looked p (Some pick) = (false, p)

-- a call that changes nothing
unfoldable pub looking : Drive → Bool × Drive
looking p = looked p p.stop.struck

-- a call that is struck is done where the pick is odd
abbrev pub when_odd : (Disk → Disk) → ℕ → Disk → Disk
when_odd done pick d = if pick % 2 == 1 then done d else d

-- a write that is struck counts whole, but for one that would end above 2^41, which changes nothing
abbrev pub torn_write : List ℕ → ℕ → List ℕ → ℕ → Disk → Disk
torn_write path offset bytes pick d = if is_past_end offset (length bytes) then d else wrote path offset bytes d

-- the changing calls one by one

-- an empty file is made at a path
abbrev pub run_make : List ℕ → Drive → Bool × Drive
run_make path = changing (made path) (when_odd (made path))

-- bytes are written to the file at a path, from an offset on
abbrev pub run_write : List ℕ → ℕ → List ℕ → Drive → Bool × Drive
run_write path offset bytes = changing (wrote path offset bytes) (torn_write path offset bytes)

-- the file at a path is synced; a stop that strikes here leaves the disk as it was
abbrev pub run_sync : List ℕ → Drive → Bool × Drive
run_sync path = changing (synced_at path) (λ pick d. d)

-- the file at the source is put in place at the target
abbrev pub run_place : List ℕ → List ℕ → Drive → Bool × Drive
run_place source target = changing (placed source target) (when_odd (placed source target))

-- a program goes on where the call before answered Ok
abbrev pub onward : (Drive → Bool × Drive) → Bool → Drive → Bool × Drive
onward g true p = g p
onward g false p = (false, p)

-- two programs, one behind the other
abbrev pub both : (Drive → Bool × Drive) → (Drive → Bool × Drive) → Drive → Bool × Drive
both f g p = onward g (f p).0 (f p).1

-- a program's answer and what stands after it, where told
abbrev pub Calls : (Drive → Bool × Drive) → Bool → Option Drive → Option Drive → Type 0
Calls f ok before after = option_map f before ≡ option_map (λ p. (ok, p)) after

-- no own fault came; of a count at its end nothing is known
abbrev pub IsQuiet : State → State → Type 0
IsQuiet old new = Stands old.own new.own

-- a call ran this program, unless it was refused for memory or an own fault came
abbrev pub Ran : {T : Type 0} → (Drive → Bool × Drive) → Result T DepotFail → State → State → Type 0
Ran f result old new = (IsErrOf result NoMemory → ⊥) → IsQuiet old new → Calls f (is_ok result) (drive_of old) (drive_of new)
