-- What the log's calls answer.
use Rattle.std.specs.Prelude.{◌≡◌, Bool, true, false, Option, None, Result, Ok, Err, IfErr, IsErrOf, OnOk, is_ok}
use Rattle.wdt_depot.specs.Disk.{seen_of}
use Rattle.wdt_depot.specs.Moments.{IfTold, Told}
use Rattle.wdt_depot.specs.Programs.{Calls, Drive, IsQuiet, drive_of}
use Rattle.wdt_depot.specs.State.{Counts, State}
use Rattle.wdt_depot.specs.declared.failure.DepotFail.{DepotFail}
use Rattle.wdt_depot.specs.declared.failure.DepotFail.TheVariants as depot
use Rattle.wdt_logfmt.specs.declared.fails.ReadLogFail.{ReadLogFail}
use Rattle.wdt_logfmt.specs.declared.fails.ReadLogFail.TheVariants as reading
use Rattle.wdt_good.specs.Calls.{run_open}
use Rattle.wdt_good.specs.Good.{log_of}
use Rattle.wdt_log.specs.declared.fail.LogFail.{LogFail}
use Rattle.wdt_log.specs.declared.fail.LogFail.TheVariants.{Disk as DiskFail, BadLog, Shut, NoMemory}

-- what a depot's failure is to the log
abbrev pub of_depot : DepotFail → LogFail
of_depot depot.Failed = DiskFail
of_depot depot.NoMemory = NoMemory

-- what a log that wasn't read is to its opening
abbrev pub of_reading : ReadLogFail → LogFail
of_reading (reading.BadLog at) = BadLog at
of_reading reading.NoMemory = NoMemory

-- the answer is that of a depot
abbrev pub IsOfDepot : LogFail → Type 0
IsOfDepot DiskFail = Unit {0}
IsOfDepot NoMemory = Unit {0}
IsOfDepot fail = ⊥

-- What a call of the log that makes calls of its depot leaves there: a failure is one of the depot's, of which
-- the counts tell, no stop has struck where the call was done, and the same spots are entered.
pub record UsesDepot {T : Type 0} (result : Result T LogFail) (old new : State) : Type 0 where
  pub never : IfErr result (λ fail. IsOfDepot fail)
  pub counts : Counts (IsErrOf result DiskFail) old new
  pub up : OnOk result (new.stop.struck ≡ None)
  pub spots : new.spots ≡ old.spots

-- the answer isn't that the log has no meaning
abbrev pub IsNotBad : LogFail → Type 0
IsNotBad (BadLog at) = ⊥
IsNotBad fail = Unit {0}

-- A log has no meaning only where that is so of what is read, with the place; and it is never shut.
abbrev pub IsOpeningFail : Option Told → LogFail → Type 0
IsOpeningFail told (BadLog at) = IfTold (λ t. log_of (seen_of t.now) ≡ Err at) told
IsOpeningFail told Shut = ⊥
IsOpeningFail told fail = Unit {0}

-- a call ran this program, unless it was refused for memory or an own fault came
abbrev pub RanLog : {T : Type 0} → (Drive → Bool × Drive) → Result T LogFail → State → State → Type 0
RanLog f result old new = (IsErrOf result NoMemory → ⊥) → IsQuiet old new → Calls f (is_ok result) (drive_of old) (drive_of new)

-- an opening ran to its end, also where the log that is there has no meaning
abbrev pub ran_well : {T : Type 0} → Result T LogFail → Bool
ran_well (Ok x) = true
ran_well (Err (BadLog at)) = true
ran_well (Err fail) = false

-- an opening ran its program, unless it was refused for memory or an own fault came
abbrev pub RanOpening : {T : Type 0} → Result T LogFail → State → State → Type 0
RanOpening result old new = (IsErrOf result NoMemory → ⊥) → IsQuiet old new → Calls run_open (ran_well result) (drive_of old) (drive_of new)
