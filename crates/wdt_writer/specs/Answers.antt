-- What a writer's calls answer, and what stands behind one that failed.
use Rattle.std.specs.Prelude.{◌≡◌, ◌⊎◌, Option, Some, None, Result, Err, IfErr, IsErrOf, is_ok, Bool}
use Rattle.wdt_depot.specs.Programs.{Calls, Drive, IsQuiet, drive_of}
use Rattle.wdt_depot.specs.State.{State}
use Rattle.wdt_depot.specs.declared.failure.DepotFail.{DepotFail}
use Rattle.wdt_depot.specs.declared.failure.DepotFail.TheVariants as depot
use Rattle.wdt_units.specs.declared.blocks.Header.{Header}
use Rattle.wdt_logfmt.specs.Beginning.{BeginFault, begin_fault}
use Rattle.wdt_logfmt.specs.Beginning as faults
use Rattle.wdt_writer.specs.declared.fail.WriteFail.{WriteFail}
use Rattle.wdt_writer.specs.declared.fail.WriteFail.TheVariants.{Disk as DiskFail, NoMemory, OverLimit, Overlap, SizeDiffers}
use Rattle.wdt_writer.specs.PlainWriter.{PlainWriter, begun, marks, settled}

-- what a depot's failure is to a writer
abbrev pub of_depot : DepotFail → WriteFail
of_depot depot.Failed = DiskFail
of_depot depot.NoMemory = NoMemory

-- what a fault of a block is answered by
abbrev pub of_fault : BeginFault → WriteFail
of_fault (faults.SizeDiffers size stamp told_size told_stamp) = SizeDiffers size stamp told_size told_stamp
of_fault (faults.Overlap position) = Overlap position
of_fault (faults.OverLimit count) = OverLimit count

-- why the header's block may not begin
abbrev pub fault_at : PlainWriter → Header → Option BeginFault
fault_at w h = begin_fault w.known (marks w) (begun w) h

-- the answer isn't that the block may not begin
abbrev pub IsNoRefusal : WriteFail → Type 0
IsNoRefusal DiskFail = Unit {0}
IsNoRefusal NoMemory = Unit {0}
IsNoRefusal fail = ⊥

-- A block is refused exactly where there is a fault, with it. Only want of memory may come before.
abbrev pub IsAnswered : {T : Type 0} → Option BeginFault → Result T WriteFail → Type 0
IsAnswered None result = IfErr result IsNoRefusal
IsAnswered (Some fault) result = (result ≡ Err (of_fault fault)) ⊎ (result ≡ Err NoMemory)

-- a call ran this program, unless it was refused for memory or an own fault came
abbrev pub RanWrite : {T : Type 0} → (Drive → Bool × Drive) → Result T WriteFail → State → State → Type 0
RanWrite f result old new = (IsErrOf result NoMemory → ⊥) → IsQuiet old new → Calls f (is_ok result) (drive_of old) (drive_of new)

-- nothing has changed, but that the last landing may not be taken back any more
abbrev pub IsSameOrSettled : PlainWriter → PlainWriter → Type 0
IsSameOrSettled old new = (new ≡ old) ⊎ (new ≡ settled old)
