-- A whole dock: what hangs together of it, how it opens, and what a flush of it answers.
use Rattle.std.specs.Prelude.{◌≡◌, ℕ, ◌≤◌, min, Bool, true, false, List, filter, length, Option, Some, None, Result, Ok, Err, IfErr, IsErrOf, is_ok}
use Rattle.wdt_units.specs.declared.limits.TheConstants.{MAX_BLOCKS, PIECE}
use Rattle.wdt_units.specs.declared.blocks.Block.{Block}
use Rattle.wdt_depot.specs.Disk.{seen_of}
use Rattle.wdt_depot.specs.Moments.{IfTold, Told}
use Rattle.wdt_depot.specs.Programs.{Calls, Drive, IsQuiet, drive_of}
use Rattle.wdt_depot.specs.State.{State}
use Rattle.wdt_logfmt.specs.Batches.{path_at}
use Rattle.wdt_logfmt.specs.Spelling.{written_version}
use Rattle.wdt_logfmt.specs.View.{NamedFile}
use Rattle.wdt_good.specs.Calls.{run_open}
use Rattle.wdt_good.specs.Good.{Each, log_of}
use Rattle.wdt_good.specs.LogState.{LogOf}
use Rattle.wdt_log.specs.declared.fail.LogFail.{LogFail}
use Rattle.wdt_log.specs.declared.fail.LogFail.TheVariants as log
use Rattle.wdt_log.specs.OpenLog.{OpenLog}
use Rattle.wdt_writer.specs.PlainWriter.{PlainWriter}
use Rattle.wdt_receiver_fsm.specs.declared.states.RecvState.{RecvState}
use Rattle.wdt_receiver_fsm.specs.declared.states.RecvState.TheVariants as states
use Rattle.wdt_receiver_fsm.specs.Answered.{IsAnswered}
use Rattle.wdt_receiver_fsm.specs.Batched.{IsBatched, is_filled}
use Rattle.wdt_receiver_fsm.specs.PlainReceiver.{PlainReceiver, lane_at, past_at, state_at}
use Rattle.wdt_receiver_fsm.specs.Receiver.{IsReceiver}
use Rattle.wdt_receiver_fsm.specs.Turn.{next_place}
use Rattle.wdt_dock.specs.declared.flushing.FlushFail.{FlushFail}
use Rattle.wdt_dock.specs.declared.flushing.FlushFail.TheVariants as flushing
use Rattle.wdt_dock.specs.declared.opening.DockFail.{DockFail}
use Rattle.wdt_dock.specs.declared.opening.DockFail.TheVariants as opening
use Rattle.wdt_dock.specs.Desk.{IsAtRest, IsDesk, plain_of}
use Rattle.wdt_dock.specs.DockView.{DockView, HasLostDisk}
use Rattle.wdt_receiver_fsm.specs.End.{EndView}

-- ---- what hangs together

-- The lanes, the log and the writer are of one end, which is a receiver's; the log is at rest, unless the disk
-- failed; what landed adds up, and unless the disk failed there is room for it in a batch; and the answer
-- follows from the lanes.
pub record IsDock (e : EndView) (l : OpenLog) (w : PlainWriter) (s : State) : Type 0 where
  pub desk : IsDesk e l w
  pub rest : IsAtRest e l s
  pub receiver : IsReceiver (plain_of e l w)
  pub batched : IsBatched (plain_of e l w)
  pub few : (HasLostDisk e.answer → ⊥) → length (filter is_filled w.unlogged) ≤ MAX_BLOCKS
  pub answered : IsAnswered (plain_of e l w)

-- the log that the end goes by is at rest on the disk
abbrev pub LogRests : PlainReceiver → State → Type 0
LogRests r s = IfTold (λ t. LogOf written_version r.log.files r.log.end t.now) s.told

-- ---- the opening

-- the stamp of a file that a log names is one of 64 bits
abbrev pub IsStamped : NamedFile → Type 0
IsStamped f = f.have.stamp ≤ 18446744073709551615

-- all of them are
abbrev pub AreStamped : List NamedFile → Type 0
AreStamped fs = Each IsStamped fs

-- the depot behind an opening, which hands it back where it failed
abbrev pub depot_behind : {D : Type 0} → Result (DockView D) (DockFail × D) → D
depot_behind (Ok dock) = dock.depot
depot_behind (Err (fail, depot)) = depot

-- the opening failed for this
abbrev pub FailedBy : {D : Type 0} → DockFail → Result (DockView D) (DockFail × D) → Type 0
FailedBy fail result = IfErr result (λ back. back.0 ≡ fail) × (is_ok result ≡ false)

-- what a log that didn't open is to the dock; an opening never finds it shut
abbrev pub of_log : LogFail → DockFail
of_log log.Disk = opening.Disk
of_log (log.BadLog at) = opening.BadLog at
of_log log.Shut = opening.Disk
of_log log.NoMemory = opening.NoMemory

-- A log has no meaning only where that is so of what is read, with the place.
abbrev pub IsRefusal : Option Told → DockFail → Type 0
IsRefusal told (opening.BadLog at) = IfTold (λ t. log_of (seen_of t.now) ≡ Err at) told
IsRefusal told fail = Unit {0}

-- the opening's calls ran to their end, also where the log that is there has no meaning
abbrev pub ran_well : {D : Type 0} → Result (DockView D) (DockFail × D) → Bool
ran_well (Ok dock) = true
ran_well (Err (opening.BadLog at, depot)) = true
ran_well (Err (fail, depot)) = false

-- an opening ran its program, unless it was refused for memory or an own fault came
abbrev pub RanOpen : {D : Type 0} → Result (DockView D) (DockFail × D) → State → State → Type 0
RanOpen result old new = (FailedBy opening.NoMemory result → ⊥) → IsQuiet old new → Calls run_open (ran_well result) (drive_of old) (drive_of new)

-- ---- the flush

-- a flush ran its calls, unless the disk had failed, it was refused for memory or an own fault came
abbrev pub RanFlush : {T : Type 0} → (Drive → Bool × Drive) → Result T FlushFail → State → State → Type 0
RanFlush f result old new = (IsErrOf result flushing.Shut → ⊥) → (IsErrOf result flushing.NoMemory → ⊥) → IsQuiet old new → Calls f (is_ok result) (drive_of old) (drive_of new)

-- ---- what a lane takes

-- what is to come of a block next: the path of its file, its next place there, and how many bytes
abbrev pub wanted_of : PlainReceiver → Option Block → ℕ → Option (List ℕ × ℕ × ℕ)
wanted_of r None left = None
wanted_of r (Some b) left = Some (path_at r.known b.file, next_place b left, min left PIECE)

-- what a lane in this state takes
abbrev pub wanted_in : PlainReceiver → ℕ → RecvState → Option (List ℕ × ℕ × ℕ)
wanted_in r l states.TakeBlock = wanted_of r (past_at r l).begun (lane_at r l).left
wanted_in r l state = None

-- what a lane takes: bytes of the block that is begun on it, where it takes any
abbrev pub wanted : PlainReceiver → ℕ → Option (List ℕ × ℕ × ℕ)
wanted r l = wanted_in r l (state_at r l)
