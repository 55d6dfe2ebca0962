-- A receiver's end with its files: what hangs together of its lanes, its log and its writer of blocks.
use Rattle.std.specs.Prelude.{◌≡◌, ◌≢◌, ℕ, ◌<◌, false, [], length, IsTrue, Option, Some, None}
use Rattle.wdt_units.specs.declared.blocks.Block.{Block}
use Rattle.wdt_depot.specs.State.{State}
use Rattle.wdt_logfmt.specs.Adding.{all_added}
use Rattle.wdt_logfmt.specs.Batches.{entries_of, have_known_files}
use Rattle.wdt_logfmt.specs.Spelling.{written_version}
use Rattle.wdt_log.specs.OpenLog.{OpenLog, RestsIn}
use Rattle.wdt_writer.specs.declared.parts.Part.{Part}
use Rattle.wdt_writer.specs.OnWay.{AreSound}
use Rattle.wdt_writer.specs.PlainWriter.{PlainWriter, part_at}
use Rattle.wdt_receiver_fsm.specs.PlainReceiver.{PlainReceiver}
use Rattle.wdt_receiver_fsm.specs.ReceiverHistory.{past_of}
use Rattle.wdt_dock.specs.DockView.{HasLostDisk}
use Rattle.wdt_receiver_fsm.specs.End.{Books, EndView, lane_in, plain_with}

-- what is kept of the files: those that the writer knows, what the log says, and what landed since
abbrev pub books_of : OpenLog → PlainWriter → Books
books_of log w = record { known = w.known; log = log.meaning; unlogged = w.unlogged }

-- the plain receiver of an end, its log and its writer
abbrev pub plain_of : EndView → OpenLog → PlainWriter → PlainReceiver
plain_of e log w = plain_with e (books_of log w)

-- a block that is begun, with so many bytes to come
abbrev pub part_by : Option Block → ℕ → Option Part
part_by None left = None
part_by (Some b) left = Some (record { block = b; left = left })

-- the block that is begun on a lane, as the history and the lane say it
abbrev pub part_in : EndView → ℕ → Option Part
part_in e l = part_by (past_of e.history l).begun (lane_in e l).left

-- What the writer is to log is what is logged of the blocks that landed since, and leads from what the log
-- says to what the writer says that it will.
pub record AreBooks (log : OpenLog) (w : PlainWriter) : Type 0 where
  pub version : log.version ≡ written_version
  pub sound : AreSound w.known w.files w.parts
  pub known : IsTrue (have_known_files w.known w.unlogged)
  pub pending : w.pending ≡ entries_of w.known log.meaning.files w.unlogged
  pub adds : all_added written_version log.meaning.files w.pending ≡ Some w.files

-- The same, and the writer's lanes are those of the end: on each the same block is begun, with as many bytes
-- to come.
pub record IsDesk (e : EndView) (log : OpenLog) (w : PlainWriter) : Type 0 where
  pub books : AreBooks log w
  pub lanes : length w.parts ≡ length e.lanes
  pub parts : (l : ℕ) → l < length e.lanes → part_at w l ≡ part_in e l

-- The same, but that all bytes of the block that is begun on a lane are written, of which as many are to come
-- by the lane.
pub record IsWritten (e : EndView) (log : OpenLog) (w : PlainWriter) (l count : ℕ) : Type 0 where
  pub books : AreBooks log w
  pub lanes : length w.parts ≡ length e.lanes
  pub others : (k : ℕ) → k < length e.lanes → k ≢ l → part_at w k ≡ part_in e k
  pub here : part_at w l ≡ part_by (past_of e.history l).begun 0
  pub left : (lane_in e l).left ≡ count

-- No file is entered. Unless the disk failed, the log is open, and at rest on the disk.
pub record IsAtRest (e : EndView) (log : OpenLog) (s : State) : Type 0 where
  pub spots : s.spots ≡ []
  pub log_open : (HasLostDisk e.answer → ⊥) → log.shut ≡ false
  pub rests : (HasLostDisk e.answer → ⊥) → RestsIn log s
