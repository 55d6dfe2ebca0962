-- What is to be logged of blocks that landed, and the flush.
use Rattle.std.specs.Prelude.{ℕ, ◌+◌, Bool, true, List, [], ◌∷◌, length, map}
use Rattle.wdt_units.specs.declared.blocks.Block.{Block}
use Rattle.wdt_depot.specs.Programs.{Drive}
use Rattle.wdt_logfmt.specs.declared.entry.LogEntry.{LogEntry}
use Rattle.wdt_logfmt.specs.Batches.{entries_of, files_behind, numbers_of, path_at}
use Rattle.wdt_logfmt.specs.Spelling.{closed_batch}
use Rattle.wdt_logfmt.specs.View.{Meaning}
use Rattle.wdt_good.specs.Calls.{run_flush}
use Rattle.wdt_receiver_fsm.specs.Plan.{Plan, calls}
use Rattle.wdt_receiver_fsm.specs.PlainReceiver.{PlainReceiver}

-- ---- the flush

-- what landed and isn't logged, as entries; and the files that it is of
abbrev pub pending : PlainReceiver → List LogEntry
pending r = entries_of r.known r.log.files r.unlogged

-- the paths of the files of what landed and is not logged, by rising number
abbrev pub dirty_paths : PlainReceiver → List (List ℕ)
dirty_paths r = map (path_at r.known) (numbers_of r.unlogged)

-- what the log says once all that landed is logged
abbrev pub log_after : PlainReceiver → Meaning
log_after r =
    record {
      files = files_behind r.log.files (pending r);
      end = r.log.end + length (closed_batch (pending r));
    }

-- all that landed is logged
abbrev pub flushed : PlainReceiver → PlainReceiver
flushed r = record r { log = log_after r; unlogged = [] }

-- A flush: the files of what landed are synced by rising number, and one batch is appended to the log.
-- Where nothing is to be logged it makes no call and changes nothing. Where a call fails, this stands.
abbrev pub flush_by : {S : Type 0} → PlainReceiver → List Block → S → (PlainReceiver → Plan S) → Plan S
flush_by r [] broken next = next r
flush_by r (b ∷ bs) broken next = calls (run_flush (dirty_paths r) r.log.end (closed_batch (pending r))) broken (next (flushed r))

-- a flush of what landed and is not logged
abbrev pub flush_plan : {S : Type 0} → PlainReceiver → S → (PlainReceiver → Plan S) → Plan S
flush_plan r broken next = flush_by r r.unlogged broken next

-- the calls of a flush, and what stands behind them
abbrev pub flush_calls_by : PlainReceiver → List Block → Drive → Bool × Drive
flush_calls_by r [] = λ p. (true, p)
flush_calls_by r (b ∷ bs) = run_flush (dirty_paths r) r.log.end (closed_batch (pending r))

-- the calls of a flush of what landed
abbrev pub flush_calls : PlainReceiver → Drive → Bool × Drive
flush_calls r = flush_calls_by r r.unlogged

-- what stands behind a flush of these blocks
abbrev pub all_logged_by : PlainReceiver → List Block → PlainReceiver
all_logged_by r [] = r
all_logged_by r (b ∷ bs) = flushed r

-- nothing is left to be logged
abbrev pub all_logged : PlainReceiver → PlainReceiver
all_logged r = all_logged_by r r.unlogged
