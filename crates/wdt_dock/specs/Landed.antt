-- Which of the blocks that landed are logged.
use Rattle.std.specs.Prelude.{◌≡◌, ℕ, ◌<◌, List, ◌++◌, Option, IsTrue}
use Rattle.wdt_units.specs.declared.blocks.Block.{Block}
use Rattle.wdt_units.specs.Have.{is_in}
use Rattle.wdt_depot.specs.Disk.{Disk}
use Rattle.wdt_logfmt.specs.Beginning.{KnownFile, span_of}
use Rattle.wdt_good.specs.Good.{Each}
use Rattle.wdt_good.specs.Logged.{LoggedAt, LoggedName}
use Rattle.wdt_logfmt.specs.Batches.{path_at}
use Rattle.wdt_receiver_fsm.specs.PlainReceiver.{PlainReceiver, bytes_of}
use Rattle.wdt_receiver_fsm.specs.ReceiverHistory.{landed_of}

-- the logs of all images name the block's file, and cover each position of the block
pub record IsLogged (known : List (Option KnownFile)) (d : Disk) (b : Block) : Type 0 where
  pub named : LoggedName d (path_at known b.file)
  pub covered : (k : ℕ) → IsTrue (is_in k (span_of b)) → LoggedAt d (path_at known b.file) k

-- All blocks that landed are logged, but for the last ones, which have fewer bytes together than are logged at
-- once.
pub record AllLogged (r : PlainReceiver) (d : Disk) : Type 0 where
  pub older : List Block
  pub newer : List Block
  pub landed : landed_of r.history ≡ older ++ newer
  pub logged : Each (IsLogged r.known d) older
  pub few : bytes_of newer < r.batch

-- all blocks that landed are logged
abbrev pub EachLogged : PlainReceiver → Disk → Type 0
EachLogged r d = Each (IsLogged r.known d) (landed_of r.history)
