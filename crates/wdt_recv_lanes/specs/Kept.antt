-- What a receiver's end keeps of its run, and of its depot as it was handed in.
use Rattle.std.specs.Prelude.{◌≡◌, ◌≤◌, ℕ, false, List, [], length, sum_by, Option, None, option_map, IfSome}
use Rattle.std.specs.Str.{bytes_eq}
use Rattle.wdt_units.specs.Counts.{Rises}
use Rattle.wdt_units.specs.Tree.{File, file_of, length_of}
use Rattle.wdt_tree.specs.Told.{ToldRun}
use Rattle.wdt_depot.specs.Disk.{Image, seen_of}
use Rattle.wdt_depot.specs.Moments.{IfTold, Told}
use Rattle.wdt_depot.specs.State.{State}
use Rattle.wdt_good.specs.Good.{log_path, new_log_path}
use Rattle.wdt_good.specs.Logged.{GoodSince}
use Rattle.wdt_receiver_fsm.specs.PlainReceiver.{PlainReceiver, have_now}
use Rattle.wdt_receiver_fsm.specs.ReceiverHistory.{end_of}
use Rattle.wdt_receiver_fsm.specs.Writes.{CanTell}
use Rattle.wdt_dock.specs.DockGood.{IsGoodFor}
use Rattle.wdt_dock.specs.DockView.{HasLostDisk}

-- a depot as it was handed in: its counts of faults and of slips, and its disk with the moments so far, where told
pub record Started : Type 0 where
  pub faults : ℕ
  pub slips : ℕ
  pub told : Option Told

-- a depot in this state, as it is handed in
abbrev pub started_of : State → Started
started_of s = record { faults = s.faults; slips = s.slips; told = s.told }

-- what was read of each file as it was handed in, where that is told
abbrev pub files_of : Started → Option Image
files_of start = option_map (λ t. seen_of t.now) start.told

-- what the destination had is the run's have, where that is told
abbrev pub HadOf : Option ToldRun → PlainReceiver → Type 0
HadOf run r = IfSome run (λ told. have_now r.opening r.history ≡ told.have)

-- the totals that were read are those of the run's tree, where that is told
abbrev pub HasTotals : Option ToldRun → PlainReceiver → Type 0
HasTotals run r = IfSome run (λ told. IfSome (end_of r.history).sized (λ totals. totals ≡ (length told.tree, sum_by length_of told.tree)))

-- every image of the disk is good for the run's tree, and what is covered is the tree's, where both are told
abbrev pub GoodFor : Option ToldRun → PlainReceiver → State → Type 0
GoodFor run r s = IfSome run (λ told. IsGoodFor told.tree r s)

-- At each moment since the disk was as it is told first, inside each write too, every image is good for the run's
-- tree and for what was logged then, where the run is told.
abbrev pub ImagesGood : Option ToldRun → Option Told → State → Type 0
ImagesGood run before s = IfSome run (λ told. GoodSince told.tree [] before s.told)

-- as many slips were counted, where the run and the disk are told
abbrev pub NoSlips : Option ToldRun → ℕ → State → Type 0
NoSlips run slips s = IfSome run (λ told. IfTold (λ t. s.slips ≡ slips) s.told)

-- the path is that of no file of the tree, nor the log's or a new log's
pub record IsBeside (T : List File) (path : List ℕ) : Type 0 where
  pub unlisted : file_of T path ≡ None
  pub log : bytes_eq log_path path ≡ false
  pub new_log : bytes_eq new_log_path path ≡ false

-- each file at such a path reads so, where the run, the disk and this are told
abbrev pub OthersRead : Option ToldRun → Option Image → State → Type 0
OthersRead run files s = IfSome run (λ told. IfSome files (λ before. IfTold (λ t. (path : List ℕ) → IsBeside told.tree path → seen_of t.now path ≡ before path) s.told))

-- An end that is of its run, over a depot that was handed in so: what the destination had can be told and is
-- the run's, the totals are the tree's, and the disk is good. Since then every image of each moment is good, no slip
-- came and no fault was taken back, the disk is lost only where a fault was counted, and files that aren't the tree's
-- read as they did.
pub record IsKept (run : Option ToldRun) (start : Started) (r : PlainReceiver) (s : State) : Type 0 where
  pub tells : CanTell r
  pub had : HadOf run r
  pub sized : HasTotals run r
  pub good : GoodFor run r s
  pub images : ImagesGood run start.told s
  pub slips : NoSlips run start.slips s
  pub others : OthersRead run (files_of start) s
  pub later : start.faults ≤ s.faults
  pub lost : HasLostDisk r.answer → Rises start.faults s.faults
