-- What a writer's calls do on the disk.
use Rattle.std.specs.Prelude.{◌≡◌, ℕ, Bool, true, false, List, [], Option, Result, IsErrOf}
use Rattle.wdt_units.specs.Tree.{File}
use Rattle.wdt_units.specs.declared.blocks.Header.{Header}
use Rattle.wdt_depot.specs.Disk.{Disk}
use Rattle.wdt_depot.specs.Moments.{IfTold, MayDo, OneStep}
use Rattle.wdt_depot.specs.Programs.{Drive}
use Rattle.wdt_depot.specs.State.{Counts, State}
use Rattle.wdt_logfmt.specs.Batches.{path_at}
use Rattle.wdt_logfmt.specs.Beginning.{KnownFile, is_new}
use Rattle.wdt_logfmt.specs.View.{NamedFile, names}
use Rattle.wdt_good.specs.Changing.{MayWrite}
use Rattle.wdt_good.specs.LogState.{LogOf}
use Rattle.wdt_good.specs.Logged.{AllFit, GoodSince}
use Rattle.wdt_writer.specs.declared.fail.WriteFail.{WriteFail}
use Rattle.wdt_writer.specs.declared.fail.WriteFail.TheVariants.{Disk as DiskFail}
use Rattle.wdt_writer.specs.Answers.{RanWrite}
use Rattle.wdt_writer.specs.PlainWriter.{PlainWriter, begun_at, place_of}

-- ---- a call that changes the disk at most once

-- A call may change the disk by this, and runs this program. Where the files that the log says and the disk allow
-- it, each image is good at each moment for the tree and for what was logged; and the log stays. The call's failure
-- is one of the disk's exactly where the depot counted it.
pub record UsesDisk {R : Type 0} (allowed : List NamedFile → Disk → Type 0) (done : Disk → Disk) (program : Drive → Bool × Drive) (result : Result R WriteFail) (old new : State) : Type 0 where
  pub images : (version : ℕ) (T : List File) (fs : List NamedFile) (end : ℕ) → IfTold (λ t. LogOf version fs end t.now) old.told → IfTold (λ t. AllFit T t.now) old.told → IfTold (λ t. allowed fs t.now) old.told
      → GoodSince T [] old.told new.told
  pub log : (version : ℕ) (fs : List NamedFile) (end : ℕ) → IfTold (λ t. LogOf version fs end t.now) old.told → IfTold (λ t. LogOf version fs end t.now) new.told
  pub step : OneStep (MayDo done result) old.told new.told
  pub exact : RanWrite program result old new
  pub spots : new.spots ≡ []
  pub counts : Counts (IsErrOf result DiskFail) old new

-- ---- a piece

-- the path of the file of a lane's begun block
abbrev pub path_begun : PlainWriter → ℕ → List ℕ
path_begun w lane = path_at w.known (begun_at w lane).block.file

-- where the next byte of a lane's begun block goes
abbrev pub place_begun : PlainWriter → ℕ → ℕ
place_begun w lane = place_of (begun_at w lane)

-- where the log covers nothing of a range, and neither the range nor the file ends behind the file's size
abbrev pub CanWrite : List ℕ → ℕ → ℕ → List NamedFile → Disk → Type 0
CanWrite path place count fs d = (size : ℕ) × MayWrite path size place count fs d

-- ---- a begin

-- where the log doesn't name the header's file, or it is known already
abbrev pub CanMake : List (Option KnownFile) → Header → List NamedFile → Disk → Type 0
CanMake known h fs d = is_new known h ≡ true → names fs h.path ≡ false
