-- Files other than the log are synced, before a batch on them may count.
use Rattle.std.specs.Prelude.{◌≡◌, ◌⊎◌, ℕ, List, Result, Ok, Err}
use Rattle.wdt_depot.specs.Disk.{Disk, HasImagesOf, Image, IsImage, seen_of}
use Rattle.wdt_logfmt.specs.View.{NamedFile}
use Rattle.wdt_good.specs.Good.{Each, log_path}
use Rattle.wdt_good.specs.Growing.{IsAmong}

-- the log is the same, no image is new, and all is read as before
pub record Keeps (d e : Disk) : Type 0 where
  pub log : e log_path ≡ d log_path
  pub images : HasImagesOf d e
  pub reads : (path : List ℕ) → seen_of e path ≡ seen_of d path

-- a crash leaves of the file what is read
abbrev pub IsStill : Disk → List ℕ → Type 0
IsStill d path = (i : Image) → IsImage d i → i path ≡ seen_of d path

-- what a sync of the file leaves
abbrev pub Syncs : {X E : Type 0} → Result X E → List ℕ → Disk → Disk → Type 0
Syncs (Ok done) path d e = Keeps d e × IsStill e path
Syncs (Err fail) path d e = Keeps d e

-- all is kept, and a crash leaves of these files what is read
pub record Swept (paths : List (List ℕ)) (d e : Disk) : Type 0 where
  pub keeps : Keeps d e
  pub still : Each (IsStill e) paths

-- of each of the later files a crash leaves what is read, or it stands among the earlier ones as it is
abbrev pub AreStill : List NamedFile → List NamedFile → Disk → Type 0
AreStill fs gs d = Each (λ f. IsStill d f.have.path ⊎ IsAmong f fs) gs
