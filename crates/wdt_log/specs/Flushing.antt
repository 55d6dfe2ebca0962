-- When what landed may be flushed, and what a flush leaves alone.
use Rattle.std.specs.Prelude.{◌≡◌, ◌⊎◌, ℕ, false, List, [], ◌∷◌, Option, Some, None, IsSome}
use Rattle.std.specs.Str.{bytes_eq}
use Rattle.wdt_units.specs.Tree.{File}
use Rattle.wdt_depot.specs.Disk.{Disk, seen_of}
use Rattle.wdt_depot.specs.Moments.{Told}
use Rattle.wdt_logfmt.specs.declared.entry.LogEntry.{LogEntry}
use Rattle.wdt_logfmt.specs.Adding.{all_added}
use Rattle.wdt_logfmt.specs.View.{NamedFile}
use Rattle.wdt_good.specs.Good.{Each, GoodFiles, log_path, new_log_path}
use Rattle.wdt_good.specs.Growing.{IsAmong}
use Rattle.wdt_good.specs.Logged.{AllFit}
use Rattle.wdt_log.specs.OpenLog.{OpenLog, Rests}

-- the path is one of these
abbrev pub IsPathAmong : List ℕ → List (List ℕ) → Type 0
IsPathAmong path [] = ⊥
IsPathAmong path (p ∷ ps) = (p ≡ path) ⊎ IsPathAmong path ps

-- What landed is the tree's as it is read. The log is at rest and each image good for the tree; the files
-- that the log says once the batch is logged are good as they are read; and each of them is synced by the
-- flush, or is in the log as it is.
pub record HasLanded (T : List File) (log : OpenLog) (paths : List (List ℕ)) (gs : List NamedFile) (es : List LogEntry) (d : Disk) : Type 0 where
  pub fit : AllFit T d
  pub rests : Rests log d
  pub adds : all_added log.version log.meaning.files es ≡ Some gs
  pub reads : GoodFiles T (seen_of d) gs
  pub synced : Each (λ f. IsPathAmong f.have.path paths ⊎ IsAmong f log.meaning.files) gs

-- a file is at each of these paths
abbrev pub AllStand : List (List ℕ) → Disk → Type 0
AllStand paths d = Each (λ path. IsSome (d path)) paths

-- each file is read as before, but for the log and a new one
abbrev pub KeepsReads : Disk → Disk → Type 0
KeepsReads d e = (path : List ℕ) → bytes_eq log_path path ≡ false → bytes_eq new_log_path path ≡ false → seen_of e path ≡ seen_of d path

-- the same of the disk that is told now; whether it is told doesn't change
abbrev pub ReadsStand : Option Told → Option Told → Type 0
ReadsStand None None = Unit {0}
ReadsStand None (Some u) = ⊥
ReadsStand (Some t) None = ⊥
ReadsStand (Some t) (Some u) = KeepsReads t.now u.now
