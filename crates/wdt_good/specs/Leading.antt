-- A log that leads from files to others, while all other files stay as they are.
use Rattle.std.specs.Prelude.{◌≡◌, ◌⊎◌, ℕ, false, List, Some, Ok, IsTrue}
use Rattle.std.specs.Str.{bytes_eq}
use Rattle.wdt_units.specs.Tree.{File}
use Rattle.wdt_depot.specs.Disk.{Disk, DiskFile, Image, IsImage}
use Rattle.wdt_logfmt.specs.View.{Meaning, NamedFile, is_view, names}
use Rattle.wdt_logfmt.specs.Meaning.{log_meaning}
use Rattle.wdt_good.specs.Good.{GoodFiles, covers, log_path, new_log_path}
use Rattle.wdt_good.specs.Logged.{AllFit, IsRemembered}

-- Each image of the disk is good for the tree. Where the first files are good in an image, so are the
-- second. The second name and cover no less, but for what may be forgotten.
pub record Leads (T : List File) (forgotten : List (List ℕ)) (fs gs : List NamedFile) (d : Disk) : Type 0 where
  pub fit : AllFit T d
  pub view : IsTrue (is_view gs)
  pub good : (i : Image) → IsImage d i → GoodFiles T i fs → GoodFiles T i gs
  pub named : (path : List ℕ) → IsRemembered forgotten path → IsTrue (names fs path) → IsTrue (names gs path)
  pub covered : (path : List ℕ) (k : ℕ) → IsRemembered forgotten path → IsTrue (covers fs path k) → IsTrue (covers gs path k)

-- the bytes of a log mean the first files, or the second
abbrev pub MeansEither : List NamedFile → List NamedFile → List ℕ → Type 0
MeansEither fs gs bytes = (m : Meaning) × (log_meaning bytes ≡ Ok m) × ((m.files ≡ fs) ⊎ (m.files ≡ gs))

-- A disk is another but for its log and a new one; its log is this file.
pub record HasLog (d : Disk) (log : DiskFile) (e : Disk) : Type 0 where
  pub others : (path : List ℕ) → bytes_eq log_path path ≡ false → bytes_eq new_log_path path ≡ false → e path ≡ d path
  pub file : e log_path ≡ Some log
