-- The log at rest, and a disk that is ready for a batch.
use Rattle.std.specs.Prelude.{◌≡◌, ℕ, List, ◌∷◌, ◌++◌, length, Some, Ok, IsTrue}
use Rattle.wdt_units.specs.Tree.{File}
use Rattle.wdt_depot.specs.Disk.{Disk, Image, IsImage, clean}
use Rattle.wdt_logfmt.specs.declared.entry.LogEntry.{LogEntry}
use Rattle.wdt_logfmt.specs.Adding.{all_added}
use Rattle.wdt_logfmt.specs.Reaching.{Reaches}
use Rattle.wdt_logfmt.specs.View.{Meaning, NamedFile, have_of, is_view, names}
use Rattle.wdt_good.specs.Batch.{HoldsBatch}
use Rattle.wdt_good.specs.Good.{covers, log_of, log_path}
use Rattle.wdt_good.specs.Logged.{AllFit}

-- The log is synced, and of this version. A closed gate stands at the end, and what stands before it
-- leads to these files.
pub record LogOf (version : ℕ) (fs : List NamedFile) (end : ℕ) (d : Disk) : Type 0 where
  pub front : List ℕ
  pub gate : ℕ
  pub behind : List ℕ
  pub file : d log_path ≡ Some (clean (front ++ gate ∷ behind))
  pub place : length front ≡ end
  pub closed : gate ≡ 1 → ⊥
  pub reaches : Reaches version front fs
  pub view : IsTrue (is_view fs)

-- The batch continues the files of a log of this version lawfully, each image is good for the tree, and holds what the batch says.
pub record IsReady (version : ℕ) (T : List File) (fs gs : List NamedFile) (es : List LogEntry) (d : Disk) : Type 0 where
  pub fit : AllFit T d
  pub adds : all_added version fs es ≡ Some gs
  pub holds : (i : Image) → IsImage d i → HoldsBatch version T i fs es

-- These files say of a destination what the log of an image says: the same files by their paths, each with its
-- size, its stamp and what is covered of it. The numbers by which entries call them may be others.
pub record SaysAs (i : Image) (fs : List NamedFile) : Type 0 where
  pub meaning : Meaning
  pub means : log_of i ≡ Ok meaning
  pub have : have_of fs ≡ have_of meaning.files
  pub named : (path : List ℕ) → names fs path ≡ names meaning.files path
  pub covered : (path : List ℕ) (k : ℕ) → covers fs path k ≡ covers meaning.files path k
