-- When a log, and an image of a disk with its log, are good for a tree.
use Rattle.std.specs.Prelude.{◌≡◌, ℕ, ◌<◌, ◌≤◌, Bool, List, [], ◌∷◌, length, map, slice_index, codes, Option, Some, None, Result, Ok, IsTrue}
use Rattle.wdt_units.specs.Have.{PlainSpan, is_covered}
use Rattle.wdt_units.specs.Tree.{File, file_of}
use Rattle.wdt_ranges.specs.Spans.{has}
use Rattle.wdt_depot.specs.Disk.{Image}
use Rattle.wdt_logfmt.specs.View.{Meaning, NamedFile, have_of_file, names}
use Rattle.wdt_logfmt.specs.Meaning.{log_meaning}

-- each item has P, item by item
abbrev pub Each : {A : Type 0} → (A → Type 0) → List A → Type 0
Each P [] = Unit {0}
Each P (x ∷ xs) = P x × Each P xs

-- ---- the log of an image

-- where the log is
abbrev pub log_path : List ℕ
log_path = codes ".wlog"

-- where a new log is written, before it is put in place
abbrev pub new_log_path : List ℕ
new_log_path = codes ".wlog.new"

-- where no log is, no file is named
abbrev pub meaning_in : Option (List ℕ) → Result Meaning ℕ
meaning_in None = Ok (record { files = []; end = 0 })
meaning_in (Some bytes) = log_meaning bytes

-- what the log of an image means
abbrev pub log_of : Image → Result Meaning ℕ
log_of i = meaning_in (i log_path)

-- a position of the file of that path is covered
abbrev pub covers : List NamedFile → List ℕ → ℕ → Bool
covers fs path k = is_covered (map have_of_file fs) path k

-- ---- a named file, against the tree and what stands at its path

-- the tree has it with this size and stamp
pub record FitsTree (T : List File) (f : NamedFile) : Type 0 where
  pub file : File
  pub there : file_of T f.have.path ≡ Some file
  pub size : length file.bytes ≡ f.have.size
  pub stamp : file.stamp ≡ f.have.stamp

-- it stands, no longer than its size
abbrev pub Stands : Option (List ℕ) → NamedFile → Type 0
Stands None f = ⊥
Stands (Some found) f = length found ≤ f.have.size

-- at each position of the spans what was found has the same byte
abbrev pub HasBytes : Option (List ℕ) → List ℕ → List PlainSpan → Type 0
HasBytes None bytes spans = ⊥
HasBytes (Some found) bytes spans = (k : ℕ) → IsTrue (has spans k) → (k < length found) × (slice_index found k ≡ slice_index bytes k)

-- where the tree has it with this size and stamp, these positions hold the tree's bytes
abbrev pub HasTreeBytes : List File → Option (List ℕ) → NamedFile → List PlainSpan → Type 0
HasTreeBytes T found f spans = (t : File) → file_of T f.have.path ≡ Some t → length t.bytes ≡ f.have.size → t.stamp ≡ f.have.stamp → HasBytes found t.bytes spans

-- the tree has it, it stands, and what is covered of it is the tree's
pub record GoodFile (T : List File) (found : Option (List ℕ)) (f : NamedFile) : Type 0 where
  pub fits : FitsTree T f
  pub stands : Stands found f
  pub same : HasTreeBytes T found f f.have.spans

-- the same of each of these files
abbrev pub GoodFiles : List File → Image → List NamedFile → Type 0
GoodFiles T i fs = Each (λ f. GoodFile T (i f.have.path) f) fs

-- ---- a good image

-- The image's log has a meaning, whose files are good, and which names and covers all that is asked.
pub record IsGood (T : List File) (asks : List ℕ → Type 0) (asks_at : List ℕ → ℕ → Type 0) (i : Image) : Type 0 where
  pub meaning : Meaning
  pub means : log_of i ≡ Ok meaning
  pub files : GoodFiles T i meaning.files
  pub named : (path : List ℕ) → asks path → IsTrue (names meaning.files path)
  pub covered : (path : List ℕ) (k : ℕ) → asks_at path k → IsTrue (covers meaning.files path k)
