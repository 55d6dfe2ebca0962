-- Changes beside the log: which of them leave good files good, and what was logged logged.
use Rattle.std.specs.Prelude.{◌≡◌, ℕ, ◌+◌, ◌≤◌, false, List, length, IsTrue}
use Rattle.std.specs.Str.{bytes_eq}
use Rattle.wdt_units.specs.Tree.{File}
use Rattle.wdt_ranges.specs.Spans.{has}
use Rattle.wdt_depot.specs.Disk.{Disk, IfFile, Image, IsImage, IsOutside}
use Rattle.wdt_depot.specs.Rewritten.{range_at}
use Rattle.wdt_logfmt.specs.View.{NamedFile}
use Rattle.wdt_good.specs.Good.{Each, GoodFiles, log_path}

-- no covered position of the file is in the range
abbrev pub IsClear : ℕ → ℕ → NamedFile → Type 0
IsClear offset count f = (k : ℕ) → IsTrue (has f.have.spans k) → IsOutside k (range_at offset count)

-- each of these files that is at the path has this size, and no covered position in the range
abbrev pub IsClearAt : List ℕ → ℕ → ℕ → ℕ → List NamedFile → Type 0
IsClearAt path size offset count fs = Each (λ f. f.have.path ≡ path → (f.have.size ≡ size) × IsClear offset count f) fs

-- A range of a file that isn't the log may be written: no position that these files cover is in it, and
-- neither the range nor the file that stands ends behind the size.
pub record MayWrite (path : List ℕ) (size offset count : ℕ) (fs : List NamedFile) (d : Disk) : Type 0 where
  pub other : bytes_eq path log_path ≡ false
  pub clear : IsClearAt path size offset count fs
  pub stands : IfFile (λ f. length f.seen ≤ size) (d path)
  pub ends : offset + count ≤ size

-- Each image of the second disk has an image of the first beside it, from which it takes that the files
-- are good. The log is the same.
pub record Moves (T : List File) (fs : List NamedFile) (d e : Disk) : Type 0 where
  pub log : e log_path ≡ d log_path
  pub back : (i : Image) → IsImage e i → (j : Image) × IsImage d j × (GoodFiles T j fs → GoodFiles T i fs)
