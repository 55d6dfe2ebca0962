-- A tree that has arrived at a destination.
use Rattle.std.specs.Prelude.{◌≡◌, ℕ, List, length, sum_by, Some}
use Rattle.wdt_units.specs.Tree.{File, file_of, length_of}
use Rattle.wdt_depot.specs.Disk.{Disk, Image, IsImage, seen_of}

-- how many files a tree has, and how many bytes
abbrev pub totals_of : List File → ℕ × ℕ
totals_of T = (length T, sum_by length_of T)

-- at the path of each file of the tree its bytes stand
abbrev pub HasTree : List File → Image → Type 0
HasTree T i = (path : List ℕ) (file : File) → file_of T path ≡ Some file → i path ≡ Some file.bytes

-- they do as it is read, and in whatever a crash leaves
pub record HasArrived (T : List File) (d : Disk) : Type 0 where
  pub reads : HasTree T (seen_of d)
  pub images : (i : Image) → IsImage d i → HasTree T i
