-- Where a file stands among files in any order.
use Rattle.std.specs.Prelude.{◌≡◌, ℕ, ◌+◌, ◌≤◌, Bool, true, false, List, length, take, drop, slice_get, Option, Some, None}
use Rattle.std.specs.List.{list_any}
use Rattle.std.specs.Str.{bytes_eq}
use Rattle.wdt_units.specs.Tree.{File}

-- a file has a path
abbrev pub has_path : List ℕ → File → Bool
has_path path file = bytes_eq file.path path

-- there is a file, and it has a path
abbrev pub is_of_path : List ℕ → Option File → Bool
is_of_path path None = false
is_of_path path (Some file) = has_path path file

-- the file at a place, where there is one
abbrev pub file_at : List File → Option ℕ → Option File
file_at files None = None
file_at files (Some place) = slice_get files place

-- the place of a file of a path, or none where no file has the path
abbrev pub IsPlace : List File → List ℕ → Option ℕ → Type 0
IsPlace files path None = list_any (has_path path) files ≡ false
IsPlace files path (Some place) = is_of_path path (slice_get files place) ≡ true

-- the bytes are those of a file from an offset on
pub record IsPart (found : Option File) (offset : ℕ) (bytes : List ℕ) : Type 0 where
  pub file : File
  pub is : found ≡ Some file
  pub within : offset + length bytes ≤ length file.bytes
  pub same : bytes ≡ take (length bytes) (drop offset file.bytes)
