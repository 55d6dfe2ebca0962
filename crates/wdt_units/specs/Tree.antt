-- A tree of whole files: one list, rising by the bytes of the paths. A file's number is its place.
use Rattle.std.specs.Prelude.{◌≡◌, ℕ, ◌+◌, ◌≤◌, Bool, List, length, take, drop, sum_by, ◌&&◌, not, nat_le, Option, Some, find}
use Rattle.std.specs.List.{list_all}
use Rattle.std.specs.Ordering.{is_lt, nat_cmp}
use Rattle.std.specs.Cmp.Lexicographic.{slice_cmp}
use Rattle.std.specs.Str.{bytes_eq}
use Rattle.wdt_units.specs.declared.limits.TheConstants.{MAX_FILES, MAX_FILE_SIZE, MAX_TOTAL}
use Rattle.wdt_units.specs.Path.{is_lawful, is_reserved}
use Rattle.wdt_units.specs.Rising.{is_rising_by}

-- a file of a tree
pub record File : Type 0 where
  pub path : List ℕ
  pub stamp : ℕ
  pub bytes : List ℕ

-- how many bytes it has
abbrev pub length_of : File → ℕ
length_of file = length file.bytes

-- a lawful path that isn't one of the receiver's own, and no more bytes than a file may have
abbrev pub is_file : File → Bool
is_file file = is_lawful file.path && not (is_reserved file.path) && nat_le (length_of file) MAX_FILE_SIZE

-- a path comes before another by its bytes
abbrev pub is_before : List ℕ → List ℕ → Bool
is_before a b = is_lt (slice_cmp nat_cmp a b)

-- a file comes before another, by its path
abbrev pub is_below : File → File → Bool
is_below a b = is_before a.path b.path

-- each path comes before all later ones
abbrev pub is_rising : List File → Bool
is_rising files = is_rising_by is_below files

-- no more lawful files, and no more bytes together, than a tree may have, in the order of their paths
unfoldable pub is_tree : List File → Bool
is_tree files = nat_le (length files) MAX_FILES && list_all is_file files && nat_le (sum_by length_of files) MAX_TOTAL
    && is_rising files

-- the file of a path
unfoldable pub file_of : List File → List ℕ → Option File
file_of files path = find (λ file. bytes_eq file.path path) files

-- the bytes are those of the file of that path from an offset on
pub record IsRead (files : List File) (path : List ℕ) (offset : ℕ) (bytes : List ℕ) : Type 0 where
  pub file : File
  pub found : file_of files path ≡ Some file
  pub within : offset + length bytes ≤ length file.bytes
  pub same : bytes ≡ take (length bytes) (drop offset file.bytes)
