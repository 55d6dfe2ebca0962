-- Which files of a have are those of a tree.
use Rattle.std.specs.Prelude.{ℕ, Bool, false, ◌==◌, ◌&&◌, not, List, Option, Some, None, find}
use Rattle.std.specs.Option.{option_map}
use Rattle.wdt_units.specs.Have.{HaveFile}
use Rattle.wdt_tree.specs.declared.entry.Entry.{Entry}
use Rattle.wdt_tree.specs.Listing.{has_path}

-- the size and the stamp of a file of the tree
abbrev pub size_and_stamp : Entry → ℕ × ℕ
size_and_stamp entry = (entry.size, entry.stamp)

-- those of the tree's file of a path, where it has one
abbrev pub found_in : List Entry → List ℕ → Option (ℕ × ℕ)
found_in entries path = option_map size_and_stamp (find (has_path path) entries)

-- a file of a have has the size and the stamp that were found
abbrev pub has_found : Option (ℕ × ℕ) → HaveFile → Bool
has_found None file = false
has_found (Some found) file = found.0 == file.size && found.1 == file.stamp

-- a file of a have is one of the tree
abbrev pub fits : List Entry → HaveFile → Bool
fits entries file = has_found (found_in entries file.path) file

-- the first file of a have that isn't one of the tree, which is the one of the least path where the
-- paths rise
abbrev pub first_unfit : List Entry → List HaveFile → Option HaveFile
first_unfit entries have = find (λ file. not (fits entries file)) have
