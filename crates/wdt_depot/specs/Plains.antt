-- A disk that holds whole files.
use Rattle.std.specs.Prelude.{List, [], ◌∷◌, Some, None}
use Rattle.wdt_units.specs.Tree.{File}
use Rattle.wdt_depot.specs.Disk.{Disk, clean, with_file}

-- the disk with a file at its path, all of it on the disk
abbrev pub with_plain : File → Disk → Disk
with_plain file d = with_file file.path (Some (clean file.bytes)) d

-- no file at any path
abbrev pub empty_disk : Disk
empty_disk path = None

-- the files; the first of a path stands
abbrev pub plain_disk : List File → Disk
plain_disk [] = empty_disk
plain_disk (file ∷ files) = with_plain file (plain_disk files)
