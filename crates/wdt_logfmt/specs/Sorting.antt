-- Files in the order of their paths.
use Rattle.std.specs.Prelude.{ℕ, List}
use Rattle.std.specs.List.Sorted.{IsSortedByKey}
use Rattle.std.specs.Cmp.Lexicographic.{slice_cmp}
use Rattle.std.specs.Ordering.{nat_cmp}
use Rattle.wdt_ranges.specs.declared.have.FileHave.{FileHave}

-- the path of a file
abbrev pub path_of : FileHave → List ℕ
path_of f = f.path

-- no path comes before an earlier one
abbrev pub IsSortedByPath : List FileHave → Type 0
IsSortedByPath = IsSortedByKey path_of (slice_cmp nat_cmp)
