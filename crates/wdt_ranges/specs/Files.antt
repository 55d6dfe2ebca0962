-- Named files as plain data.
use Rattle.std.specs.Prelude.{Bool, true, ◌&&◌, List, [], ◌∷◌}
use Rattle.std.specs.List.{list_all}
use Rattle.wdt_units.specs.Have.{HaveFile}
use Rattle.wdt_units.specs.Tree.{is_before}
use Rattle.wdt_ranges.specs.declared.have.FileHave.{FileHave}

-- a named file of the code as plain data
abbrev pub have_file : FileHave → HaveFile
have_file f = record { path = f.path; size = f.size; stamp = f.stamp; spans = f.spans }

-- a file's path comes before another's
abbrev pub is_before_file : HaveFile → HaveFile → Bool
is_before_file a b = is_before a.path b.path

-- the paths rise
abbrev pub is_in_order : List HaveFile → Bool
is_in_order [] = true
is_in_order (file ∷ files) = list_all (is_before_file file) files && is_in_order files
