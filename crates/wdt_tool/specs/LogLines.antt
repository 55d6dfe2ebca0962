-- The lines of a log.
use Rattle.std.specs.Prelude.{ℕ, List, ◌++◌, codes, Option, Some, None}
use Rattle.std.specs.List.{flat_map}
use Rattle.std.specs.Fmt.{decimal}
use Rattle.wdt_units.specs.Have.{HaveFile, PlainSpan}
use Rattle.wdt_logfmt.specs.View.{Meaning, NamedFile}
use Rattle.wdt_tool.specs.Lines.{printed}

-- a covered span: where it begins, and how many bytes it has
abbrev pub range_line : PlainSpan → List ℕ
range_line s = codes "range " ++ decimal s.offset ++ codes " " ++ decimal s.count ++ codes "\n"

-- a file: its number, size, stamp and path
abbrev pub file_line : ℕ → HaveFile → List ℕ
file_line number f =
    codes "file " ++ decimal number ++ codes " " ++ decimal f.size ++ codes " " ++ decimal f.stamp ++ codes " " ++ printed f.path ++ codes "\n"

-- a file, and each covered span of it
abbrev pub file_lines : NamedFile → List ℕ
file_lines f = file_line f.number f.have ++ flat_map range_line f.have.spans

-- the files of a log, and where it ends; or that there is none
abbrev pub log_text : Option Meaning → List ℕ
log_text None = codes "no log\n"
log_text (Some m) = flat_map file_lines m.files ++ codes "end " ++ decimal m.end ++ codes "\n"
