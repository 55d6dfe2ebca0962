use Rattle.std.proofs.Common.{◌≡◌, map, take}
use Rattle.wdt_ranges.specs.Files.{have_file}
use Rattle.wdt_logfmt.specs.View.{have_of_file, named_files}
use Rattle.wdt_logfmt.proofs.view.copies.Given as goal

abbrev pub invariant-loop-file : goal.invariant-loop-file
invariant-loop-file l = map have_file l.copies.items ≡ map have_of_file (named_files (take l.file-index l.files))
