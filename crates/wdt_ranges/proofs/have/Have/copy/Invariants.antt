use Rattle.std.proofs.Common.{◌≡◌, take, map}
use Rattle.wdt_ranges.specs.Files.{have_file}
use Rattle.wdt_ranges.proofs.have.Have.copy.Given as goal

abbrev pub invariant-loop-file : goal.invariant-loop-file
invariant-loop-file l = map have_file l.files.items ≡ map have_file (take l.file-index l.file-items)
