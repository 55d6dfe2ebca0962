use Rattle.std.proofs.Common.{◌≡◌, ◌+◌, drop, sum_by}
use Rattle.wdt_logfmt.specs.View.{bytes_in, named_files}
use Rattle.wdt_files.proofs.opening.bytes_of.Given as goal

abbrev pub invariant-loop-file : goal.invariant-loop-file
invariant-loop-file l = l.bytes + sum_by bytes_in (named_files (drop l.file-index l.files)) ≡ sum_by bytes_in (named_files l.files)
