use Rattle.std.proofs.Common.{◌≡◌, ◌+◌, drop, sum_by}
use Rattle.wdt_logfmt.specs.View.{spans_in, named_files}
use Rattle.wdt_files.proofs.opening.spans_of.Given as goal

abbrev pub invariant-loop-file : goal.invariant-loop-file
invariant-loop-file l = l.spans + sum_by spans_in (named_files (drop l.file-index l.files)) ≡ sum_by spans_in (named_files l.files)
