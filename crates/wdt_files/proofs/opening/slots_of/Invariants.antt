use Rattle.std.proofs.Common.{drop}
use Rattle.wdt_logfmt.specs.View.{named_files}
use Rattle.wdt_files.proofs.Opened.{IsOpened}
use Rattle.wdt_files.proofs.opening.slots_of.Given as goal

abbrev pub invariant-loop-file : goal.invariant-loop-file
invariant-loop-file l = IsOpened l.slots.items (named_files (drop l.file-index l.files)) (named_files l.files)
