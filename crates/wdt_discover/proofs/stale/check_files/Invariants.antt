use Rattle.wdt_discover.proofs.lemmas.Fitting.{IsFit}
use Rattle.wdt_discover.proofs.stale.check_files.Given as goal

abbrev pub invariant-loop-file : goal.invariant-loop-file
invariant-loop-file l = IsFit l.manifest l.files l.file-index
