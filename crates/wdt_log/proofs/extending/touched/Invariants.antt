use Rattle.std.proofs.Common.{◌≡◌, true, take}
use Rattle.wdt_logfmt.specs.Spelling.{written_version}
use Rattle.wdt_logfmt.specs.View.{is_rising, named_files}
use Rattle.wdt_log.specs.Touched.{AreAdded, laid}
use Rattle.wdt_log.proofs.extending.touched.Given as goal

abbrev pub invariant-loop-entry : goal.invariant-loop-entry
invariant-loop-entry l = record {
  rising : is_rising (named_files l.touched.items) ≡ true;
  so_far : AreAdded written_version (named_files l.files) (take l.entry-index l.batch) (laid (named_files l.touched.items) (named_files l.files));
}
