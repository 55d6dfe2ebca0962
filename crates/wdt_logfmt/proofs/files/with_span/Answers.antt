use Rattle.std.proofs.Common.{arith}
use Rattle.wdt_ranges.specs.Files.{have_file}
use Rattle.wdt_ranges.specs.Spans.{plain_span}
use Rattle.wdt_logfmt.proofs.Covering.{covered, uncovered}
use Rattle.wdt_logfmt.proofs.files.with_span.Goals as goal

pub returns-in-Ok-clause-file : goal.returns-in-Ok-clause-file
returns-in-Ok-clause-file c =
    covered (plain_span c.args.span) (have_file c.args.file) c.add.new.self c.requires.some c.requires.size (omega arith) c.count-before.ensures.apart c.count-now.ensures.apart c.in-Ok.ensures.none_shared c.in-Ok.ensures.positions

pub returns-in-Err-Overlap-clause-file : goal.returns-in-Err-Overlap-clause-file
returns-in-Err-Overlap-clause-file c = let h = c.in-Err-Overlap.ensures.refused in uncovered (plain_span c.args.span) (have_file c.args.file) c.in-Err-Overlap.field-0-0 (rw c.in-Err-Overlap.field-0-is at h)
