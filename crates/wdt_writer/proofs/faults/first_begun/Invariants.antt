use Rattle.std.proofs.Common.{◌≡◌, drop}
use Rattle.wdt_logfmt.specs.Beginning.{first_shared, least_position, span_of}
use Rattle.wdt_writer.specs.Standing.{begun_spans}
use Rattle.wdt_writer.proofs.faults.first_begun.Given as goal

-- with what is left it is what all of them give
abbrev pub invariant-loop-part : goal.invariant-loop-part
invariant-loop-part l = least_position l.first (first_shared (begun_spans l.block.file (drop l.part-index l.parts)) (span_of l.block)) ≡ first_shared (begun_spans l.block.file l.parts) (span_of l.block)
