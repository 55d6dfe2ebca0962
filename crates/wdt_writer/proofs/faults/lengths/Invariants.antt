use Rattle.std.proofs.Common.{◌≡◌, ◌+◌, drop, sum_by}
use Rattle.wdt_logfmt.specs.Beginning.{length_of}
use Rattle.wdt_writer.specs.PlainWriter.{blocks_of}
use Rattle.wdt_writer.proofs.faults.lengths.Given as goal

-- with what is left it is what all of them give
abbrev pub invariant-loop-part : goal.invariant-loop-part
invariant-loop-part l = l.bytes + sum_by length_of (blocks_of (drop l.part-index l.parts)) ≡ sum_by length_of (blocks_of l.parts)
