use Rattle.std.proofs.Common.{◌≡◌, ◌+◌, map, drop, sum_by}
use Rattle.wdt_logfmt.specs.Beginning.{span_cost}
use Rattle.wdt_logfmt.specs.Marks.{marked_of}
use Rattle.wdt_writer.specs.PlainWriter.{blocks_of}
use Rattle.wdt_writer.proofs.faults.span_costs.Given as goal

-- with what is left it is what all of them give
abbrev pub invariant-loop-part : goal.invariant-loop-part
invariant-loop-part l = l.costs + sum_by (span_cost (map marked_of l.files.named)) (blocks_of (drop l.part-index l.parts)) ≡ sum_by (span_cost (map marked_of l.files.named)) (blocks_of l.parts)
