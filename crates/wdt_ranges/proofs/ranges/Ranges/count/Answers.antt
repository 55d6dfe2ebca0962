use Rattle.std.proofs.Common.{arith}
use Rattle.wdt_ranges.specs.Chunks.{all_of}
use Rattle.wdt_ranges.proofs.Apart.{few_spans, total_within}
use Rattle.wdt_ranges.proofs.ranges.Ranges.count.Goals as goal

pub returns-clause-limit : goal.returns-clause-limit
returns-clause-limit c =
    let ss = all_of c.self.inside.chunks.items in
    omega (arith, c.self.invariant.2, few_spans 0 ss c.self.invariant.0, total_within 0 ss c.self.invariant.0)
