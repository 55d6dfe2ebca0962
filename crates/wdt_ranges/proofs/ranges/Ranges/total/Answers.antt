use Rattle.std.proofs.Common.{arith}
use Rattle.wdt_ranges.specs.Chunks.{all_of}
use Rattle.wdt_ranges.proofs.Apart.{total_within}
use Rattle.wdt_ranges.proofs.ranges.Ranges.total.Goals as goal

pub returns-clause-limit : goal.returns-clause-limit
returns-clause-limit c = omega (arith, c.self.invariant.3, total_within 0 (all_of c.self.inside.chunks.items) c.self.invariant.0)
