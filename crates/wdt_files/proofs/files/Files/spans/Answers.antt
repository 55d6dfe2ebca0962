use Rattle.std.proofs.Common.{arith}
use Rattle.wdt_files.proofs.Kept.{spans_few}
use Rattle.wdt_files.proofs.files.Files.spans.Goals as goal

pub overflow_cast-result : goal.overflow_cast-result
overflow_cast-result c = omega (arith, spans_few c.self.inside.slots.items _ _ _ _ _ _ c.self.invariant)

pub returns-clause-limit : goal.returns-clause-limit
returns-clause-limit c = spans_few c.self.inside.slots.items _ _ _ _ _ _ c.self.invariant
