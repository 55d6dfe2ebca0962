use Rattle.std.proofs.Common.{◌≡◌, length}
use Rattle.wdt_units.specs.Counts.{capped}
use Rattle.wdt_gate.specs.Passes.{turns_of}
use Rattle.wdt_gate.proofs.desk.Desk.settle.Given as goal

abbrev pub invariant-loop-pass : goal.invariant-loop-pass
invariant-loop-pass g l = (l.all.parts ≡ length l.yielded) × (l.all.amount ≡ turns_of l.yielded) × (l.turns ≡ capped l.book.total)
