use Rattle.std.proofs.Common.{◌≡◌}
use Rattle.wdt_link.proofs.stream.Stream.next_frame.Given as goal

abbrev pub invariant-loop : goal.invariant-loop
invariant-loop g l = (l.self.told ≡ l.fn.self.told) × (l.self.owed ≡ 0) × (l.self.faults ≡ l.fn.self.faults)
