use Rattle.std.proofs.Common.{◌≡◌, ◌<◌, length}
use Rattle.wdt_receiver_tests.proofs.ends.run.Given as goal

abbrev pub invariant-loop-letter : goal.invariant-loop-letter
invariant-loop-letter g l = (length l.dock.plain.lanes ≡ 3) × (l.lane.0 < 3)
