use Rattle.std.proofs.Common.{◌≡◌}
use Rattle.wdt_folder_tests.proofs.thread_tests.land.Given as goal

abbrev pub invariant-loop-name : goal.invariant-loop-name
invariant-loop-name g l = (g.D.Depot.state l.depot).spots ≡ (g.D.Depot.state l.fn.depot).spots
