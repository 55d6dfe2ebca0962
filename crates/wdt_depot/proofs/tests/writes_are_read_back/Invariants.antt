use Rattle.std.proofs.Common.{◌≡◌, []}
use Rattle.wdt_depot.specs.MemState.{mem_state}
use Rattle.wdt_depot.proofs.tests.writes_are_read_back.Given as goal

abbrev pub invariant-loop-offset : goal.invariant-loop-offset
invariant-loop-offset g l = (mem_state l.depot).spots ≡ []
