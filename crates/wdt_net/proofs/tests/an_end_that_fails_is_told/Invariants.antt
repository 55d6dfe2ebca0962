use Rattle.std.proofs.Common.{◌≡◌}
use Rattle.wdt_net.proofs.tests.an_end_that_fails_is_told.Given as goal

-- no connection is out
abbrev pub invariant-loop-how : goal.invariant-loop-how
invariant-loop-how g l = l.dialer.out ≡ 0
