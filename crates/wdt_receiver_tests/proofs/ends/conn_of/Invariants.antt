use Rattle.std.proofs.Common.{◌≤◌}
use Rattle.wdt_receiver_tests.proofs.ends.conn_of.Given as goal

abbrev pub invariant-loop-event : goal.invariant-loop-event
invariant-loop-event l = 1 ≤ l.conn.0
