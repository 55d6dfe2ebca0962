use Rattle.std.proofs.Common.{◌≡◌}
use Rattle.wdt_receiver_tests.proofs.notes.a_closed_lane_is_told_and_the_finish_is_ready.Given as goal

abbrev pub invariant-loop-step : goal.invariant-loop-step
invariant-loop-step g l = l.notes.lanes ≡ 2
