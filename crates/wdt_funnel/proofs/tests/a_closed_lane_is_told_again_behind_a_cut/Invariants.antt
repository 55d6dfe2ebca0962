use Rattle.std.proofs.Common.{◌≡◌}
use Rattle.wdt_funnel.proofs.tests.a_closed_lane_is_told_again_behind_a_cut.Given as goal

abbrev pub invariant-loop-step : goal.invariant-loop-step
invariant-loop-step g l = l.funnel.lanes ≡ 3
