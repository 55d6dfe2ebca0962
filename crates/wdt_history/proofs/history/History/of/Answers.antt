use Rattle.std.proofs.Common.{sym, subst, arith}
use Rattle.wdt_claims.specs.Claimed.{AreLanes}
use Rattle.wdt_history.proofs.Keeps.{lanes_of_none}
use Rattle.wdt_history.proofs.history.History.of.Goals as goal

pub invariant_of-result : goal.invariant_of-result
invariant_of-result c = record {
  lanes = subst AreLanes (sym c.loop.invariant) (lanes_of_none c.loop.counter (omega (arith, c.ranges.lanes.fits)));
  room = tt;
}
