use Rattle.std.proofs.Common.{◌<◌, sym, subst}
use Rattle.wdt_funnel.specs.Barrier.{Barrier}
use Rattle.wdt_funnel.proofs.Keeps.{grown_fits}
use Rattle.wdt_funnel.proofs.funnel.Funnel.close.Goals as goal

pub invariant_of-self : goal.invariant_of-self
invariant_of-self c = record {
  few = c.self.invariant.few;
  closed = grown_fits c.self.inside.lanes c.args.lane.0 c.self.inside.closed c.only.result c.with-self-inside.result (subst (λ (b : Barrier). c.args.lane.0 < b.lanes) (sym c.self.view_is) c.requires) c.self.invariant.closed c.only.ensures c.with-self-inside.ensures;
  idle = c.self.invariant.idle;
}
