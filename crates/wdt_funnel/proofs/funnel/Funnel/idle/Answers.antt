use Rattle.std.proofs.Common.{◌<◌, sym, subst}
use Rattle.wdt_funnel.specs.Barrier.{Barrier}
use Rattle.wdt_funnel.proofs.Keeps.{grown_fits}
use Rattle.wdt_funnel.proofs.funnel.Funnel.idle.Goals as goal

pub invariant_of-self : goal.invariant_of-self
invariant_of-self c = record {
  few = c.self.invariant.few;
  closed = c.self.invariant.closed;
  idle = grown_fits c.self.inside.lanes c.args.lane.0 c.self.inside.idle c.only.result c.with-self-inside.result (subst (λ (b : Barrier). c.args.lane.0 < b.lanes) (sym c.self.view_is) c.requires) c.self.invariant.idle c.only.ensures c.with-self-inside.ensures;
}
