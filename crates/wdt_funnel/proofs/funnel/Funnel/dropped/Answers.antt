use Rattle.wdt_funnel.proofs.Keeps.{shrunk_fits}
use Rattle.wdt_funnel.proofs.funnel.Funnel.dropped.Goals as goal

pub invariant_of-self : goal.invariant_of-self
invariant_of-self c = record {
  few = c.self.invariant.few;
  closed = c.self.invariant.closed;
  idle = shrunk_fits c.self.inside.lanes c.self.inside.idle c.only.result c.without-self-inside.result c.self.invariant.idle c.without-self-inside.ensures;
}
