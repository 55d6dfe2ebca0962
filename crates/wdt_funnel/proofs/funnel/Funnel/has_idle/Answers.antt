use Rattle.std.proofs.Common.{not, ap, ◌∙◌}
use Rattle.wdt_units.specs.LaneSets.{has_lane}
use Rattle.wdt_funnel.specs.Barrier.{Barrier}
use Rattle.wdt_funnel.specs.Happenings.{some}
use Rattle.wdt_funnel.proofs.Readiness.{some_idle}
use Rattle.wdt_funnel.proofs.funnel.Funnel.has_idle.Goals as goal

pub returns : goal.returns
returns c = ap not c.is_empty.ensures ∙ some_idle c.self.inside.lanes c.self.inside.idle c.self.invariant.idle ∙ ap (λ (b : Barrier). some b.lanes (has_lane b.idle)) c.self.view_is
