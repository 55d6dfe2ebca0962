use Rattle.std.proofs.Common.{◌||◌, ◌==◌, not, ap, ◌∙◌}
use Rattle.wdt_units.specs.declared.numbers.LaneSet.{LaneSet}
use Rattle.wdt_units.specs.LaneSets.{has_lane}
use Rattle.wdt_funnel.specs.Barrier.{Barrier}
use Rattle.wdt_funnel.specs.Happenings.{every}
use Rattle.wdt_funnel.proofs.Readiness.{all_heard}
use Rattle.wdt_funnel.proofs.funnel.Funnel.are_confirmed.Goals as goal

pub returns : goal.returns
returns c =
    c.is_empty.ensures ∙ ap (λ (set : LaneSet). set.0 == 0) c.without.ensures ∙ all_heard c.self.inside.lanes c.self.inside.closed c.self.inside.heard c.self.invariant.closed
    ∙ ap (λ (b : Barrier). every b.lanes (λ l. not (has_lane b.closed l) || has_lane b.heard l)) c.self.view_is
