use Rattle.std.proofs.Common.{◌||◌, ◌==◌, ap, ◌∙◌}
use Rattle.wdt_units.specs.declared.numbers.LaneSet.{LaneSet}
use Rattle.wdt_units.specs.LaneSets.{has_lane, lanes_without}
use Rattle.wdt_funnel.specs.Barrier.{Barrier}
use Rattle.wdt_funnel.specs.Happenings.{every}
use Rattle.wdt_funnel.proofs.Readiness.{none_goes}
use Rattle.wdt_funnel.proofs.funnel.Funnel.are_idle_or_closed.Goals as goal

pub returns : goal.returns
returns c =
    c.is_empty.ensures
    ∙ ap (λ (set : LaneSet). set.0 == 0) (c.without-2.ensures ∙ ap (λ (set : LaneSet). lanes_without set c.self.inside.closed) (c.without.ensures ∙ ap (λ (set : LaneSet). lanes_without set c.self.inside.idle) c.first.ensures))
    ∙ none_goes c.self.inside.lanes c.self.inside.idle c.self.inside.closed ∙ ap (λ (b : Barrier). every b.lanes (λ l. has_lane b.idle l || has_lane b.closed l)) c.self.view_is
