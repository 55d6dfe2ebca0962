use Rattle.std.proofs.Common.{ap, ◌∙◌}
use Rattle.wdt_lanes.specs.Acts.{is_alarming, is_cut, is_source_lost}
use Rattle.wdt_lanes.proofs.Flagging.{noted}
use Rattle.wdt_lanes.proofs.lane.step.Goals as goal

pub returns-clause-lost : goal.returns-clause-lost
returns-clause-lost g c =
    let h = c.perform_send-put.ensures.source in
    noted _ _ _ _ _ (c.is_source_lost.ensures ∙ ap is_source_lost c.put.ensures.value) (record { later = h.later; rose = h.cause })

pub returns-clause-cut : goal.returns-clause-cut
returns-clause-cut g c = noted _ _ _ _ _ (c.is_cut.ensures ∙ ap is_cut c.put-2.ensures.value) c.perform_send-put.ensures.faults

pub returns-clause-alarmed : goal.returns-clause-alarmed
returns-clause-alarmed g c = noted _ _ _ _ _ (c.is_alarming.ensures ∙ ap is_alarming c.put-3.ensures.value) c.perform_send-put.ensures.alarms
