use Rattle.std.proofs.Common.{◌≡◌, ◌&&◌, List, set, sym, ap, ◌∙◌, subst}
use Rattle.std.proofs.lemmas.List.{length-set}
use Rattle.wdt_sender_fsm.specs.declared.states.SendLane.{SendLane}
use Rattle.wdt_sender_fsm.specs.PlainSender.{with_lane}
use Rattle.wdt_sender_fsm.specs.Rules.{every, judged}
use Rattle.wdt_sender_fsm.specs.SenderHistory.{end_of}
use Rattle.wdt_yard.specs.End.{EndView, is_done_in, is_out_in}
use Rattle.wdt_yard.specs.EndInside.{seen}
use Rattle.wdt_yard.proofs.Ends.{answer_is, answered_so}
use Rattle.wdt_yard.proofs.end.SendEnd.stand.Goals as goal

pub returns : goal.returns
returns c =
    let lanes : List SendLane = set c.self.inside.lanes.items c.args.lane.0 c.args.stand in
    let j = c.self.inside.journal in
    subst (λ (v : EndView). answered_so (seen c.self.inside) lanes c.settle.new.answer ≡ record v { plain = with_lane v.plain c.args.lane c.args.stand }) c.self.view_is
    (ap (answered_so (seen c.self.inside) lanes)
    (c.settle.ensures
    ∙ ap (λ (ls : List SendLane). judged c.self.inside.answer ((end_of j.history).has_finish && every j.lanes (is_done_in j.history)) (every j.lanes (is_out_in j.history ls))) c.deref.ensures.value
    ∙ answer_is (record (seen c.self.inside).plain { lanes = lanes }) j.lanes (sym c.self.invariant.same ∙ sym (length-set c.self.inside.lanes.items c.args.lane.0 c.args.stand))))
