use Rattle.std.proofs.Common.{◌≡◌, List, set, length, ap, ◌∙◌, subst}
use Rattle.std.proofs.lemmas.List.{length-set}
use Rattle.wdt_receiver_fsm.specs.declared.states.RecvLane.{RecvLane}
use Rattle.wdt_receiver_fsm.specs.End.{EndView, answer_in, stands}
use Rattle.wdt_receiver_fsm.specs.EndInside.{seen}
use Rattle.wdt_receiver_fsm.proofs.Ending.{answered_so}
use Rattle.wdt_receiver_fsm.proofs.end.RecvEnd.stand.Goals as goal

pub settle-requires : goal.settle-requires
settle-requires c = ap (λ (ls : List RecvLane). length ls) c.deref.ensures.value ∙ length-set c.self.inside.lanes.items c.args.lane.0 c.args.stand ∙ c.self.invariant.same

pub returns : goal.returns
returns c =
    let lanes : List RecvLane = set c.self.inside.lanes.items c.args.lane.0 c.args.stand in
    subst (λ (v : EndView). answered_so (seen c.self.inside) lanes c.settle.new.answer ≡ stands v c.args.lane.0 c.args.stand) c.self.view_is
    (ap (answered_so (seen c.self.inside) lanes) (c.settle.ensures ∙ ap (answer_in c.self.inside.answer c.self.inside.notes.history) c.deref.ensures.value))
