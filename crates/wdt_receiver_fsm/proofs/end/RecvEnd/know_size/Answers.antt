use Rattle.std.proofs.Common.{true, sym, ap, ◌∙◌}
use Rattle.wdt_receiver_fsm.specs.declared.acts.RecvAct.TheVariants as acts
use Rattle.wdt_receiver_fsm.specs.declared.states.RecvLane.{RecvLane}
use Rattle.wdt_receiver_fsm.specs.Turn.{Step}
use Rattle.wdt_receiver_fsm.specs.End.{EndView, plain_with, stands}
use Rattle.wdt_receiver_fsm.proofs.end.RecvEnd.know_size.Goals as goal

pub returns : goal.returns
returns c = λ books.
    sym (ap (λ (v : EndView). let s : Step = (acts.Read, plain_with v books) in s) (c.stand.ensures ∙ ap (λ (x : RecvLane). stands c.args.self.now c.args.lane.0 record x { is_sized = true }) c.lane.ensures))
