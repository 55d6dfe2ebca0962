use Rattle.std.proofs.Common.{true, sym, ap, ◌∙◌}
use Rattle.wdt_receiver_fsm.specs.declared.states.RecvLane.{RecvLane}
use Rattle.wdt_receiver_fsm.specs.End.{EndView, plain_with, stands}
use Rattle.wdt_receiver_fsm.proofs.end.RecvEnd.wait_written.Goals as goal

pub returns-clause-plain : goal.returns-clause-plain
returns-clause-plain c = λ books.
    sym (ap (λ (v : EndView). plain_with v books) (c.stand.ensures ∙ ap (λ (x : RecvLane). stands c.args.self.now c.args.lane.0 x) (c.waited-stand.ensures ∙ ap (λ (x : RecvLane). let y : RecvLane = record x { has_waited = true } in y) c.lane.ensures)))
