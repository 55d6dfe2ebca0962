use Rattle.std.proofs.Common.{sym, ap, ◌∙◌}
use Rattle.wdt_receiver_fsm.specs.declared.events.RecvEvent.TheVariants as events
use Rattle.wdt_receiver_fsm.specs.declared.states.RecvLane.{RecvLane}
use Rattle.wdt_receiver_fsm.specs.End.{EndView, plain_with, stands, with_note}
use Rattle.wdt_receiver_fsm.proofs.end.RecvEnd.land_block.Goals as goal

pub returns-clause-plain : goal.returns-clause-plain
returns-clause-plain c = λ books.
    sym (ap (λ (v : EndView). plain_with v books)
    (c.note.ensures ∙ ap (λ (v : EndView). with_note v (events.Land c.args.lane)) (c.stand.ensures ∙ ap (λ (x : RecvLane). stands c.args.self.now c.args.lane.0 record x { left = 0 }) c.lane.ensures)))
