use Rattle.std.proofs.Common.{false, sym, ap, ◌∙◌}
use Rattle.wdt_receiver_fsm.specs.declared.states.RecvLane.{RecvLane}
use Rattle.wdt_receiver_fsm.specs.End.{EndView, lane_in, plain_with, stands}
use Rattle.wdt_receiver_fsm.proofs.end.RecvEnd.idle.Goals as goal

pub returns-clause-plain : goal.returns-clause-plain
returns-clause-plain c = λ books.
    sym (ap (λ (v : EndView). plain_with v books)
    (c.stand.ensures ∙ ap (λ (x : RecvLane). stands c.note.new.self c.args.lane.0 x) (c.waited-stand.ensures ∙ ap (λ (x : RecvLane). let y : RecvLane = record x { has_waited = false } in y) c.lane.ensures)
    ∙ ap (λ (v : EndView). stands v c.args.lane.0 record (lane_in c.args.self.now c.args.lane.0) { has_waited = false }) c.note.ensures))
