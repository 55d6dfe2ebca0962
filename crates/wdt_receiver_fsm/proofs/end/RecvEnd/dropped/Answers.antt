use Rattle.std.proofs.Common.{false, sym, ap, ◌∙◌}
use Rattle.wdt_receiver_fsm.specs.declared.states.RecvLane.{RecvLane}
use Rattle.wdt_receiver_fsm.specs.PlainReceiver.{PlainReceiver}
use Rattle.wdt_receiver_fsm.specs.Turn.{drops_lane, listen}
use Rattle.wdt_receiver_fsm.specs.End.{EndView, lane_in, plain_with, stands}
use Rattle.wdt_receiver_fsm.proofs.Ending.{same_plain}
use Rattle.wdt_receiver_fsm.proofs.end.RecvEnd.dropped.Goals as goal

pub returns-clause-ok : goal.returns-clause-ok
returns-clause-ok c = λ books.
    ap (λ (r : PlainReceiver). listen (drops_lane r c.args.lane) c.args.lane) (sym (same_plain _ _ c.prepare.ensures.same books))
    ∙ ap (λ (v : EndView). listen (plain_with v books) c.args.lane)
    (sym (c.stand.ensures ∙ ap (λ (x : RecvLane). stands c.note.new.self c.args.lane.0 record x { is_sized = false; has_waited = false; left = 0 }) c.lane.ensures
    ∙ ap (λ (v : EndView). stands v c.args.lane.0 record (lane_in c.prepare.new.self c.args.lane.0) { is_sized = false; has_waited = false; left = 0 }) c.note.ensures))
    ∙ c.listen.ensures books
