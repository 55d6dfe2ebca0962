use Rattle.std.proofs.Common.{Bool, true, None, sym, ap, ◌∙◌}
use Rattle.std.specs.Prelude.{is_some}
use Rattle.wdt_receiver_fsm.specs.PlainReceiver.{PlainReceiver, lane_at, with_lane}
use Rattle.wdt_receiver_fsm.specs.Turn.{reads, sized_by, sizes_with}
use Rattle.wdt_receiver_fsm.specs.End.{EndView, lane_in, plain_with}
use Rattle.wdt_receiver_fsm.proofs.Ending.{same_plain}
use Rattle.wdt_receiver_fsm.proofs.end.RecvEnd.take_size.Goals as goal

pub returns-clause-ok : goal.returns-clause-ok
returns-clause-ok c = λ books.
    let p = c.prepare.new.self in
    let l = c.args.lane in
    ap (λ (r : PlainReceiver). sizes_with r l c.args.files c.args.bytes None) (sym (same_plain _ _ c.prepare.ensures.same books))
    ∙ ap (λ (b : Bool). reads (with_lane (sized_by (plain_with p books) l c.args.files c.args.bytes b) l.0 record (lane_at (plain_with p books) l.0) { is_sized = true })) (ap is_some (sym c.sized.ensures) ∙ sym c.is_some.ensures ∙ c.if-is_some.false)
    ∙ ap (λ (v : EndView). reads (with_lane (plain_with v books) l.0 record (lane_in v l.0) { is_sized = true })) (sym c.note.ensures)
    ∙ c.know_size-2.ensures books
