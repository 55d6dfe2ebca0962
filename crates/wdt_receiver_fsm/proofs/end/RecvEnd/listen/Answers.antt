use Rattle.std.proofs.Common.{sym, ap, ◌∙◌}
use Rattle.wdt_receiver_fsm.specs.Turn.{leaves, listen_by}
use Rattle.wdt_receiver_fsm.specs.End.{EndView, plain_with}
use Rattle.wdt_receiver_fsm.proofs.end.RecvEnd.listen.Goals as goal

pub returns-then-is_used_up : goal.returns-then-is_used_up
returns-then-is_used_up c = λ books.
    ap (listen_by (plain_with c.args.self.now books) c.args.lane) (sym c.is_used_up.ensures ∙ c.if-is_used_up.true)
    ∙ ap (λ (v : EndView). leaves (plain_with v books) c.args.lane) (sym c.note_given_up.ensures)
    ∙ c.leave.ensures books
