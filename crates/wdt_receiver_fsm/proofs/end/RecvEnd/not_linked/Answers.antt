use Rattle.std.proofs.Common.{◌∷◌, [], sym, ap, ◌∙◌}
use Rattle.wdt_receiver_fsm.specs.declared.events.RecvEvent.TheVariants as events
use Rattle.wdt_receiver_fsm.specs.PlainReceiver.{PlainReceiver, noted}
use Rattle.wdt_receiver_fsm.specs.Turn.{listen}
use Rattle.wdt_receiver_fsm.specs.End.{EndView, plain_with}
use Rattle.wdt_receiver_fsm.proofs.Ending.{same_plain}
use Rattle.wdt_receiver_fsm.proofs.end.RecvEnd.not_linked.Goals as goal

pub returns-clause-ok : goal.returns-clause-ok
returns-clause-ok c = λ books.
    ap (λ (r : PlainReceiver). listen (noted r (events.NoLink c.args.lane ∷ [])) c.args.lane) (sym (same_plain _ _ c.prepare.ensures.same books))
    ∙ ap (λ (v : EndView). listen (plain_with v books) c.args.lane) (sym c.note.ensures)
    ∙ c.listen.ensures books
