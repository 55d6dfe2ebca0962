use Rattle.std.proofs.Common.{Bool, false, sym, ap, ◌∙◌}
use Rattle.std.specs.Prelude.{is_some}
use Rattle.wdt_receiver_fsm.specs.PlainReceiver.{PlainReceiver}
use Rattle.wdt_receiver_fsm.specs.ReceiverHistory.{end_of}
use Rattle.wdt_receiver_fsm.specs.Turn.{greets_by, meets, met_by}
use Rattle.wdt_receiver_fsm.specs.End.{EndView, plain_with}
use Rattle.wdt_receiver_fsm.proofs.Ending.{same_plain}
use Rattle.wdt_receiver_fsm.proofs.end.RecvEnd.greet.Goals as goal

pub returns-clause-ok : goal.returns-clause-ok
returns-clause-ok c = λ books.
    let p = c.prepare.new.self in
    let l = c.args.lane in
    let s = c.args.settings in
    ap (λ (r : PlainReceiver). greets_by (meets r l s) l s (end_of r.history).has_finish) (sym (same_plain _ _ c.prepare.ensures.same books))
    ∙ ap (λ (b : Bool). greets_by (met_by (plain_with p books) l s b) l s (end_of p.history).has_finish) (ap is_some (sym c.met.ensures) ∙ sym c.is_some.ensures ∙ c.if-is_some.false)
    ∙ ap (λ (f : Bool). greets_by (met_by (plain_with p books) l s false) l s f) (sym c.has_finish-has_finish.ensures)
    ∙ ap (λ (v : EndView). greets_by (plain_with v books) l s c.has_finish-has_finish.result) (sym c.note.ensures)
    ∙ c.answer_settings-2.ensures books
