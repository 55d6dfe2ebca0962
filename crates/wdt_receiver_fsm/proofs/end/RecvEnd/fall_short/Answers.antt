use Rattle.std.proofs.Common.{Bool, [], ◌∷◌, ap, ◌∙◌}
use Rattle.wdt_sender_fsm.specs.Rules.{by_voice}
use Rattle.wdt_sender_fsm.specs.declared.answers.EndAnswer.TheVariants as answers
use Rattle.wdt_receiver_fsm.specs.declared.events.RecvEvent.TheVariants as events
use Rattle.wdt_receiver_fsm.specs.PlainReceiver.{PlainReceiver, failed, noted}
use Rattle.wdt_receiver_fsm.specs.Turn.{leaves, tells_failure}
use Rattle.wdt_receiver_fsm.specs.End.{plain_with}
use Rattle.wdt_receiver_fsm.specs.Idling.{idled}
use Rattle.wdt_receiver_fsm.proofs.Telling.{speaks}
use Rattle.wdt_receiver_fsm.proofs.end.RecvEnd.fall_short.Goals as goal

pub returns : goal.returns
returns c = λ books.
    let l = c.args.lane in
    let told = events.Peer l c.args.kind ∷ [] in
    let stood : PlainReceiver = failed (noted (record (idled c.args.way (plain_with c.args.self.now books) l) { history = c.args.self.now.history }) told) (answers.Peer c.args.kind) in
    ap (λ (b : Bool). by_voice b (leaves stood l) (tells_failure stood l)) (speaks c.args.way)
    ∙ ap (λ (r : PlainReceiver). tells_failure (noted r told) l) (c.come_unnoted.ensures.plain books (answers.Peer c.args.kind))
    ∙ c.fault.ensures books
