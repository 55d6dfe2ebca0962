use Rattle.std.proofs.Common.{◌∷◌, [], sym, ap, ◌∙◌}
use Rattle.wdt_sender_fsm.specs.declared.answers.EndAnswer.TheVariants as answers
use Rattle.wdt_receiver_fsm.specs.declared.events.RecvEvent.TheVariants as events
use Rattle.wdt_receiver_fsm.specs.PlainReceiver.{PlainReceiver, failed, noted}
use Rattle.wdt_receiver_fsm.specs.Turn.{tells_failure}
use Rattle.wdt_receiver_fsm.proofs.Ending.{same_plain}
use Rattle.wdt_receiver_fsm.proofs.end.RecvEnd.find_fault.Goals as goal

pub returns-clause-ok : goal.returns-clause-ok
returns-clause-ok c = λ books.
    ap (λ (r : PlainReceiver). tells_failure (failed (noted r (events.Peer c.args.lane c.args.kind ∷ [])) (answers.Peer c.args.kind)) c.args.lane) (sym (same_plain _ _ c.prepare.ensures.same books)) ∙ c.fault.ensures books
