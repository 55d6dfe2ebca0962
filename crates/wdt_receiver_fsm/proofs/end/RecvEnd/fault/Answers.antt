use Rattle.std.proofs.Common.{sym, ap, ◌∙◌}
use Rattle.wdt_sender_fsm.specs.declared.answers.EndAnswer.TheVariants as answers
use Rattle.wdt_receiver_fsm.specs.PlainReceiver.{failed}
use Rattle.wdt_receiver_fsm.specs.Turn.{tells_failure}
use Rattle.wdt_receiver_fsm.specs.End.{EndView, plain_with}
use Rattle.wdt_receiver_fsm.proofs.end.RecvEnd.fault.Goals as goal

pub returns : goal.returns
returns c = λ books. ap (λ (v : EndView). tells_failure (failed (plain_with v books) (answers.Peer c.args.kind)) c.args.lane) (sym c.note.ensures) ∙ c.fail_with.ensures books
