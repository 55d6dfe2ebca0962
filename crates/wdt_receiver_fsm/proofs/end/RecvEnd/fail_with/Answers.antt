use Rattle.std.proofs.Common.{sym, ap, ◌∙◌}
use Rattle.wdt_receiver_fsm.specs.Turn.{tells_failure}
use Rattle.wdt_receiver_fsm.specs.End.{EndView, plain_with}
use Rattle.wdt_receiver_fsm.proofs.end.RecvEnd.fail_with.Goals as goal

pub returns : goal.returns
returns c = λ books. ap (λ (v : EndView). tells_failure (plain_with v books) c.args.lane) (sym c.fail.ensures) ∙ c.tell_failure.ensures books
