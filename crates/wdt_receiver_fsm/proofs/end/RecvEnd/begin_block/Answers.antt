use Rattle.std.proofs.Common.{sym, ap, ◌∙◌}
use Rattle.wdt_receiver_fsm.specs.Turn.{takes_piece}
use Rattle.wdt_receiver_fsm.specs.End.{EndView, plain_with}
use Rattle.wdt_receiver_fsm.proofs.end.RecvEnd.begin_block.Goals as goal

pub returns : goal.returns
returns c = λ books. ap (λ (v : EndView). takes_piece (plain_with v books) c.args.lane c.args.block.length) (sym c.note.ensures) ∙ c.take_piece.ensures books
