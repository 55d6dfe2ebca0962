use Rattle.std.proofs.Common.{sym, ◌∙◌, arith}
use Rattle.wdt_yard.specs.End.{is_out_in}
use Rattle.wdt_yard.proofs.Ends.{every_false}
use Rattle.wdt_yard.proofs.answers.are_out.Goals as goal

pub returns-then-not-is_out : goal.returns-then-not-is_out
returns-then-not-is_out c =
    every_false c.args.journal.now.lanes c.loop-number.number (is_out_in c.args.journal.now.history c.args.lanes.now) (omega (arith, c.loop-number-test.true, c.lanes-number-end.ensures.count)) (sym c.is_out.ensures ∙ c.if-not-is_out.true)
