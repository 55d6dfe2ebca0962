use Rattle.std.proofs.Common.{sym, ◌∙◌, arith}
use Rattle.wdt_yard.specs.End.{is_done_in}
use Rattle.wdt_yard.proofs.Ends.{every_false}
use Rattle.wdt_yard.proofs.answers.are_done.Goals as goal

pub returns-then-not-is_done : goal.returns-then-not-is_done
returns-then-not-is_done c =
    every_false c.args.journal.now.lanes c.loop-number.number (is_done_in c.args.journal.now.history) (omega (arith, c.loop-number-test.true, c.lanes-number-end.ensures.count)) (sym c.is_done.ensures ∙ c.if-not-is_done.true)
