use Rattle.std.proofs.Common.{sym, ◌∙◌}
use Rattle.wdt_world.proofs.Noting.{gets_on, gets_stop}
use Rattle.wdt_world.proofs.turning.leave_if.Goals as goal

pub returns-then-is_last : goal.returns-then-is_last
returns-then-is_last c = λ p here shows. gets_stop c.args.lines.now c.leave_up.new.self p c.args.act.now (sym c.is_last.ensures ∙ c.if-is_last.true) shows c.leave_up.ensures

pub returns-else-is_last : goal.returns-else-is_last
returns-else-is_last c = λ p here shows. gets_on c.args.lines.now p c.args.act.now (sym c.is_last.ensures ∙ c.if-is_last.false) here shows
