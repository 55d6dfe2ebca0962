use Rattle.std.proofs.Common.{arith}
use Rattle.wdt_script.proofs.Parts.{lent-field, one-field}
use Rattle.wdt_script.proofs.lines.first_field.Goals as goal

pub returns-then-end-line : goal.returns-then-end-line
returns-then-end-line c = one-field c.args.line.now c.part_len-end.result c.part_len-end.ensures.value (omega arith)

pub returns-else-end-line : goal.returns-else-end-line
returns-else-end-line c = lent-field c.args.line.now c.part_len-end.result c.part_len-end.ensures.value (omega arith)
