use Rattle.std.proofs.Common.{sym}
use Rattle.wdt_script.proofs.Spelled.{no_text}
use Rattle.wdt_script.proofs.numbers.field_number.Goals as goal

pub returns-in-Err : goal.returns-in-Err
returns-in-Err c = sym (no_text c.args.field.now c.in-Err.ensures.cases.0)
