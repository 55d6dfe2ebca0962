use Rattle.std.proofs.Common.{arith}
use Rattle.wdt_logfmt.proofs.Appending.{length-next, length-within}
use Rattle.wdt_logfmt.proofs.writing.length_of.Goals as goal

pub overflow_add-total : goal.overflow_add-total
overflow_add-total c = omega (arith, c.requires, length-within c.args.entries.now c.loop-entry.entry-index c.entry-item.result c.loop-entry-test.true c.entry-item.is, c.entry_length-total.ensures)

pub loop-entry-preserved : goal.loop-entry-preserved
loop-entry-preserved c = omega (arith, length-next c.args.entries.now c.loop-entry.entry-index c.entry-item.result c.loop-entry-test.true c.entry-item.is, c.entry_length-total.ensures)
