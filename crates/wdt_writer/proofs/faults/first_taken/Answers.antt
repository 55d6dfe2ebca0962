use Rattle.std.proofs.Common.{map}
use Rattle.wdt_logfmt.specs.Marks.{marked_of}
use Rattle.wdt_writer.proofs.InTheWay.{taken_some}
use Rattle.wdt_writer.proofs.faults.first_taken.Goals as goal

pub returns : goal.returns
returns c =
    taken_some (map marked_of c.args.files.now.named) c.args.parts.now c.args.block c.least.result c.first_shared.result c.first_begun.result c.from.result c.if-block-eq0.false c.least.ensures c.first_shared.ensures c.first_begun.ensures c.from.ensures
