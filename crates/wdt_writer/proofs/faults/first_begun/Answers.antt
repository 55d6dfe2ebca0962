use Rattle.std.proofs.Common.{arith}
use Rattle.wdt_writer.proofs.InTheWay.{within_at}
use Rattle.wdt_writer.proofs.faults.first_begun.Goals as goal

pub first_in_both-requires-clause-within : goal.first_in_both-requires-clause-within
first_in_both-requires-clause-within c = within_at c.args.parts.now c.loop-part.part-index c.in-Some.part _ c.requires.within (omega arith) c.in-Some.is
