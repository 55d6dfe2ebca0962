use Rattle.wdt_rehearsal.specs.Received.{Fills}
use Rattle.wdt_rehearsal.proofs.receiver.fill.Given as goal

abbrev pub invariant-loop-reader : goal.invariant-loop-reader
invariant-loop-reader l = Fills l.initial.reader l.reader l.initial.bytes.items l.bytes.items

abbrev pub decreases-loop-reader : goal.decreases-loop-reader
decreases-loop-reader l = l.reader.owed
