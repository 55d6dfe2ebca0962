use Rattle.wdt_report.proofs.Landing.{Counted}
use Rattle.wdt_report.proofs.received.count_received.Given as goal

abbrev pub invariant-loop-event : goal.invariant-loop-event
invariant-loop-event l = Counted l.history l.event-index l.begun l.blocks l.bytes l.closed
