use Rattle.wdt_report.proofs.Counting.{Counted}
use Rattle.wdt_report.proofs.sent.count_sent.Given as goal

abbrev pub invariant-loop-event : goal.invariant-loop-event
invariant-loop-event l = Counted l.history l.event-index l.lanes l.connections l.requeued
