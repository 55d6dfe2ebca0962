use Rattle.std.proofs.Common.{◌≡◌, ◌≤◌, take}
use Rattle.wdt_report.specs.Received.{taken_in}
use Rattle.wdt_report.proofs.received.count_takes.Given as goal

-- the count is that of the entries so far
abbrev pub invariant-loop-event : goal.invariant-loop-event
invariant-loop-event l = record {
  takes : l.takes ≡ taken_in (take l.event-index l.history);
  few : l.takes ≤ l.event-index;
}
