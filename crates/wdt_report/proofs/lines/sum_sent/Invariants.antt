use Rattle.std.proofs.Common.{◌≡◌, ◌*◌, ◌≤◌, map, sum_by, take}
use Rattle.wdt_report.specs.Sent.{connections_in, requeued_in}
use Rattle.wdt_report.proofs.lines.sum_sent.Given as goal

abbrev pub invariant-loop-history : goal.invariant-loop-history
invariant-loop-history l = record {
  connections : l.sums.connections ≡ sum_by connections_in (map (λ h. h.items) (take l.history-index l.histories));
  few_connections : l.sums.connections ≤ l.history-index * 18446744073709551616;
  requeued : l.sums.requeued ≡ sum_by requeued_in (map (λ h. h.items) (take l.history-index l.histories));
  few_requeued : l.sums.requeued ≤ l.history-index * 18446744073709551616;
}
