use Rattle.std.proofs.Common.{◌≡◌, ◌*◌, ◌≤◌, map, sum_by, take}
use Rattle.wdt_report.specs.Received.{blocks_in, bytes_in, closed_in}
use Rattle.wdt_report.proofs.lines.sum_received.Given as goal

abbrev pub invariant-loop-history : goal.invariant-loop-history
invariant-loop-history l = record {
  blocks : l.sums.blocks ≡ sum_by blocks_in (map (λ g. g.items) (take l.history-index l.histories));
  few_blocks : l.sums.blocks ≤ l.history-index * 18446744073709551616;
  bytes : l.sums.bytes ≡ sum_by bytes_in (map (λ g. g.items) (take l.history-index l.histories));
  few_bytes : l.sums.bytes ≤ l.history-index * 79228162514264337593543950336;
  closed : l.sums.closed ≡ sum_by closed_in (map (λ g. g.items) (take l.history-index l.histories));
  few_closed : l.sums.closed ≤ l.history-index * 18446744073709551616;
}
