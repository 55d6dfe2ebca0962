use Rattle.std.proofs.Common.{◌≡◌, ◌*◌, ◌≤◌}
use Rattle.wdt_report.specs.Sent.{over_lanes, sure_bytes_of, sure_of}
use Rattle.wdt_report.proofs.kept.count_sure.Given as goal

-- the sums are those of the lanes so far
abbrev pub invariant-loop-lane : goal.invariant-loop-lane
invariant-loop-lane l = record {
  blocks : l.blocks ≡ over_lanes (sure_of l.history) l.lane;
  few_blocks : l.blocks ≤ l.lane * 18446744073709551616;
  bytes : l.bytes ≡ over_lanes (sure_bytes_of l.history) l.lane;
  few_bytes : l.bytes ≤ l.lane * 79228162514264337593543950336;
}
