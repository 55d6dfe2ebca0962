use Rattle.std.proofs.Common.{◌≡◌, ◌*◌, ◌≤◌, sum_by, take}
use Rattle.wdt_logfmt.specs.Beginning.{length_of}
use Rattle.wdt_report.proofs.kept.bytes_of.Given as goal

-- the sum is that of the blocks so far
abbrev pub invariant-loop-block : goal.invariant-loop-block
invariant-loop-block l = record {
  bytes : l.bytes ≡ sum_by length_of (take l.block-index l.blocks);
  few : l.bytes ≤ l.block-index * 4294967296;
}
