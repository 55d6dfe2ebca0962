use Rattle.std.proofs.Common.{◌≡◌, ◌≤◌, ◌<◌, length, drop, ◌-◌, ◌*◌}
use Rattle.wdt_codec.specs.Reading.{digits, number_at}
use Rattle.wdt_codec.proofs.numbers.number_slow.Given as goal

abbrev pub invariant-loop-k : goal.invariant-loop-k
invariant-loop-k l = record {
  so_far : digits l.low l.high (l.width - l.k) l.before (drop l.k l.bytes) ≡ number_at l.width l.low l.high l.bytes;
  room : l.k < l.width → l.before * 256 ≤ l.high;
  reached : l.k ≤ length l.bytes;
}
