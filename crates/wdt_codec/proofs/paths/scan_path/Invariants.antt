use Rattle.std.proofs.Common.{◌≡◌, ◌≤◌, length, take, drop, ◌-◌}
use Rattle.wdt_units.specs.Scan.{scan_after}
use Rattle.wdt_codec.specs.Paths.{path_at}
use Rattle.wdt_codec.specs.Reading.{times, with_front}
use Rattle.wdt_codec.proofs.PathField.{path_bytes}
use Rattle.wdt_codec.proofs.paths.scan_path.Given as goal

abbrev pub invariant-loop-k : goal.invariant-loop-k
invariant-loop-k l = record {
  so_far : with_front (take l.k l.bytes) (times path_bytes scan_after (l.count - l.k) l.scan (drop l.k l.bytes)) ≡ path_at l.count l.bytes;
  reached : l.k ≤ length l.bytes;
}
