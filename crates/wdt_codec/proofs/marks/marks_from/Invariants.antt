use Rattle.std.proofs.Common.{◌≡◌, ◌≤◌, ◌+◌, ◌-◌, length}
use Rattle.wdt_codec.specs.Frames.{marks_from}
use Rattle.wdt_codec.specs.Reading.{with_front}
use Rattle.wdt_codec.proofs.marks.marks_from.Given as goal

abbrev pub invariant-loop-k : goal.invariant-loop-k
invariant-loop-k l = record {
  so_far : with_front l.marks (marks_from (l.count - l.k) l.low l.rest) ≡ marks_from l.count 0 l.bytes;
  room : l.low + (l.count - l.k) ≤ 16;
  few : length l.marks ≤ l.k;
}
