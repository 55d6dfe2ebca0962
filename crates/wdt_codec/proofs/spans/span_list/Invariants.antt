use Rattle.std.proofs.Common.{◌≡◌, ◌≤◌, ◌+◌, ◌-◌, ◌*◌, map}
use Rattle.wdt_codec.specs.Chunks.{spans_at}
use Rattle.wdt_codec.specs.Reading.{with_front}
use Rattle.wdt_ranges.specs.Spans.{plain_span}
use Rattle.wdt_codec.proofs.spans.span_list.Given as goal

abbrev pub invariant-loop-k : goal.invariant-loop-k
invariant-loop-k l = record {
  so_far : with_front (map plain_span l.spans.items) (spans_at l.size (l.count - l.k) l.least l.rest) ≡ spans_at l.size l.count 0 l.bytes;
  room : l.least + 2 * (l.count - l.k) ≤ l.size + 1;
}
