use Rattle.std.proofs.Common.{◌≡◌, ◌++◌, map, length}
use Rattle.wdt_ranges.specs.Chunks.{all_of}
use Rattle.wdt_ranges.specs.Spans.{plain_span}
use Rattle.wdt_ranges.proofs.iter.SpansIterator.next.Given as goal

abbrev pub decreases-loop-self : goal.decreases-loop-self
decreases-loop-self l = length l.self-inside.later.now

abbrev pub invariant-loop-self : goal.invariant-loop-self
invariant-loop-self l = map plain_span l.self-inside.here.now ++ all_of l.self-inside.later.now ≡ l.fn.self
