use Rattle.std.proofs.Common.{◌≡◌, ◌++◌, map, true}
use Rattle.wdt_ranges.specs.Spans.{plain_span, are_apart_from, gaps_from, gaps_of}
use Rattle.wdt_ranges.proofs.ranges.Ranges.gaps.Given as goal

abbrev pub invariant-loop-span : goal.invariant-loop-span
invariant-loop-span l = record {
  gaps : map plain_span l.gaps.items ++ gaps_from l.least l.size l.span-iterator ≡ gaps_of l.fn.self l.size;
  apart : are_apart_from l.least l.span-iterator ≡ true;
}
