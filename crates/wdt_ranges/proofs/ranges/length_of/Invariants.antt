use Rattle.std.proofs.Common.{◌≡◌, take, sum_by}
use Rattle.wdt_ranges.specs.declared.ranges.Span.{Span}
use Rattle.wdt_ranges.proofs.ranges.length_of.Given as goal

abbrev pub invariant-loop-span : goal.invariant-loop-span
invariant-loop-span l = l.total ≡ sum_by (λ (s : Span). s.length) (take l.span-index l.spans)
