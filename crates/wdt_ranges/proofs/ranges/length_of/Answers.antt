use Rattle.std.proofs.Common.{arith}
use Rattle.std.proofs.lemmas.List.Sums.{sum_by_more_le}
use Rattle.wdt_ranges.specs.declared.ranges.Span.{Span}
use Rattle.wdt_ranges.proofs.Apart.{lengths_within}
use Rattle.wdt_ranges.proofs.ranges.length_of.Goals as goal

pub overflow_add-total : goal.overflow_add-total
overflow_add-total c =
    omega (
      arith,
      c.loop-span.invariant,
      sum_by_more_le (λ (s : Span). s.length) c.args.spans.now c.loop-span.span-index (record { offset = 0; length = 0 }) c.loop-span-test.true,
      lengths_within c.args.spans.now c.requires,
    )
