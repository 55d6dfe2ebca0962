use Rattle.std.proofs.Common.{◌∙◌}
use Rattle.std.proofs.lemmas.List.{take_all}
use Rattle.wdt_ranges.proofs.ranges.copies.Goals as goal

pub returns : goal.returns
returns c = c.loop-chunk.invariant ∙ take_all c.loop-chunk.chunk-index c.deref-chunk-items.result.now c.loop-chunk-test.false ∙ c.deref-chunk-items.ensures.value
