use Rattle.std.proofs.Common.{◌≡◌, ◌++◌}
use Rattle.wdt_ranges.specs.Spans.{plain_span}
use Rattle.wdt_rest.specs.RestOf.{first_pieces}
use Rattle.wdt_discover.proofs.pieces.push_gap.Given as goal

abbrev pub invariant-loop-k : goal.invariant-loop-k
invariant-loop-k l = l.blocks.items ≡ l.initial.blocks.items ++ first_pieces l.block l.file (plain_span l.gap) l.k
