use Rattle.wdt_discover.proofs.lemmas.Counting.{ends_within}
use Rattle.wdt_discover.proofs.pieces.push_pieces.Goals as goal

pub push_gap-requires-clause-end : goal.push_gap-requires-clause-end
push_gap-requires-clause-end c = ends_within c.args.gaps.now c.loop-gap.gap-index (record { offset = 0; length = 0 }) c.requires.apart c.loop-gap-test.true
