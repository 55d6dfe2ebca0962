use Rattle.std.proofs.Common.{refl}
use Rattle.wdt_discover.proofs.lemmas.Counting.{count_none, count_more, ends_within}
use Rattle.wdt_discover.proofs.pieces.count_pieces.Goals as goal

pub loop-gap-init : goal.loop-gap-init
loop-gap-init c = count_none c.args.block c.args.gaps.now c.requires.apart

pub pieces_in-count-requires-clause-end : goal.pieces_in-count-requires-clause-end
pieces_in-count-requires-clause-end c = ends_within c.args.gaps.now c.loop-gap.gap-index (record { offset = 0; length = 0 }) c.requires.apart c.loop-gap-test.true

pub loop-gap-preserved : goal.loop-gap-preserved
loop-gap-preserved c =
    count_more c.args.block c.args.gaps.now c.loop-gap.gap-index c.loop-gap.count c.pieces_in-count.result _ (record { offset = 0; length = 0 }) c.loop-gap-test.true refl
    c.pieces_in-count.ensures.count c.pieces_in-count.ensures.few c.loop-gap.invariant
