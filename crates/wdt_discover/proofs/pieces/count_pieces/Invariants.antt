use Rattle.wdt_discover.proofs.lemmas.Counting.{IsCounted}
use Rattle.wdt_discover.proofs.pieces.count_pieces.Given as goal

abbrev pub invariant-loop-gap : goal.invariant-loop-gap
invariant-loop-gap l = IsCounted l.block l.gaps l.gap-index l.count
