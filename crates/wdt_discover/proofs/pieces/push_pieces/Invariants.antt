use Rattle.wdt_discover.proofs.lemmas.Counting.{IsListed}
use Rattle.wdt_discover.proofs.pieces.push_pieces.Given as goal

abbrev pub invariant-loop-gap : goal.invariant-loop-gap
invariant-loop-gap l = IsListed l.block l.file l.gaps l.gap-index l.initial.blocks.items l.blocks.items
