use Rattle.wdt_codec.specs.Partial.{Stands}
use Rattle.wdt_codec.proofs.chunks.go_on.Given as goal

abbrev pub invariant-loop-partial : goal.invariant-loop-partial
invariant-loop-partial l = Stands l.partial l.bytes

abbrev pub decreases-loop-partial : goal.decreases-loop-partial
decreases-loop-partial l = l.partial.left
