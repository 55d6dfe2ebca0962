use Rattle.std.proofs.Common.{◌≡◌, ◌++◌, drop}
use Rattle.wdt_pipes.specs.Ends.{fails_of}
use Rattle.wdt_pipes.proofs.ends.fails_of.Given as goal

-- the numbers so far and those of what is left are those of all
abbrev pub invariant-loop-of : goal.invariant-loop-of
invariant-loop-of l = l.fails.items ++ fails_of l.lane (drop l.of-index l.pairs) ≡ fails_of l.lane l.pairs
