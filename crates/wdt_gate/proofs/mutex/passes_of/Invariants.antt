use Rattle.std.proofs.Common.{◌≡◌, ◌+◌, map}
use Rattle.std.specs.Prelude.{All}
use Rattle.wdt_gate.specs.Told.{upto}
use Rattle.wdt_gate.specs.Passes.{IsFresh}
use Rattle.wdt_gate.proofs.mutex.passes_of.Given as goal

abbrev pub invariant-loop-lane : goal.invariant-loop-lane
invariant-loop-lane g l = (l.rest.parts + l.lane ≡ l.lanes) × (l.rest.amount ≡ 0)
    × All (IsFresh l.seen) l.passes.items
    × (map (λ p. p.lane) l.passes.items ≡ upto 0 l.lane)
