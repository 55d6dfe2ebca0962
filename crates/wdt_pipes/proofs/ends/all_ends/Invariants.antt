use Rattle.std.proofs.Common.{◌≡◌}
use Rattle.wdt_pipes.specs.Ends.{new_ends}
use Rattle.wdt_pipes.proofs.ends.all_ends.Given as goal

-- the ends of the lanes so far
abbrev pub invariant-loop-lane : goal.invariant-loop-lane
invariant-loop-lane g l = record {
  dialers : l.dialers.items ≡ new_ends l.lane l.dial_fails;
  acceptors : l.acceptors.items ≡ new_ends l.lane l.accept_fails;
}
