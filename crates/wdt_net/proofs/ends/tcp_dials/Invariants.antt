use Rattle.std.proofs.Common.{◌≡◌}
use Rattle.wdt_net.specs.Ends.{new_ends}
use Rattle.wdt_net.proofs.ends.tcp_dials.Given as goal

-- the ends of the lanes so far
abbrev pub invariant-loop-lane : goal.invariant-loop-lane
invariant-loop-lane g l = l.dialers.items ≡ new_ends l.lane l.port
