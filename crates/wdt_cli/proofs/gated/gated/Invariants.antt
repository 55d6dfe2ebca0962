use Rattle.std.proofs.Common.{◌≡◌}
use Rattle.wdt_cli.proofs.gated.gated.Given as goal

abbrev pub invariant-loop-acceptor : goal.invariant-loop-acceptor
invariant-loop-acceptor g l = l.gated.items ≡ l.yielded
