use Rattle.std.proofs.Common.{◌≡◌, length}
use Rattle.wdt_cli.proofs.transferring.sources_of.Given as goal

abbrev pub invariant-loop : goal.invariant-loop
invariant-loop g l = length l.sources.items ≡ l.counter
