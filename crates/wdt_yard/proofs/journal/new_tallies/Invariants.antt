use Rattle.std.proofs.Common.{◌≡◌, replicate}
use Rattle.wdt_yard.specs.Tallies.{no_tally}
use Rattle.wdt_yard.proofs.journal.new_tallies.Given as goal

abbrev pub invariant-loop : goal.invariant-loop
invariant-loop l = l.tallies.items ≡ replicate l.counter no_tally
