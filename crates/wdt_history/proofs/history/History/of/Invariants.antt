use Rattle.std.proofs.Common.{◌≡◌, map, replicate}
use Rattle.wdt_claims.specs.LaneWords.{no_claims}
use Rattle.wdt_history.specs.Slots.{claims_in}
use Rattle.wdt_history.proofs.history.History.of.Given as goal

abbrev pub invariant-loop : goal.invariant-loop
invariant-loop l = map claims_in l.list.items ≡ replicate l.counter no_claims
