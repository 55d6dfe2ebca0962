use Rattle.std.proofs.Common.{◌≡◌, ◌<◌, ℕ, map, true}
use Rattle.std.specs.Prelude.{is_some}
use Rattle.wdt_depot.specs.Spots.{entered_view}
use Rattle.wdt_depot.specs.State.{path_of}
use Rattle.wdt_depot.proofs.spots.free_number.Given as goal

abbrev pub invariant-loop-number : goal.invariant-loop-number
invariant-loop-number l = (k : ℕ) → k < l.number → is_some (path_of k (map entered_view l.spots.items)) ≡ true
