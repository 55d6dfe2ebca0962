use Rattle.std.proofs.Common.{◌≡◌, take, drop, map, ◌++◌}
use Rattle.wdt_depot.specs.Spots.{entered_view}
use Rattle.wdt_depot.specs.State.{without}
use Rattle.wdt_depot.proofs.spots.drop_spot.Given as goal

abbrev pub invariant-loop-i : goal.invariant-loop-i
invariant-loop-i l = (l.spots ≡ l.initial.spots) × (without l.spot.0 (map entered_view l.spots.items) ≡ map entered_view (take l.i l.spots.items) ++ without l.spot.0 (map entered_view (drop l.i l.spots.items)))
