use Rattle.std.proofs.Common.{◌≡◌, drop, map}
use Rattle.wdt_depot.specs.Spots.{entered_view}
use Rattle.wdt_depot.specs.State.{path_of}
use Rattle.wdt_depot.proofs.spots.is_taken.Given as goal

abbrev pub invariant-loop-entered : goal.invariant-loop-entered
invariant-loop-entered l = path_of l.number (map entered_view l.spots.items) ≡ path_of l.number (map entered_view (drop l.entered-index l.spots.items))
