use Rattle.std.proofs.Common.{◌≡◌, drop, map}
use Rattle.wdt_history.specs.Slots.{claims_in}
use Rattle.wdt_history.proofs.Standing.{first_place}
use Rattle.wdt_history.proofs.history.History.place.Given as goal

abbrev pub invariant-loop-lane : goal.invariant-loop-lane
invariant-loop-lane l = first_place l.block (map claims_in l.lane-items) ≡ first_place l.block (map claims_in (drop l.lane-index l.lane-items))
