use Rattle.std.proofs.Common.{◌≡◌, ◌++◌, map, take, drop}
use Rattle.wdt_history.specs.Slots.{finished_slot}
use Rattle.wdt_history.proofs.history.History.finish.Given as goal

abbrev pub invariant-loop-lane : goal.invariant-loop-lane
invariant-loop-lane l = l.lane-items ≡ map finished_slot (take l.lane-index l.initial.lane-items) ++ drop l.lane-index l.initial.lane-items
