use Rattle.std.proofs.Common.{◌≡◌, replicate}
use Rattle.wdt_receiver_fsm.specs.PlainReceiver.{new_lane}
use Rattle.wdt_receiver_fsm.proofs.end.new_lanes.Given as goal

abbrev pub invariant-loop : goal.invariant-loop
invariant-loop l = l.list.items ≡ replicate l.counter new_lane
