use Rattle.std.proofs.Common.{◌≡◌, true}
use Rattle.wdt_sender_fsm.specs.Rules.{every}
use Rattle.wdt_receiver_fsm.specs.End.{is_out_in}
use Rattle.wdt_receiver_fsm.proofs.end.answers.are_out.Given as goal

abbrev pub invariant-loop-lane : goal.invariant-loop-lane
invariant-loop-lane l = every l.lane-index (is_out_in l.lanes) ≡ true
