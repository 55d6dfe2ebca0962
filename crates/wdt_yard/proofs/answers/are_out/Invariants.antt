use Rattle.std.proofs.Common.{◌≡◌, true}
use Rattle.wdt_sender_fsm.specs.Rules.{every}
use Rattle.wdt_yard.specs.End.{is_out_in}
use Rattle.wdt_yard.proofs.answers.are_out.Given as goal

abbrev pub invariant-loop-number : goal.invariant-loop-number
invariant-loop-number l = every l.number (is_out_in l.journal.history l.lanes) ≡ true
