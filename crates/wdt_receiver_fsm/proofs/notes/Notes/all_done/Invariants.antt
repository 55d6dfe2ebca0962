use Rattle.std.proofs.Common.{◌≡◌, true}
use Rattle.wdt_sender_fsm.specs.Rules.{every}
use Rattle.wdt_receiver_fsm.specs.View.{is_done_in}
use Rattle.wdt_receiver_fsm.proofs.notes.Notes.all_done.Given as goal

abbrev pub invariant-loop-number : goal.invariant-loop-number
invariant-loop-number l = every l.number (is_done_in l.self.history) ≡ true
