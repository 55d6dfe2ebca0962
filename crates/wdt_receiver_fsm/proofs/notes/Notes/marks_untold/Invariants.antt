use Rattle.std.proofs.Common.{◌≡◌, filter, map}
use Rattle.wdt_receiver_fsm.specs.PlainReceiver.{mark_of}
use Rattle.wdt_receiver_fsm.specs.Ready.{is_untold}
use Rattle.wdt_receiver_fsm.specs.Sets.{numbers}
use Rattle.wdt_receiver_fsm.proofs.notes.Notes.marks_untold.Given as goal

abbrev pub invariant-loop-number : goal.invariant-loop-number
invariant-loop-number l = l.marks ≡ map (mark_of l.self.history) (filter (is_untold l.self.history l.fn.lane.0) (numbers l.number))
