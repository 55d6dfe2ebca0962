use Rattle.std.proofs.Common.{◌≡◌, drop}
use Rattle.wdt_sender_fsm.specs.Faults.{marks_fault}
use Rattle.wdt_yard.proofs.end.SendEnd.check_marks.Given as goal

abbrev pub invariant-loop-mark : goal.invariant-loop-mark
invariant-loop-mark l = marks_fault l.self.plain.history l.marks ≡ marks_fault l.self.plain.history (drop l.mark-index l.marks)
