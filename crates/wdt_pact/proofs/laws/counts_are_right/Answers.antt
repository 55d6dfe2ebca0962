use Rattle.wdt_pact.proofs.Counting.{greeting_right, marks_right}
use Rattle.wdt_pact.proofs.laws.counts_are_right.Goals as goal

pub returns-clause-greeting : goal.returns-clause-greeting
returns-clause-greeting c = λ w l mark talk. greeting_right c.histories_are_sound.ensures.sound w talk l mark

pub returns-clause-marks : goal.returns-clause-marks
returns-clause-marks c = λ w l marks talk. marks_right c.histories_are_sound.ensures.sound w talk l marks
