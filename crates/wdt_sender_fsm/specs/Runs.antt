-- Steps of lanes, one after the other.
use Rattle.std.specs.Prelude.{ℕ, ◌<◌, List, [], ◌∷◌}
use Rattle.wdt_units.specs.declared.numbers.Lane.{Lane}
use Rattle.wdt_sender_fsm.specs.declared.inputs.SendIn.{SendIn}
use Rattle.wdt_sender_fsm.specs.PlainSender.{PlainSender}
use Rattle.wdt_sender_fsm.specs.Sender.{FitsIn}
use Rattle.wdt_sender_fsm.specs.Turn.{send_turn}

-- a lane's step with an input
abbrev pub LaneStep : Type 0
LaneStep = Lane × SendIn

-- it is of one of n lanes, and what is read is in the grammar's ranges
abbrev pub IsStepOf : ℕ → LaneStep → Type 0
IsStepOf n step = (step.0.0 < n) × FitsIn step.1

-- the plain sender behind these steps
abbrev pub after_steps : PlainSender → List LaneStep → PlainSender
after_steps s [] = s
after_steps s (step ∷ steps) = after_steps (send_turn s step.0 step.1).1 steps
