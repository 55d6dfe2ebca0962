-- What the ends' own crates promise of each step, as the proofs here take it: the public laws hand it in.
use Rattle.std.proofs.Common.{◌<◌, length}
use Rattle.wdt_units.specs.declared.numbers.Lane.{Lane}
use Rattle.wdt_sender_fsm.specs.declared.inputs.SendIn.{SendIn}
use Rattle.wdt_sender_fsm.specs.PlainSender.{PlainSender}
use Rattle.wdt_sender_fsm.specs.Sender.{FitsIn, IsSender}
use Rattle.wdt_sender_fsm.specs.Turn.{send_turn}
use Rattle.wdt_receiver_fsm.specs.Plan.{EndsIn}
use Rattle.wdt_receiver_fsm.specs.PlainReceiver.{PlainReceiver}
use Rattle.wdt_receiver_fsm.specs.Receiver.{IsReceiver}
use Rattle.wdt_receiver_fsm.specs.Turn.{Put, Step, turn_plan}

-- a sender behind a step is one
abbrev pub SenderKeeps : Type 0
SenderKeeps = (s : PlainSender) (l : Lane) (input : SendIn) → IsSender s → l.0 < length s.lanes → FitsIn input → IsSender (send_turn s l input).1

-- a receiver behind each end of a step is one
abbrev pub ReceiverKeeps : Type 0
ReceiverKeeps = (r : PlainReceiver) (l : Lane) (put : Put) (step : Step) → IsReceiver r → l.0 < length r.lanes → EndsIn (Unit {0}) (turn_plan r l put) step → IsReceiver step.1
