use Rattle.wdt_receiver_fsm.proofs.HeldActs.{turn_acts}
use Rattle.wdt_receiver_fsm.proofs.laws.acts_follow_from_lanes.Goals as goal

pub returns : goal.returns
returns c = λ r l put step few within ends. turn_acts r l put step few within ends
