use Rattle.wdt_receiver_fsm.proofs.Touching.{turn_touches}
use Rattle.wdt_receiver_fsm.proofs.laws.steps_touch_their_lane.Goals as goal

pub returns : goal.returns
returns c = λ r l put step ends. turn_touches r l put step ends
