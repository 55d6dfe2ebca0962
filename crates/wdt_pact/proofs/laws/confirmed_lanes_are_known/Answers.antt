use Rattle.wdt_pact.proofs.Confirming.{confirmed_after}
use Rattle.wdt_pact.proofs.laws.confirmed_lanes_are_known.Goals as goal

pub returns : goal.returns
returns c = confirmed_after c.histories_are_sound.ensures.sound c.histories_are_sound.ensures.closed c.steps_touch_their_lane.ensures.touches
