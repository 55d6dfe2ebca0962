use Rattle.wdt_pact.proofs.Confirming.{ready_after}
use Rattle.wdt_pact.proofs.laws.a_ready_finish_comes.Goals as goal

pub returns : goal.returns
returns c = ready_after c.histories_are_sound.ensures.sound c.histories_are_sound.ensures.closed c.steps_touch_their_lane.ensures.touches
