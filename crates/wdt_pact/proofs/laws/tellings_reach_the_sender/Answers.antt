use Rattle.wdt_pact.proofs.TellingAll.{tellings_after}
use Rattle.wdt_pact.proofs.laws.tellings_reach_the_sender.Goals as goal

pub returns : goal.returns
returns c = tellings_after c.histories_are_sound.ensures.closed c.steps_touch_their_lane.ensures.touches c.steps_have_outcomes.ensures.comes
