use Rattle.wdt_pact.proofs.Steps.{stays_sound}
use Rattle.wdt_pact.proofs.laws.every_event_keeps_a_world_sound.Goals as goal

pub returns : goal.returns
returns c =
    stays_sound c.senders_stay_senders.ensures.steps c.steps_have_outcomes.ensures.comes c.steps_touch_their_lane.ensures.touches c.steps_touch_their_lane.ensures.lawful c.steps_answer_rightly.ensures.fits
    c.histories_are_sound.ensures.sound
