use Rattle.wdt_pact.proofs.Steps.{stays_sound}
use Rattle.wdt_pact.proofs.Worlds.{all_after, all_begun, finishing_after}
use Rattle.wdt_pact.proofs.laws.worlds_stay_sound.Goals as goal

pub returns-clause-event : goal.returns-clause-event
returns-clause-event c =
    finishing_after c.histories_are_sound.ensures.sound c.histories_are_sound.ensures.closed c.steps_touch_their_lane.ensures.touches c.steps_have_outcomes.ensures.comes c.steps_have_outcomes.ensures.makes
    (stays_sound c.senders_stay_senders.ensures.steps c.steps_have_outcomes.ensures.comes c.steps_touch_their_lane.ensures.touches c.steps_touch_their_lane.ensures.lawful c.steps_answer_rightly.ensures.fits c.histories_are_sound.ensures.sound)

pub returns-clause-events : goal.returns-clause-events
returns-clause-events c = λ w es.
    all_after c.histories_are_sound.ensures.sound c.histories_are_sound.ensures.closed c.steps_touch_their_lane.ensures.touches c.steps_have_outcomes.ensures.comes c.steps_have_outcomes.ensures.makes
    (stays_sound c.senders_stay_senders.ensures.steps c.steps_have_outcomes.ensures.comes c.steps_touch_their_lane.ensures.touches c.steps_touch_their_lane.ensures.lawful c.steps_answer_rightly.ensures.fits c.histories_are_sound.ensures.sound) es w

pub returns-clause-begun : goal.returns-clause-begun
returns-clause-begun c =
    all_begun c.histories_are_sound.ensures.sound c.histories_are_sound.ensures.closed c.steps_touch_their_lane.ensures.touches c.steps_have_outcomes.ensures.comes c.steps_have_outcomes.ensures.makes
    (stays_sound c.senders_stay_senders.ensures.steps c.steps_have_outcomes.ensures.comes c.steps_touch_their_lane.ensures.touches c.steps_touch_their_lane.ensures.lawful c.steps_answer_rightly.ensures.fits c.histories_are_sound.ensures.sound)
    c.senders_stay_senders.ensures.opens c.receivers_stay_receivers.ensures.begins
