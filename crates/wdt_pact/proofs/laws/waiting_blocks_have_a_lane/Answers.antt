use Rattle.wdt_pact.proofs.Confirming.{confirmed_after}
use Rattle.wdt_pact.proofs.Steps.{stays_sound}
use Rattle.wdt_pact.proofs.TellingAll.{tellings_after}
use Rattle.wdt_pact.proofs.Witnessing.{witness_after}
use Rattle.wdt_pact.proofs.laws.waiting_blocks_have_a_lane.Goals as goal

pub returns : goal.returns
returns c = λ w e sound finishing within.
    witness_after c.histories_are_sound.ensures.sound c.steps_have_outcomes.ensures.comes w e sound finishing within
    (stays_sound c.senders_stay_senders.ensures.steps c.steps_have_outcomes.ensures.comes c.steps_touch_their_lane.ensures.touches c.steps_touch_their_lane.ensures.lawful c.steps_answer_rightly.ensures.fits c.histories_are_sound.ensures.sound w e sound finishing within)
    (tellings_after c.histories_are_sound.ensures.closed c.steps_touch_their_lane.ensures.touches c.steps_have_outcomes.ensures.comes w e sound finishing within)
    (confirmed_after c.histories_are_sound.ensures.sound c.histories_are_sound.ensures.closed c.steps_touch_their_lane.ensures.touches w e sound finishing within)
