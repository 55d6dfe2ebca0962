use Rattle.wdt_pact.proofs.Steps.{stays_sound}
use Rattle.wdt_pact.proofs.Worlds.{all_begun, is_right, lanes_begun}
use Rattle.wdt_pact.proofs.laws.nothing_goes_wrong.Goals as goal

pub returns-clause-lane : goal.returns-clause-lane
returns-clause-lane c = is_right c.histories_are_sound.ensures.sound c.a_sender_speaks_in_turn.ensures.hears

pub returns-clause-begun : goal.returns-clause-begun
returns-clause-begun c = λ manifest block session log batch n conn es l some few lawful stamps have of within.
    let x =
    all_begun c.histories_are_sound.ensures.sound c.histories_are_sound.ensures.closed c.steps_touch_their_lane.ensures.touches c.steps_have_outcomes.ensures.comes c.steps_have_outcomes.ensures.makes
    (stays_sound c.senders_stay_senders.ensures.steps c.steps_have_outcomes.ensures.comes c.steps_touch_their_lane.ensures.touches c.steps_touch_their_lane.ensures.lawful c.steps_answer_rightly.ensures.fits c.histories_are_sound.ensures.sound)
    c.senders_stay_senders.ensures.opens c.receivers_stay_receivers.ensures.begins manifest block session log batch n conn es some few lawful stamps have of in
    is_right c.histories_are_sound.ensures.sound c.a_sender_speaks_in_turn.ensures.hears _ l x.0 x.1 (lanes_begun manifest block session log batch n conn es l within)
