use Rattle.std.proofs.Common.{inl, inr}
use Rattle.wdt_pact.specs.World.{Sends}
use Rattle.wdt_pact.proofs.Settling.{cut_most, recv_step, send_step}
use Rattle.wdt_pact.proofs.Steps.{stays_sound}
use Rattle.wdt_pact.proofs.Worlds.{finishing_after}
use Rattle.wdt_pact.proofs.laws.every_step_leaves_less_to_do.Goals as goal

pub returns-clause-sends : goal.returns-clause-sends
returns-clause-sends c = λ w l lost s f within.
    let sound = stays_sound c.senders_stay_senders.ensures.steps c.steps_have_outcomes.ensures.comes c.steps_touch_their_lane.ensures.touches c.steps_touch_their_lane.ensures.lawful c.steps_answer_rightly.ensures.fits c.histories_are_sound.ensures.sound in
    let ending = finishing_after c.histories_are_sound.ensures.sound c.histories_are_sound.ensures.closed c.steps_touch_their_lane.ensures.touches c.steps_have_outcomes.ensures.comes c.steps_have_outcomes.ensures.makes sound in
    elim (send_step c.steps_have_outcomes.ensures.comes c.steps_touch_their_lane.ensures.touches c.blocks_keep_their_places.ensures.places w l lost s f within (sound w (Sends l lost) s f within) (ending w (Sends l lost) s f within)) [
      | inl less ↦ inr less
      | inr still ↦ inl still.1
    ]

pub returns-clause-receives : goal.returns-clause-receives
returns-clause-receives c = λ w l broken s within. elim (recv_step w l broken s within) [ inl less ↦ inr less | inr still ↦ inl still.2 ]

pub returns-clause-cut : goal.returns-clause-cut
returns-clause-cut c = cut_most
