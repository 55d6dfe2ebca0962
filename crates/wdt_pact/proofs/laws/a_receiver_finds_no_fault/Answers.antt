use Rattle.std.proofs.Common.{◌≡◌, true, ap, ◌∙◌, subst, sym}
use Rattle.wdt_logfmt.specs.View.{is_view}
use Rattle.std.proofs.lemmas.List.{length-replicate}
use Rattle.wdt_pact.specs.Finishing.{Finishing}
use Rattle.wdt_pact.specs.Fitting.{AreOfLanes, IsSound}
use Rattle.wdt_pact.specs.Meeting.{Meeting}
use Rattle.wdt_pact.specs.World.{PlainWorld, first_pair, first_world}
use Rattle.wdt_pact.proofs.Beginning.{finishing_first, sound_first}
use Rattle.wdt_pact.proofs.Fair.{all_fair, fair_after, fair_first, opening_after}
use Rattle.wdt_pact.proofs.Meeting.{meeting_after, meeting_first}
use Rattle.wdt_pact.proofs.Steps.{stays_sound}
use Rattle.wdt_pact.proofs.Worlds.{finishing_after}
use Rattle.wdt_pact.proofs.laws.a_receiver_finds_no_fault.Goals as goal

pub returns-clause-event : goal.returns-clause-event
returns-clause-event c = fair_after c.blocks_are_apart.ensures.positions c.blocks_are_apart.ensures.planned c.blocks_are_apart.ensures.once c.blocks_are_apart.ensures.by_one c.blocks_are_apart.ensures.empties c.the_plan_is_the_rest.ensures c.histories_are_sound.ensures.sound c.blocks_keep_their_places.ensures.places (λ files e. (c.file_lists_are_compared.ensures.ordered files).0 e)

pub returns-clause-begun : goal.returns-clause-begun
returns-clause-begun c = λ manifest block session log batch n conn es kind some few lawful stamps have view of e.
    let sound = stays_sound c.senders_stay_senders.ensures.steps c.steps_have_outcomes.ensures.comes c.steps_touch_their_lane.ensures.touches c.steps_touch_their_lane.ensures.lawful c.steps_answer_rightly.ensures.fits c.histories_are_sound.ensures.sound in
    let ending = finishing_after c.histories_are_sound.ensures.sound c.histories_are_sound.ensures.closed c.steps_touch_their_lane.ensures.touches c.steps_have_outcomes.ensures.comes c.steps_have_outcomes.ensures.makes sound in
    let met = meeting_after c.steps_touch_their_lane.ensures.touches c.steps_have_outcomes.ensures.comes c.steps_answer_rightly.ensures.fits in
    fair_first kind
    (all_fair (λ (w : PlainWorld). IsSound w × Finishing w × Meeting w × (is_view w.receiver.opening ≡ true))
    (λ w d good within. (sound w d good.0 good.1 within, ending w d good.0 good.1 within, met w d good.0 good.2 within, ap is_view (opening_after w d) ∙ good.3))
    (λ w d k good within at. fair_after c.blocks_are_apart.ensures.positions c.blocks_are_apart.ensures.planned c.blocks_are_apart.ensures.once c.blocks_are_apart.ensures.by_one c.blocks_are_apart.ensures.empties c.the_plan_is_the_rest.ensures c.histories_are_sound.ensures.sound c.blocks_keep_their_places.ensures.places (λ files e. (c.file_lists_are_compared.ensures.ordered files).0 e) w d k good.0 good.1 good.2 good.3 within at)
    es (first_world manifest block session log batch n conn) kind
    (sound_first manifest block session log batch n conn (c.senders_stay_senders.ensures.opens manifest block session n some) (c.receivers_stay_receivers.ensures.begins log batch n few) lawful stamps have, finishing_first manifest block session log batch n conn some, meeting_first manifest block session log batch n conn, view)
    (subst (λ m. AreOfLanes m es) (sym (length-replicate n (first_pair conn))) of) e)
