use Rattle.std.proofs.Common.{subst, sym}
use Rattle.std.proofs.lemmas.List.{length-replicate}
use Rattle.wdt_pact.specs.Finishing.{Finishing}
use Rattle.wdt_pact.specs.Fitting.{AreOfLanes, IsSound}
use Rattle.wdt_pact.specs.World.{PlainWorld, first_pair, first_world}
use Rattle.wdt_pact.proofs.Beginning.{finishing_first, sound_first}
use Rattle.wdt_pact.proofs.Faultless.{all_faultless, faultless_after, none_first}
use Rattle.wdt_pact.proofs.Steps.{stays_sound}
use Rattle.wdt_pact.proofs.Worlds.{finishing_after}
use Rattle.wdt_pact.proofs.laws.a_sender_finds_no_fault.Goals as goal

pub returns-clause-event : goal.returns-clause-event
returns-clause-event c = faultless_after c.histories_are_sound.ensures.sound c.steps_have_outcomes.ensures.comes c.a_sender_speaks_in_turn.ensures.hears (λ first later same. (c.file_lists_are_compared.ensures.same first later).1 same)

pub returns-clause-begun : goal.returns-clause-begun
returns-clause-begun c = λ manifest block session log batch n conn es kind some few lawful stamps have ordered of e.
    none_first kind
    (all_faultless (λ (w : PlainWorld). IsSound w × Finishing w) (λ w good. good)
    (λ w d good within. (stays_sound c.senders_stay_senders.ensures.steps c.steps_have_outcomes.ensures.comes c.steps_touch_their_lane.ensures.touches c.steps_touch_their_lane.ensures.lawful c.steps_answer_rightly.ensures.fits c.histories_are_sound.ensures.sound w d good.0 good.1 within, finishing_after c.histories_are_sound.ensures.sound c.histories_are_sound.ensures.closed c.steps_touch_their_lane.ensures.touches c.steps_have_outcomes.ensures.comes c.steps_have_outcomes.ensures.makes (stays_sound c.senders_stay_senders.ensures.steps c.steps_have_outcomes.ensures.comes c.steps_touch_their_lane.ensures.touches c.steps_touch_their_lane.ensures.lawful c.steps_answer_rightly.ensures.fits c.histories_are_sound.ensures.sound) w d good.0 good.1 within))
    (faultless_after c.histories_are_sound.ensures.sound c.steps_have_outcomes.ensures.comes c.a_sender_speaks_in_turn.ensures.hears (λ first later same. (c.file_lists_are_compared.ensures.same first later).1 same))
    es (first_world manifest block session log batch n conn) kind
    (sound_first manifest block session log batch n conn (c.senders_stay_senders.ensures.opens manifest block session n some) (c.receivers_stay_receivers.ensures.begins log batch n few) lawful stamps have, finishing_first manifest block session log batch n conn some)
    ordered (subst (λ m. AreOfLanes m es) (sym (length-replicate n (first_pair conn))) of) e)
