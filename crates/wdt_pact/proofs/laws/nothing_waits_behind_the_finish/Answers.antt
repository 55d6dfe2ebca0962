use Rattle.wdt_pact.proofs.Emptying.{empty_after, planned_after}
use Rattle.wdt_pact.proofs.Planning.{sized_after, tells_after}
use Rattle.wdt_pact.proofs.laws.nothing_waits_behind_the_finish.Goals as goal

pub returns-clause-empty : goal.returns-clause-empty
returns-clause-empty c = empty_after c.histories_are_sound.ensures.sound c.steps_touch_their_lane.ensures.touches c.steps_have_outcomes.ensures.comes

pub returns-clause-planned : goal.returns-clause-planned
returns-clause-planned c = planned_after c.histories_are_sound.ensures.sound c.steps_touch_their_lane.ensures.touches c.steps_have_outcomes.ensures.comes

pub returns-clause-told : goal.returns-clause-told
returns-clause-told c = λ w e l sound finishing within small. tells_after c.steps_touch_their_lane.ensures.touches c.steps_have_outcomes.ensures.comes w e sound finishing within l small

pub returns-clause-sized : goal.returns-clause-sized
returns-clause-sized c = sized_after c.steps_touch_their_lane.ensures.touches c.steps_have_outcomes.ensures.comes
