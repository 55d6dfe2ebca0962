use Rattle.wdt_pact.proofs.Meeting.{meeting_after, meeting_first}
use Rattle.wdt_pact.proofs.laws.the_ends_have_met.Goals as goal

pub returns-clause-event : goal.returns-clause-event
returns-clause-event c = meeting_after c.steps_touch_their_lane.ensures.touches c.steps_have_outcomes.ensures.comes c.steps_answer_rightly.ensures.fits

pub returns-clause-begins : goal.returns-clause-begins
returns-clause-begins c = meeting_first
