use Rattle.wdt_pact.proofs.SendLaw.{send_belongs, send_keeps}
use Rattle.wdt_pact.proofs.laws.a_sender_keeps_the_conversation.Goals as goal

pub returns-clause-talks : goal.returns-clause-talks
returns-clause-talks c = λ w l lost talk finishing within belongs. send_keeps c.senders_stay_senders.ensures.steps c.steps_have_outcomes.ensures.comes w l lost talk finishing.empty within belongs

pub returns-clause-belongs : goal.returns-clause-belongs
returns-clause-belongs c = λ w l k lost talk within all. send_belongs c.steps_have_outcomes.ensures.comes c.steps_touch_their_lane.ensures.touches w l lost talk within all k
