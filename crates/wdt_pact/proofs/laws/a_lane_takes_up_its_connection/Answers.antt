use Rattle.wdt_pact.proofs.Greeting.{greeting_keeps}
use Rattle.wdt_pact.proofs.Sending.{linked_keeps, settings_keeps}
use Rattle.wdt_pact.proofs.laws.a_lane_takes_up_its_connection.Goals as goal

pub returns-clause-linked : goal.returns-clause-linked
returns-clause-linked c = linked_keeps c.senders_stay_senders.ensures.steps

pub returns-clause-settings : goal.returns-clause-settings
returns-clause-settings c = settings_keeps c.senders_stay_senders.ensures.steps

pub returns-clause-greeted : goal.returns-clause-greeted
returns-clause-greeted c = greeting_keeps c.senders_stay_senders.ensures.steps
