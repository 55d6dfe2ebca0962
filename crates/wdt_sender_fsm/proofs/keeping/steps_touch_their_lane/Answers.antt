use Rattle.wdt_sender_fsm.proofs.lemmas.Lawful.{turn_lawful}
use Rattle.wdt_sender_fsm.proofs.lemmas.Touching.{turn_touches}
use Rattle.wdt_sender_fsm.proofs.keeping.steps_touch_their_lane.Goals as goal

pub returns-clause-touches : goal.returns-clause-touches
returns-clause-touches c = turn_touches

pub returns-clause-lawful : goal.returns-clause-lawful
returns-clause-lawful c = turn_lawful
