use Rattle.wdt_sender_fsm.proofs.lemmas.HeldActs.{answers_belong, turn_acts, turn_leaves_acts}
use Rattle.wdt_sender_fsm.proofs.keeping.acts_follow_from_lanes.Goals as goal

pub returns-clause-own : goal.returns-clause-own
returns-clause-own c = turn_acts

pub returns-clause-others : goal.returns-clause-others
returns-clause-others c = turn_leaves_acts

pub returns-clause-answers : goal.returns-clause-answers
returns-clause-answers c = answers_belong
