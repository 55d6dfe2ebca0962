use Rattle.wdt_sender_fsm.proofs.lemmas.Worked.{greeted_wrongly, greeted_rightly, finished_early, finished_before_a_plan, took_over}
use Rattle.wdt_sender_fsm.proofs.laws.worked_steps.Goals as goal

pub returns-clause-greeted_wrongly : goal.returns-clause-greeted_wrongly
returns-clause-greeted_wrongly c = greeted_wrongly

pub returns-clause-greeted_rightly : goal.returns-clause-greeted_rightly
returns-clause-greeted_rightly c = greeted_rightly

pub returns-clause-finished_early : goal.returns-clause-finished_early
returns-clause-finished_early c = finished_early

pub returns-clause-finished_before_a_plan : goal.returns-clause-finished_before_a_plan
returns-clause-finished_before_a_plan c = finished_before_a_plan

pub returns-clause-took_over : goal.returns-clause-took_over
returns-clause-took_over c = took_over
