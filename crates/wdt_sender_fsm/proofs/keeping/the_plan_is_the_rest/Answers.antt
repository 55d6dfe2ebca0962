use Rattle.wdt_sender_fsm.proofs.lemmas.Planned.{plan_is_rest}
use Rattle.wdt_sender_fsm.proofs.keeping.the_plan_is_the_rest.Goals as goal

pub returns : goal.returns
returns c = plan_is_rest
