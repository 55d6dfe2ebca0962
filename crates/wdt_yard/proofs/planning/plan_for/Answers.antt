use Rattle.wdt_sender_fsm.proofs.Shared.{plan_rises, ordered}
use Rattle.wdt_yard.proofs.Plans.{rest_files}
use Rattle.wdt_yard.proofs.planning.plan_for.Goals as goal

pub plan-requires-clause-order : goal.plan-requires-clause-order
plan-requires-clause-order c = ordered c.args.have.now c.requires.order

pub returns-in-Ok-clause-rising : goal.returns-in-Ok-clause-rising
returns-in-Ok-clause-rising c = plan_rises c.in-Ok.blocks.items c.in-Ok.ensures.rest.rising

pub returns-in-Ok-clause-files : goal.returns-in-Ok-clause-files
returns-in-Ok-clause-files c = rest_files c.args.manifest.now c.args.have.now c.args.block c.in-Ok.blocks.items c.in-Ok.ensures.rest
