-- A plan that is refused, as the end tells it.
use Rattle.std.specs.Prelude.{Option, Some, None}
use Rattle.wdt_discover.specs.declared.fail.PlanFail.{PlanFail}
use Rattle.wdt_discover.specs.declared.fail.PlanFail.TheVariants as plans
use Rattle.wdt_sender_fsm.specs.declared.answers.RefusedKind.{RefusedKind}
use Rattle.wdt_sender_fsm.specs.declared.answers.RefusedKind.TheVariants.{Stale, TooManyBlocks}

-- what a plan that is refused is told as; want of memory is no refusal
abbrev pub refused_as : PlanFail → Option RefusedKind
refused_as (plans.Stale path logged found) = Some (Stale path logged found)
refused_as (plans.TooManyBlocks count) = Some (TooManyBlocks count)
refused_as plans.NoMemory = None
