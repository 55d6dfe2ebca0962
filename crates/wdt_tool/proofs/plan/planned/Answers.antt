use Rattle.std.proofs.Common.{List, sym, subst, ◌∙◌}
use Rattle.wdt_units.specs.declared.blocks.Block.{Block}
use Rattle.wdt_tool.specs.PlanLines.{AreOfTree}
use Rattle.wdt_tool.proofs.Numbered.{rest-files}
use Rattle.wdt_tool.proofs.plan.planned.Goals as goal

pub plan_text-requires-clause-files : goal.plan_text-requires-clause-files
plan_text-requires-clause-files c =
    let is = c.deref.ensures.value ∙ c.in-Ok.ensures.list in
    subst (λ (blocks : List Block). AreOfTree c.args.manifest.now blocks) (sym is) (rest-files c.args.manifest.now c.args.have.now c.args.block)
