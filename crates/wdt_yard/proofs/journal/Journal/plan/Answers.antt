use Rattle.std.proofs.Common.{◌≡◌, List, Option, None, ap, ◌∙◌, subst}
use Rattle.wdt_yard.specs.Ledger.{Ledger}
use Rattle.std.specs.Prelude.{vec_items}
use Rattle.std.specs.Option.{option_map}
use Rattle.wdt_units.specs.declared.blocks.Block.{Block}
use Rattle.wdt_sender_fsm.specs.PlainSender.{listed_blocks}
use Rattle.wdt_yard.specs.Kept.{IsKept}
use Rattle.wdt_yard.proofs.Keeps.{plan_keeps}
use Rattle.wdt_yard.proofs.journal.Journal.plan.Goals as goal

pub invariant_of-self : goal.invariant_of-self
invariant_of-self c =
    let none : option_map vec_items c.self.inside.planned ≡ None = ap (λ (j : Ledger). j.planned) c.self.view_is ∙ c.requires.unplanned in
    plan_keeps c.args.blocks.items c.args.queue
    (subst (λ (o : Option (List Block)). IsKept c.self.inside.tallies.items (listed_blocks o) c.self.inside.queue c.self.inside.claims.lanes c.self.inside.has_finish c.self.inside.events.items) none c.self.invariant)
    c.requires.rising c.requires.waiting c.requires.same c.requires.full
