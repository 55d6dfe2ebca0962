use Rattle.std.proofs.Common.{◌++◌, ◌∷◌, [], Some, arith, ap, ◌∙◌}
use Rattle.std.specs.Prelude.{if◌then◌else◌, is_ok}
use Rattle.wdt_files.proofs.InSlots.{filled_at, filled_end}
use Rattle.wdt_files.proofs.slots.fill.Goals as goal

pub returns-then-number-len : goal.returns-then-number-len
returns-then-number-len c =
    c.push.ensures.items ∙ ap (λ r. if is_ok r then c.args.slots.now.items ++ Some c.args.slot ∷ [] else c.args.slots.now.items) c.unwrap.ensures
    ∙ filled_end c.args.slots.now.items 0 c.args.number c.args.slot (omega (arith, c.requires.free)) (omega arith)

pub returns-else-number-len : goal.returns-else-number-len
returns-else-number-len c = filled_at c.args.slots.now.items 0 c.args.number c.args.slot (omega (arith, c.requires.free)) (omega arith)
