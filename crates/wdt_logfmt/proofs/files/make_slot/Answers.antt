use Rattle.std.proofs.Common.{◌≡◌, ◌+◌, ◌∷◌, [], None, ◌∙◌, ap, arith, length, length-append}
use Rattle.wdt_logfmt.specs.Slots.{files_in}
use Rattle.wdt_logfmt.proofs.Slots.{files_in_more}
use Rattle.wdt_logfmt.proofs.files.make_slot.Goals as goal

pub loop-preserved : goal.loop-preserved
loop-preserved c =
    let more : length c.push.new.items.items ≡ length c.loop.slots.items + 1 = ap length c.in_ok-push.ensures ∙ omega (arith, length-append c.loop.slots.items (None ∷ [])) in
    record {
      same = ap (files_in 0) c.in_ok-push.ensures ∙ files_in_more c.loop.slots.items 0 ∙ c.loop.invariant.same;
      count = omega arith;
      few = omega arith;
    }
