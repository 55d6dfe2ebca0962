use Rattle.std.proofs.Common.{ap, ◌∙◌, arith, map}
use Rattle.std.specs.Prelude.{not}
use Rattle.std.proofs.lemmas.List.{length-map}
use Rattle.wdt_files.specs.Slots.{known_in}
use Rattle.wdt_files.proofs.InSlots.{free_here, full_here}
use Rattle.wdt_files.proofs.Known.{free_within}
use Rattle.wdt_files.proofs.slots.next_free.Goals as goal

pub returns-then-is_none : goal.returns-then-is_none
returns-then-is_none c =
    free_here c.args.slots.now c.loop-number.number c.index-slots-number.result (omega arith) c.index-slots-number.is (c.is_none.ensures ∙ ap not c.if-is_none.true) c.loop-number.invariant

pub loop-number-preserved : goal.loop-number-preserved
loop-number-preserved c =
    full_here c.args.slots.now c.loop-number.number c.index-slots-number.result (omega arith) c.index-slots-number.is (c.is_none.ensures ∙ ap not c.if-is_none.false) c.loop-number.invariant

pub returns : goal.returns
returns c = omega (arith, c.loop-number.invariant, free_within (map known_in c.args.slots.now), length-map c.args.slots.now known_in)
