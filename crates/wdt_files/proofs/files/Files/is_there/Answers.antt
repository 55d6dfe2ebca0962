use Rattle.std.proofs.Common.{List, Option, sym, ap, ◌∙◌}
use Rattle.wdt_units.specs.Have.{PlainSpan}
use Rattle.wdt_ranges.specs.Spans.{has}
use Rattle.wdt_files.specs.declared.slots.Slot.{Slot}
use Rattle.wdt_files.specs.Slots.{slot_at, spans_by}
use Rattle.wdt_files.proofs.Kept.{apart_slot, there_in}
use Rattle.wdt_files.proofs.files.Files.is_there.Goals as goal

pub contains-requires : goal.contains-requires
contains-requires c =
    let there = sym (c.in-Some.ensures ∙ ap (λ (ss : List (Option Slot)). slot_at ss c.args.number) c.deref.ensures.value) in
    apart_slot c.self.inside.slots.items c.self.invariant.lawful c.self.invariant.bare c.args.number c.in-Some.slot.now there

pub returns-in-Some : goal.returns-in-Some
returns-in-Some c =
    let there = sym (c.in-Some.ensures ∙ ap (λ (ss : List (Option Slot)). slot_at ss c.args.number) c.deref.ensures.value) in
    c.contains.ensures ∙ ap (λ (ss : List PlainSpan). has ss c.args.position) (sym (there_in c.self.inside.slots.items _ _ _ _ _ _ c.self.invariant c.args.self.now c.args.number c.self.view_is ∙ ap spans_by there))

pub returns-in-None : goal.returns-in-None
returns-in-None c =
    let there = sym (c.in-None.ensures ∙ ap (λ (ss : List (Option Slot)). slot_at ss c.args.number) c.deref.ensures.value) in
    ap (λ (ss : List PlainSpan). has ss c.args.position) (sym (there_in c.self.inside.slots.items _ _ _ _ _ _ c.self.invariant c.args.self.now c.args.number c.self.view_is ∙ ap spans_by there))
