use Rattle.std.proofs.Common.{List, Option, sym, ap, ◌∙◌}
use Rattle.wdt_units.specs.Have.{PlainSpan}
use Rattle.wdt_ranges.specs.Spans.{plain_span}
use Rattle.wdt_logfmt.specs.Beginning.{first_shared}
use Rattle.wdt_files.specs.declared.slots.Slot.{Slot}
use Rattle.wdt_files.specs.Slots.{slot_at, spans_by}
use Rattle.wdt_files.proofs.Kept.{apart_slot, there_in}
use Rattle.wdt_files.proofs.Marks.{first_found}
use Rattle.wdt_files.proofs.files.Files.first_shared.Goals as goal

pub returns-in-Some : goal.returns-in-Some
returns-in-Some c =
    let there = sym (c.in-Some.ensures ∙ ap (λ (ss : List (Option Slot)). slot_at ss c.args.number) c.deref.ensures.value) in
    first_found c.in-Some.slot.now.file.spans (plain_span c.args.span) c.first_shared.result c.requires (apart_slot c.self.inside.slots.items c.self.invariant.lawful c.self.invariant.bare c.args.number c.in-Some.slot.now there)
    c.first_shared.ensures.first c.first_shared.ensures.none
    ∙ ap (λ (ss : List PlainSpan). first_shared ss (plain_span c.args.span)) (sym (there_in c.self.inside.slots.items _ _ _ _ _ _ c.self.invariant c.args.self.now c.args.number c.self.view_is ∙ ap spans_by there))

pub returns-in-None : goal.returns-in-None
returns-in-None c =
    let there = sym (c.in-None.ensures ∙ ap (λ (ss : List (Option Slot)). slot_at ss c.args.number) c.deref.ensures.value) in
    ap (λ (ss : List PlainSpan). first_shared ss (plain_span c.args.span)) (sym (there_in c.self.inside.slots.items _ _ _ _ _ _ c.self.invariant c.args.self.now c.args.number c.self.view_is ∙ ap spans_by there))
