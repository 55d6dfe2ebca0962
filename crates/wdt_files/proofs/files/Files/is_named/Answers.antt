use Rattle.std.proofs.Common.{List, Option, map, sym, ap, ◌∙◌}
use Rattle.wdt_logfmt.specs.Marks.{is_marked, marked_of}
use Rattle.wdt_files.specs.declared.slots.Slot.{Slot}
use Rattle.wdt_files.specs.PlainFiles.{PlainFiles}
use Rattle.wdt_files.specs.Slots.{slot_at}
use Rattle.wdt_files.proofs.InSlots.{marked_free, marked_slot}
use Rattle.wdt_files.proofs.files.Files.is_named.Goals as goal

pub returns-in-Some : goal.returns-in-Some
returns-in-Some c =
    marked_slot c.self.inside.slots.items c.args.number c.in-Some.slot.now (sym (c.in-Some.ensures ∙ ap (λ (ss : List (Option Slot)). slot_at ss c.args.number) c.deref.ensures.value))
    ∙ ap (λ (f : PlainFiles). is_marked (map marked_of f.named) c.args.number) c.self.view_is

pub returns-in-None : goal.returns-in-None
returns-in-None c =
    sym (marked_free c.self.inside.slots.items c.args.number (sym (c.in-None.ensures ∙ ap (λ (ss : List (Option Slot)). slot_at ss c.args.number) c.deref.ensures.value)))
    ∙ ap (λ (f : PlainFiles). is_marked (map marked_of f.named) c.args.number) c.self.view_is
