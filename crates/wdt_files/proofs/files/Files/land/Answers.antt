use Rattle.std.proofs.Common.{◌≡◌, ◌+◌, ◌≤◌, Bool, true, false, map, length, refl, sym, ap, ◌∙◌, subst, arith}
use Rattle.std.specs.Prelude.{if◌then◌else◌, IsSome}
use Rattle.wdt_logfmt.specs.Adding.{all_added}
use Rattle.wdt_logfmt.specs.Batches.{block_entries}
use Rattle.wdt_logfmt.specs.Marks.{is_marked, marked_of}
use Rattle.wdt_logfmt.specs.Spelling.{written_version}
use Rattle.wdt_ranges.specs.Files.{have_file}
use Rattle.wdt_files.specs.declared.slots.Slot.{Slot}
use Rattle.wdt_files.specs.PlainFiles.{PlainFiles}
use Rattle.wdt_files.specs.Slots.{HasRoom, have_in, named_from, slot_at}
use Rattle.wdt_files.proofs.InSlots.{marked_slot}
use Rattle.wdt_files.proofs.Kept.{bytes_few, named_few, slot_spans, spans_few}
use Rattle.wdt_files.proofs.Landed.{if_some, landed_kept, landed_lawful, landed_view, lands}
use Rattle.wdt_files.proofs.Marks.{spans_summed}
use Rattle.wdt_files.proofs.files.Files.land.Goals as goal

pub land-requires-clause-room : goal.land-requires-clause-room
land-requires-clause-room c =
    let can = subst (λ (f : PlainFiles). IsSome (all_added written_version f.named (block_entries f.known f.named c.args.block))) (sym c.self.view_is) c.requires.can in
    if_some (slot_at c.self.inside.slots.items c.args.block.file) (λ (s : Slot). HasRoom c.args.block (have_file s.file))
    (λ s there. (lands c.self.inside.slots.items c.args.block s there c.self.invariant.bare c.self.invariant.lawful can).room)

pub land-requires-clause-within : goal.land-requires-clause-within
land-requires-clause-within c =
    if_some (slot_at c.self.inside.slots.items c.args.block.file) (λ (s : Slot). length s.file.spans ≤ c.self.inside.spans)
    (λ s there. omega (arith, slot_spans c.self.inside.slots.items c.self.invariant.lawful c.self.invariant.bare c.args.block.file s there, c.self.invariant.spans_counted, spans_summed (named_from 0 (map have_in c.self.inside.slots.items))))

pub land-requires-clause-few : goal.land-requires-clause-few
land-requires-clause-few c = spans_few c.self.inside.slots.items _ _ _ _ _ _ c.self.invariant

pub overflow_add-self : goal.overflow_add-self
overflow_add-self c =
    let can = subst (λ (f : PlainFiles). IsSome (all_added written_version f.named (block_entries f.known f.named c.args.block))) (sym c.self.view_is) c.requires.can in
    let kept = landed_kept c.self.inside.slots.items c.land.new.slots.items c.args.block c.in_ok-self-inside.ensures.landed _ _ _ _ _ _ c.self.invariant can c.in_ok-self-inside.field-0 (c.self.inside.named + (if c.in_ok-self-inside.ensures.landed.before.is_named then 0 else 1)) c.in_ok-self-inside.ensures.spans refl in
    omega (arith, bytes_few c.land.new.slots.items _ _ _ _ _ _ kept)

pub overflow_add-self-then-not-was_named : goal.overflow_add-self-then-not-was_named
overflow_add-self-then-not-was_named c = omega (arith, named_few c.self.inside.slots.items _ _ _ _ _ _ c.self.invariant)

pub invariant_of-self-then-not-was_named : goal.invariant_of-self-then-not-was_named
invariant_of-self-then-not-was_named c =
    let can = subst (λ (f : PlainFiles). IsSome (all_added written_version f.named (block_entries f.known f.named c.args.block))) (sym c.self.view_is) c.requires.can in
    let landed = c.in_ok-self-inside.ensures.landed in
    let was : landed.before.is_named ≡ false =
    marked_slot c.self.inside.slots.items c.args.block.file landed.before landed.there ∙ ap (λ (f : PlainFiles). is_marked (map marked_of f.named) c.args.block.file) c.self.view_is ∙ sym c.is_named-was_named.ensures ∙ c.if-not-was_named.true in
    landed_kept c.self.inside.slots.items c.land.new.slots.items c.args.block landed _ _ _ _ _ _ c.self.invariant can c.in_ok-self-inside.field-0 (c.self.inside.named + 1) c.in_ok-self-inside.ensures.spans
    (ap (λ (b : Bool). c.self.inside.named + (if b then 0 else 1)) (sym was))

pub invariant_of-self-else-not-was_named : goal.invariant_of-self-else-not-was_named
invariant_of-self-else-not-was_named c =
    let can = subst (λ (f : PlainFiles). IsSome (all_added written_version f.named (block_entries f.known f.named c.args.block))) (sym c.self.view_is) c.requires.can in
    let landed = c.in_ok-self-inside.ensures.landed in
    let was : landed.before.is_named ≡ true =
    marked_slot c.self.inside.slots.items c.args.block.file landed.before landed.there ∙ ap (λ (f : PlainFiles). is_marked (map marked_of f.named) c.args.block.file) c.self.view_is ∙ sym c.is_named-was_named.ensures ∙ c.if-not-was_named.false in
    let same : c.self.inside.named ≡ c.self.inside.named + 0 = omega arith in
    landed_kept c.self.inside.slots.items c.land.new.slots.items c.args.block landed _ _ _ _ _ _ c.self.invariant can c.in_ok-self-inside.field-0 c.self.inside.named c.in_ok-self-inside.ensures.spans
    (same ∙ ap (λ (b : Bool). c.self.inside.named + (if b then 0 else 1)) (sym was))

pub returns-then-not-was_named-clause-landed : goal.returns-then-not-was_named-clause-landed
returns-then-not-was_named-clause-landed c =
    let can = subst (λ (f : PlainFiles). IsSome (all_added written_version f.named (block_entries f.known f.named c.args.block))) (sym c.self.view_is) c.requires.can in
    landed_view c.self.inside.slots.items c.land.new.slots.items c.args.block c.in_ok-self-inside.ensures.landed _ _ _ _ _ _ c.self.invariant can c.args.self.now c.self.view_is

pub returns-then-not-was_named-clause-sound : goal.returns-then-not-was_named-clause-sound
returns-then-not-was_named-clause-sound c =
    let can = subst (λ (f : PlainFiles). IsSome (all_added written_version f.named (block_entries f.known f.named c.args.block))) (sym c.self.view_is) c.requires.can in
    landed_lawful c.self.inside.slots.items c.land.new.slots.items c.args.block c.in_ok-self-inside.ensures.landed _ _ _ _ _ _ c.self.invariant can

pub returns-else-not-was_named-clause-landed : goal.returns-else-not-was_named-clause-landed
returns-else-not-was_named-clause-landed c =
    let can = subst (λ (f : PlainFiles). IsSome (all_added written_version f.named (block_entries f.known f.named c.args.block))) (sym c.self.view_is) c.requires.can in
    landed_view c.self.inside.slots.items c.land.new.slots.items c.args.block c.in_ok-self-inside.ensures.landed _ _ _ _ _ _ c.self.invariant can c.args.self.now c.self.view_is

pub returns-else-not-was_named-clause-sound : goal.returns-else-not-was_named-clause-sound
returns-else-not-was_named-clause-sound c =
    let can = subst (λ (f : PlainFiles). IsSome (all_added written_version f.named (block_entries f.known f.named c.args.block))) (sym c.self.view_is) c.requires.can in
    landed_lawful c.self.inside.slots.items c.land.new.slots.items c.args.block c.in_ok-self-inside.ensures.landed _ _ _ _ _ _ c.self.invariant can
