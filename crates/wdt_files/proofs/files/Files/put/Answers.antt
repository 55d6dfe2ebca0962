use Rattle.std.proofs.Common.{◌+◌, List, Option, false, map, length, sym, ap, ◌∙◌, subst, arith, refl}
use Rattle.wdt_units.specs.Path.{is_lawful}
use Rattle.wdt_logfmt.specs.Beginning.{free_number, known_count, number_of}
use Rattle.wdt_files.specs.declared.slots.Slot.{Slot}
use Rattle.wdt_files.specs.PlainFiles.{AreLawful, PlainFiles}
use Rattle.wdt_files.specs.Slots.{IsKept, filled, known_in, number_in, plain_files}
use Rattle.wdt_files.proofs.Kept.{few_slots, filled_free, filled_kept, filled_lawful, filled_view, free_few}
use Rattle.wdt_files.proofs.files.Files.put.Goals as goal

pub overflow_add-number : goal.overflow_add-number
overflow_add-number c = omega (arith, free_few c.self.inside.slots.items _ _ _ _ _ _ c.self.invariant)

pub next_free-self-inside-requires-clause-below : goal.next_free-self-inside-requires-clause-below
next_free-self-inside-requires-clause-below c =
    let s : Slot = record { file = record { path = c.args.path; size = c.args.size; stamp = c.args.stamp; spans = c.none.result }; is_named = false } in
    let is = c.deref.ensures.value ∙ c.fill.ensures ∙ ap (λ (ss : List (Option Slot)). filled ss s) c.in_ok-make_room.ensures.same in
    omega (arith, filled_free c.self.inside.slots.items _ _ _ _ _ _ c.self.invariant s refl c.none.ensures, ap (λ (ss : List (Option Slot)). free_number (map known_in ss)) is)

pub next_free-self-inside-requires-clause-few : goal.next_free-self-inside-requires-clause-few
next_free-self-inside-requires-clause-few c =
    let s : Slot = record { file = record { path = c.args.path; size = c.args.size; stamp = c.args.stamp; spans = c.none.result }; is_named = false } in
    let is = c.deref.ensures.value ∙ c.fill.ensures ∙ ap (λ (ss : List (Option Slot)). filled ss s) c.in_ok-make_room.ensures.same in
    let lawful = filled_lawful c.self.inside.slots.items _ _ _ _ _ _ c.self.invariant s refl c.none.ensures
    (ap (λ (f : PlainFiles). number_of f.known c.args.path) c.self.view_is ∙ c.requires.new)
    (sym (ap is_lawful c.path.view_is) ∙ c.path.invariant) c.requires.free c.requires.small
    (omega (arith, c.requires.few, ap (λ (f : PlainFiles). known_count f.known) c.self.view_is)) in
    omega (arith, few_slots (filled c.self.inside.slots.items s) lawful, ap length is)

pub invariant_of-self-2 : goal.invariant_of-self-2
invariant_of-self-2 c =
    let s : Slot = record { file = record { path = c.args.path; size = c.args.size; stamp = c.args.stamp; spans = c.none.result }; is_named = false } in
    let is = c.fill.ensures ∙ ap (λ (ss : List (Option Slot)). filled ss s) c.in_ok-make_room.ensures.same in
    subst (λ (ss : List (Option Slot)). IsKept ss (number_in c.set_number.new.numbers) c.next_free-self-inside.result (c.self.inside.known + 1) c.self.inside.named c.self.inside.spans c.self.inside.bytes) (sym is)
    (filled_kept c.self.inside.slots.items _ _ _ _ _ _ c.self.invariant s refl c.none.ensures
    (ap (λ (f : PlainFiles). number_of f.known c.args.path) c.self.view_is ∙ c.requires.new)
    (sym (ap is_lawful c.path.view_is) ∙ c.path.invariant) c.requires.free c.requires.small
    (omega (arith, c.requires.few, ap (λ (f : PlainFiles). known_count f.known) c.self.view_is))
    (number_in c.set_number.new.numbers) c.next_free-self-inside.result c.in_ok-set_number.ensures.set
    (c.next_free-self-inside.ensures ∙ ap (λ (ss : List (Option Slot)). free_number (map known_in ss)) (c.deref.ensures.value ∙ is)))

pub returns-clause-known : goal.returns-clause-known
returns-clause-known c =
    let s : Slot = record { file = record { path = c.args.path; size = c.args.size; stamp = c.args.stamp; spans = c.none.result }; is_named = false } in
    let is = c.fill.ensures ∙ ap (λ (ss : List (Option Slot)). filled ss s) c.in_ok-make_room.ensures.same in
    ap plain_files is ∙ filled_view c.self.inside.slots.items _ _ _ _ _ _ c.self.invariant s refl c.none.ensures c.args.self.now c.self.view_is

pub returns-clause-sound : goal.returns-clause-sound
returns-clause-sound c =
    let s : Slot = record { file = record { path = c.args.path; size = c.args.size; stamp = c.args.stamp; spans = c.none.result }; is_named = false } in
    let is = c.fill.ensures ∙ ap (λ (ss : List (Option Slot)). filled ss s) c.in_ok-make_room.ensures.same in
    subst (λ (ss : List (Option Slot)). AreLawful (plain_files ss)) (sym is)
    (filled_lawful c.self.inside.slots.items _ _ _ _ _ _ c.self.invariant s refl c.none.ensures
    (ap (λ (f : PlainFiles). number_of f.known c.args.path) c.self.view_is ∙ c.requires.new)
    (sym (ap is_lawful c.path.view_is) ∙ c.path.invariant) c.requires.free c.requires.small
    (omega (arith, c.requires.few, ap (λ (f : PlainFiles). known_count f.known) c.self.view_is)))
