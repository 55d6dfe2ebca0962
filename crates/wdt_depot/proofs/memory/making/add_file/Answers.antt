use Rattle.std.proofs.Common.{◌≡◌, ◌∙◌, refl, map, ◌++◌, ◌∷◌, ap, sym, arith, List, ℕ, Option, Some, [], length, suc, length-append}
use Rattle.std.proofs.lemmas.List.{length-map}
use Rattle.wdt_depot.specs.declared.memory.place.Place.{Place}
use Rattle.wdt_depot.specs.Disk.{DiskFile, clean, with_file}
use Rattle.wdt_depot.specs.Slots.{Slot, disk_of, file_of, owed_of, owed_one, told_of}
use Rattle.wdt_depot.specs.View.{index_of, slot_view}
use Rattle.wdt_depot.proofs.Owed.{owed_push, view_push, within_view}
use Rattle.wdt_depot.proofs.Paths.{once_as, within_as}
use Rattle.wdt_depot.proofs.Places.{file_with-none}
use Rattle.wdt_depot.proofs.Trace.{disk_pushed}
use Rattle.wdt_depot.proofs.memory.making.add_file.Goals as goal

pub invariant_of-store-in-Ok-clause-owes : goal.invariant_of-store-in-Ok-clause-owes
invariant_of-store-in-Ok-clause-owes c =
    let ps : List Place = c.args.store.now.places.items in
    let p : Place = c.new_place-place.result in
    let pushed : c.push_reserved.new.self.items ≡ ps ++ p ∷ [] = c.push_reserved.ensures.items ∙ ap (λ (l : List Place). l ++ p ∷ []) c.reserve.ensures.items in
    let none : owed_one (slot_view p).pending ≡ 0 = ap (λ (s : Slot). owed_one s.pending) c.new_place-place.ensures in
    c.args.store.now.owes ∙ sym (ap (λ (l : List Place). owed_of (map slot_view l)) pushed ∙ (ap owed_of (view_push ps p (slot_view p) refl) ∙ owed_push (map slot_view ps) (slot_view p) none))

pub invariant_of-store-in-Ok-clause-within : goal.invariant_of-store-in-Ok-clause-within
invariant_of-store-in-Ok-clause-within c =
    let ps : List Place = c.args.store.now.places.items in
    let p : Place = c.new_place-place.result in
    let pushed : c.push_reserved.new.self.items ≡ ps ++ p ∷ [] = c.push_reserved.ensures.items ∙ ap (λ (l : List Place). l ++ p ∷ []) c.reserve.ensures.items in
    let place : c.len-at.result ≡ length ps = omega (arith, c.len-at.ensures, c.reserve.ensures.len, c.args.store.now.places.ok.0) in
    let size : length c.push_reserved.new.self.items ≡ suc (length ps) = ap (λ (l : List Place). length l) pushed ∙ omega (arith, length-append ps (p ∷ [])) in
    within_as (index_of c.args.store.now.index) (index_of c.point.new.index) c.len-at.result (length ps) (length c.push_reserved.new.self.items) c.args.file.path place size c.in-Ok.ensures.after c.args.store.now.within

pub invariant_of-store-in-Ok-clause-once : goal.invariant_of-store-in-Ok-clause-once
invariant_of-store-in-Ok-clause-once c =
    let ps : List Place = c.args.store.now.places.items in
    let place : c.len-at.result ≡ length ps = omega (arith, c.len-at.ensures, c.reserve.ensures.len, c.args.store.now.places.ok.0) in
    once_as (index_of c.args.store.now.index) (index_of c.point.new.index) c.len-at.result (length ps) c.args.file.path place c.in-Ok.ensures.after c.args.store.now.within c.args.store.now.once

pub returns-clause-disk : goal.returns-clause-disk
unfolding told_of
returns-clause-disk c =
    let f : List ℕ → Option ℕ = index_of c.args.store.now.index in
    let ps : List Place = c.args.store.now.places.items in
    let p : Place = c.new_place-place.result in
    let pushed : c.push_reserved.new.self.items ≡ ps ++ p ∷ [] = c.push_reserved.ensures.items ∙ ap (λ (l : List Place). l ++ p ∷ []) c.reserve.ensures.items in
    let slots : map slot_view c.push_reserved.new.self.items ≡ map slot_view ps ++ slot_view p ∷ [] = ap (λ (l : List Place). map slot_view l) pushed ∙ view_push ps p (slot_view p) refl in
    let place : c.len-at.result ≡ length (map slot_view ps) = omega (arith, c.len-at.ensures, c.reserve.ensures.len, c.args.store.now.places.ok.0, length-map ps slot_view) in
    let file : file_of (slot_view p) ≡ clean c.args.file.bytes.items = ap (λ (s : Slot). file_of s) c.new_place-place.ensures ∙ file_with-none c.args.file.bytes.items in
    (λ j. disk_of (record { index = c.in-Ok.ensures.after j; slots = slots j }))
    ∙ (disk_pushed c.args.file.path c.len-at.result f (map slot_view ps) (slot_view p) place (within_view f ps c.args.store.now.within)
    ∙ ap (λ (x : DiskFile). with_file c.args.file.path (Some x) (disk_of (record { index = f; slots = map slot_view ps }))) file)
