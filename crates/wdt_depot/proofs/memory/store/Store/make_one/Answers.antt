use Rattle.std.proofs.Common.{◌≡◌, ◌∙◌, refl, map, ◌++◌, ◌∷◌, ap, sym, subst, arith, List, ℕ, Option, [], length, suc, length-append}
use Rattle.std.proofs.lemmas.List.{length-map}
use Rattle.wdt_depot.specs.declared.memory.place.Place.{Place}
use Rattle.wdt_depot.specs.declared.memory.taken.Taken.{Taken}
use Rattle.wdt_depot.specs.declared.memory.taken.Taken.TheVariants.{Made}
use Rattle.wdt_depot.specs.Memory.{KeepsPaths}
use Rattle.wdt_depot.specs.Disk.{clean}
use Rattle.wdt_depot.specs.Slots.{Slot, file_of, owed_of, owed_one}
use Rattle.wdt_depot.specs.View.{index_of, slot_view}
use Rattle.wdt_depot.proofs.Owed.{owed_push, view_push}
use Rattle.wdt_depot.proofs.Paths.{keeps_with, once_as, within_as}
use Rattle.wdt_depot.proofs.Places.{file_with-none}
use Rattle.wdt_depot.proofs.Stores.{tells_made}
use Rattle.wdt_depot.proofs.memory.store.Store.make_one.Goals as goal

pub invariant_of-self-in-Ok-clause-owes : goal.invariant_of-self-in-Ok-clause-owes
invariant_of-self-in-Ok-clause-owes c =
    let ps : List Place = c.args.self.now.places.items in
    let p : Place = c.new_place-place.result in
    let pushed : c.push_reserved.new.self.items ≡ ps ++ p ∷ [] = c.push_reserved.ensures.items ∙ ap (λ (l : List Place). l ++ p ∷ []) c.reserve-2.ensures.items in
    let none : owed_one (slot_view p).pending ≡ 0 = ap (λ (s : Slot). owed_one s.pending) c.new_place-place.ensures in
    c.args.self.now.owes ∙ sym (ap (λ (l : List Place). owed_of (map slot_view l)) pushed ∙ (ap owed_of (view_push ps p (slot_view p) refl) ∙ owed_push (map slot_view ps) (slot_view p) none))

pub invariant_of-self-in-Ok-clause-within : goal.invariant_of-self-in-Ok-clause-within
invariant_of-self-in-Ok-clause-within c =
    let ps : List Place = c.args.self.now.places.items in
    let p : Place = c.new_place-place.result in
    let pushed : c.push_reserved.new.self.items ≡ ps ++ p ∷ [] = c.push_reserved.ensures.items ∙ ap (λ (l : List Place). l ++ p ∷ []) c.reserve-2.ensures.items in
    let place : c.len-at.result ≡ length ps = omega (arith, c.len-at.ensures, c.reserve-2.ensures.len, c.args.self.now.places.ok.0) in
    let size : length c.push_reserved.new.self.items ≡ suc (length ps) = ap (λ (l : List Place). length l) pushed ∙ omega (arith, length-append ps (p ∷ [])) in
    within_as (index_of c.args.self.now.index) (index_of c.point.new.index) c.len-at.result (length ps) (length c.push_reserved.new.self.items) c.args.path.now place size c.in-Ok.ensures.after c.args.self.now.within

pub invariant_of-self-in-Ok-clause-once : goal.invariant_of-self-in-Ok-clause-once
invariant_of-self-in-Ok-clause-once c =
    let ps : List Place = c.args.self.now.places.items in
    let place : c.len-at.result ≡ length ps = omega (arith, c.len-at.ensures, c.reserve-2.ensures.len, c.args.self.now.places.ok.0) in
    once_as (index_of c.args.self.now.index) (index_of c.point.new.index) c.len-at.result (length ps) c.args.path.now place c.in-Ok.ensures.after c.args.self.now.within c.args.self.now.once

pub returns-in-Ok-clause-told : goal.returns-in-Ok-clause-told
returns-in-Ok-clause-told c =
    let ps : List Place = c.args.self.now.places.items in
    let p : Place = c.new_place-place.result in
    let pushed : c.push_reserved.new.self.items ≡ ps ++ p ∷ [] = c.push_reserved.ensures.items ∙ ap (λ (l : List Place). l ++ p ∷ []) c.reserve-2.ensures.items in
    let taken : c.push_reserved-in-Ok.new.self.items ≡ c.args.self.now.taken.items ++ Made c.args.path.now c.in-Ok.before ∷ [] = c.push_reserved-in-Ok.ensures.items ∙ (ap (λ (l : List Taken). l ++ Made c.in_ok-name.name c.in-Ok.before ∷ []) c.reserve.ensures.items ∙ ap (λ (n : List ℕ). c.args.self.now.taken.items ++ Made n c.in-Ok.before ∷ []) c.in_ok-name.ensures) in
    let place : c.len-at.result ≡ length (map slot_view ps) = omega (arith, c.len-at.ensures, c.reserve-2.ensures.len, c.args.self.now.places.ok.0, length-map ps slot_view) in
    let empty : file_of (slot_view p) ≡ clean [] = ap (λ (s : Slot). file_of s) (c.new_place-place.ensures ∙ ap (λ (b : List ℕ). record { bytes = b; pending = [] }) c.new.ensures.items) ∙ file_with-none [] in
    tells_made c.args.self.now.taken.items _ (index_of c.args.self.now.index) (index_of c.point.new.index) ps _ p c.args.path.now c.in-Ok.before c.len-at.result taken pushed empty c.in-Ok.ensures.before c.in-Ok.ensures.after place c.args.self.now.within

pub returns-in-Ok-clause-paths : goal.returns-in-Ok-clause-paths
returns-in-Ok-clause-paths c = subst (λ (g : List ℕ → Option ℕ). KeepsPaths (index_of c.args.self.now.index) g) (sym c.in-Ok.ensures.after) (keeps_with (index_of c.args.self.now.index) c.len-at.result c.args.path.now)
