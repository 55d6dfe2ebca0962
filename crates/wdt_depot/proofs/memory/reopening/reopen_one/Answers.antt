use Rattle.std.proofs.Common.{◌≡◌, ◌∙◌, inl, inr, sym, ap, refl, arith, List, []}
use Rattle.wdt_depot.specs.declared.memory.place.Place.{Place}
use Rattle.wdt_depot.specs.Slots.{Slot, after_reopen}
use Rattle.wdt_depot.specs.View.{index_of, slot_view}
use Rattle.wdt_depot.proofs.Owed.{at_view, nothing_pending, owed_at, owed_one-some, owes_one, view_set, within_set}
use Rattle.wdt_depot.proofs.Reopened.{picked_clean}
use Rattle.wdt_depot.proofs.Stores.{tells_reopened, tells_same}
use Rattle.wdt_depot.proofs.memory.reopening.reopen_one.Goals as goal

pub returns-then-is_empty-clause-slots : goal.returns-then-is_empty-clause-slots
returns-then-is_empty-clause-slots c =
    let ps : List Place = c.args.store.now.places.items in
    let x : Place = c.index_mut-place.result.now in
    let here = at_view ps c.args.at x c.requires c.index_mut-place.ensures.value in
    let none : (slot_view x).pending ≡ [] = ap (λ (s : Slot). s.pending) here ∙ nothing_pending ps c.args.at x c.requires c.index_mut-place.ensures.value (sym c.is_empty.ensures ∙ c.if-is_empty.true) in
    view_set ps c.args.at x _ (sym (picked_clean c.args.pick (slot_view x) none x.kept.sound) ∙ ap (λ (s : Slot). after_reopen c.args.pick s) here)

pub returns-then-is_empty-clause-told : goal.returns-then-is_empty-clause-told
returns-then-is_empty-clause-told c =
    let x : Place = c.index_mut-place.result.now in
    inl (tells_same c.args.store.now.taken.items c.args.store.now.taken.items (index_of c.args.store.now.index) c.args.store.now.places.items c.args.at x x refl c.requires c.index_mut-place.ensures.value refl)

pub push_reserved-requires : goal.push_reserved-requires
push_reserved-requires c =
    omega (arith, owes_one c.args.store.now.places.items c.args.at c.args.store.now.owed c.index_mut-place.result.now c.requires c.index_mut-place.ensures.value (sym c.is_empty.ensures ∙ c.if-is_empty.false) c.args.store.now.owes, c.args.store.now.room)

pub overflow_sub-store : goal.overflow_sub-store
overflow_sub-store c =
    owes_one c.args.store.now.places.items c.args.at c.args.store.now.owed c.index_mut-place.result.now c.requires c.index_mut-place.ensures.value (sym c.is_empty.ensures ∙ c.if-is_empty.false) c.args.store.now.owes

pub invariant_of-store-2-clause-owes : goal.invariant_of-store-2-clause-owes
invariant_of-store-2-clause-owes c =
    let x = c.index_mut-place.result.now in
    let some = owed_one-some x (sym c.is_empty.ensures ∙ c.if-is_empty.false) in
    let sums = owed_at c.args.store.now.places.items c.args.at x c.reopen_place-low.new.place _ c.requires c.index_mut-place.ensures.value c.reopen_place-low.ensures.place in
    omega (arith, some, sums, c.args.store.now.owes)

pub invariant_of-store-2-clause-room : goal.invariant_of-store-2-clause-room
invariant_of-store-2-clause-room c =
    let one = owes_one c.args.store.now.places.items c.args.at c.args.store.now.owed c.index_mut-place.result.now c.requires c.index_mut-place.ensures.value (sym c.is_empty.ensures ∙ c.if-is_empty.false) c.args.store.now.owes in
    omega (arith, one, c.args.store.now.room, c.push_reserved.ensures.len, c.push_reserved.ensures.capacity)

pub invariant_of-store-2-clause-within : goal.invariant_of-store-2-clause-within
invariant_of-store-2-clause-within c = within_set _ c.args.store.now.places.items c.args.at c.reopen_place-low.new.place c.args.store.now.within

pub returns-clause-slots : goal.returns-clause-slots
returns-clause-slots c =
    let ps : List Place = c.args.store.now.places.items in
    view_set ps c.args.at c.reopen_place-low.new.place _ (c.reopen_place-low.ensures.place ∙ ap (λ (s : Slot). after_reopen c.args.pick s) (at_view ps c.args.at c.index_mut-place.result.now c.requires c.index_mut-place.ensures.value))

pub returns-clause-told : goal.returns-clause-told
returns-clause-told c =
    inr (tells_reopened c.args.store.now.taken.items _ (index_of c.args.store.now.index) c.args.store.now.places.items c.args.at c.args.pick c.reopen_place-low.result.low c.reopen_place-low.result.tail.items c.index_mut-place.result.now c.reopen_place-low.new.place _ _
    c.push_reserved.ensures.items refl c.requires c.index_mut-place.ensures.value c.reopen_place-low.ensures.place c.reopen_place-low.ensures.changes c.reopen_place-low.ensures.back)
