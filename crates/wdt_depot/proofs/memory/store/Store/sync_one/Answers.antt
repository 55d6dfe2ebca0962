use Rattle.std.proofs.Common.{◌∙◌, inl, inr, sym, refl, arith}
use Rattle.wdt_depot.specs.View.{index_of}
use Rattle.wdt_depot.proofs.Owed.{nothing_pending, owed_at, owed_one-some, owes_one, within_set}
use Rattle.wdt_depot.proofs.Stores.{tells_none, tells_same, tells_synced}
use Rattle.wdt_depot.proofs.memory.store.Store.sync_one.Goals as goal

pub returns-then-is_empty-clause-told : goal.returns-then-is_empty-clause-told
returns-then-is_empty-clause-told c path there =
    let ps = c.args.self.now.places.items in
    let ts = c.args.self.now.taken.items in
    let x = c.index_mut-place.result.now in
    let none = nothing_pending ps c.args.at x c.requires c.index_mut-place.ensures.value (sym c.is_empty.ensures ∙ c.if-is_empty.true) in
    inl (
      tells_none ts (index_of c.args.self.now.index) ps c.args.at path c.requires none c.args.self.now.once there,
      tells_same ts ts (index_of c.args.self.now.index) ps c.args.at x x refl c.requires c.index_mut-place.ensures.value refl,
    )

pub push_reserved-requires : goal.push_reserved-requires
push_reserved-requires c =
    omega (arith, owes_one c.args.self.now.places.items c.args.at c.args.self.now.owed c.index_mut-place.result.now c.requires c.index_mut-place.ensures.value (sym c.is_empty.ensures ∙ c.if-is_empty.false) c.args.self.now.owes, c.args.self.now.room)

pub overflow_sub-self : goal.overflow_sub-self
overflow_sub-self c =
    owes_one c.args.self.now.places.items c.args.at c.args.self.now.owed c.index_mut-place.result.now c.requires c.index_mut-place.ensures.value (sym c.is_empty.ensures ∙ c.if-is_empty.false) c.args.self.now.owes

pub invariant_of-self-2-clause-owes : goal.invariant_of-self-2-clause-owes
invariant_of-self-2-clause-owes c =
    let x = c.index_mut-place.result.now in
    let some = owed_one-some x (sym c.is_empty.ensures ∙ c.if-is_empty.false) in
    let sums = owed_at c.args.self.now.places.items c.args.at x c.sync_place-changes.new.place _ c.requires c.index_mut-place.ensures.value c.sync_place-changes.ensures.place in
    omega (arith, some, sums, c.args.self.now.owes)

pub invariant_of-self-2-clause-room : goal.invariant_of-self-2-clause-room
invariant_of-self-2-clause-room c =
    let one = owes_one c.args.self.now.places.items c.args.at c.args.self.now.owed c.index_mut-place.result.now c.requires c.index_mut-place.ensures.value (sym c.is_empty.ensures ∙ c.if-is_empty.false) c.args.self.now.owes in
    omega (arith, one, c.args.self.now.room, c.push_reserved.ensures.len, c.push_reserved.ensures.capacity)

pub invariant_of-self-2-clause-within : goal.invariant_of-self-2-clause-within
invariant_of-self-2-clause-within c = within_set _ c.args.self.now.places.items c.args.at c.sync_place-changes.new.place c.args.self.now.within

pub returns-clause-told : goal.returns-clause-told
returns-clause-told c path there =
    let ps = c.args.self.now.places.items in
    let x = c.index_mut-place.result.now in
    inr (tells_synced c.args.self.now.taken.items _ (index_of c.args.self.now.index) ps c.args.at x c.sync_place-changes.new.place _ _ path c.push_reserved.ensures.items refl c.requires c.index_mut-place.ensures.value c.sync_place-changes.ensures.place c.sync_place-changes.ensures.changes c.args.self.now.once there)
