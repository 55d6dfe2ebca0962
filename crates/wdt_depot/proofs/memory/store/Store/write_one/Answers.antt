use Rattle.std.proofs.Common.{◌∙◌, ◌≤◌, ◌++◌, ◌∷◌, ap, arith, List, []}
use Rattle.wdt_depot.specs.View.{index_of}
use Rattle.wdt_depot.specs.declared.memory.taken.Taken.{Taken}
use Rattle.wdt_depot.specs.declared.memory.taken.Taken.TheVariants.{Wrote}
use Rattle.wdt_depot.specs.View.{slot_view}
use Rattle.wdt_depot.proofs.Owed.{at_most_one, owed_at, owed_more, owed_one-wrote, within_set}
use Rattle.wdt_depot.proofs.Stores.{tells_same, tells_wrote}
use Rattle.wdt_depot.proofs.memory.store.Store.write_one.Goals as goal

pub invariant_of-self-in-Err : goal.invariant_of-self-in-Err
invariant_of-self-in-Err c =
    let x = c.index_mut-place.result.now in
    let sums = owed_at c.args.self.now.places.items c.args.at x c.write_place.new.place (slot_view x) c.requires.within c.index_mut-place.ensures.value c.in-Err.ensures.err in
    record {
      owes = omega (arith, sums, c.args.self.now.owes);
      room = omega (arith, c.args.self.now.room, c.reserve.ensures.len, c.reserve.ensures.capacity);
      within = within_set _ c.args.self.now.places.items c.args.at c.write_place.new.place c.args.self.now.within;
      once = c.args.self.now.once;
    }

pub returns-in-Err-clause-err : goal.returns-in-Err-clause-err
returns-in-Err-clause-err c =
    tells_same c.args.self.now.taken.items _ (index_of c.args.self.now.index) c.args.self.now.places.items c.args.at c.index_mut-place.result.now c.write_place.new.place c.reserve.ensures.items c.requires.within c.index_mut-place.ensures.value c.in-Err.ensures.err

pub invariant_of-self-in-Ok-clause-owes : goal.invariant_of-self-in-Ok-clause-owes
invariant_of-self-in-Ok-clause-owes c =
    let x = c.index_mut-place.result.now in
    let sums = owed_at c.args.self.now.places.items c.args.at x c.write_place.new.place _ c.requires.within c.index_mut-place.ensures.value c.in-Ok.ensures.ok in
    omega (arith, sums, c.args.self.now.owes, owed_more x c.is_empty-was_clean.result c.is_empty-was_clean.ensures, owed_one-wrote c.args.offset c.args.piece.now (slot_view x), c.one_if.ensures)

pub invariant_of-self-in-Ok-clause-room : goal.invariant_of-self-in-Ok-clause-room
invariant_of-self-in-Ok-clause-room c =
    let one : c.one_if.result ≤ 1 = at_most_one c.is_empty-was_clean.result c.one_if.result c.one_if.ensures in
    omega (arith, one, c.in_ok-reserve.ensures.ok, c.reserve.ensures.len, c.push_reserved.ensures.len, c.push_reserved.ensures.capacity)

pub invariant_of-self-in-Ok-clause-within : goal.invariant_of-self-in-Ok-clause-within
invariant_of-self-in-Ok-clause-within c = within_set _ c.args.self.now.places.items c.args.at c.write_place.new.place c.args.self.now.within

pub returns-in-Ok-clause-told : goal.returns-in-Ok-clause-told
returns-in-Ok-clause-told c path there =
    tells_wrote c.args.self.now.taken.items _ (index_of c.args.self.now.index) c.args.self.now.places.items c.args.at c.args.offset c.args.piece.now c.index_mut-place.result.now c.write_place.new.place path
    (c.push_reserved.ensures.items ∙ ap (λ (l : List Taken). l ++ Wrote c.args.at ∷ []) c.reserve.ensures.items) c.requires.within c.index_mut-place.ensures.value c.in-Ok.ensures.ok c.args.self.now.once there
