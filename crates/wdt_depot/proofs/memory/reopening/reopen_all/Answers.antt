use Rattle.std.proofs.Common.{◌≡◌, ◌∙◌, ◌+◌, refl, sym, ap, subst, arith, List, ℕ, map}
use Rattle.std.specs.BTreeMap.{BTreeMap}
use Rattle.std.specs.Global.{Global}
use Rattle.std.specs.Prelude.{String}
use Rattle.std.proofs.lemmas.List.{length-map}
use Rattle.wdt_depot.specs.declared.memory.store.Store.{Store}
use Rattle.wdt_depot.specs.Disk.{HasImagesOf}
use Rattle.wdt_depot.specs.MemState.{store_sound}
use Rattle.wdt_depot.specs.Memory.{shelf_of, told_in}
use Rattle.wdt_depot.specs.Slots.{Slot, disk_of, told_of}
use Rattle.wdt_depot.specs.View.{index_of, slot_view}
use Rattle.wdt_depot.proofs.Owed.{within_view}
use Rattle.wdt_depot.proofs.Reopened.{reopened_disk, reopened_images, reopened_more, since_reopened}
use Rattle.wdt_depot.proofs.memory.reopening.reopen_all.Goals as goal

pub loop-at-preserved : goal.loop-at-preserved
unfolding told_of
loop-at-preserved c =
    let s0 : Store = c.args.store.now in
    let s : Store = c.loop-at.store in
    let u : Store = c.reopen_one.new.store in
    let ss : List Slot = map slot_view s0.places.items in
    let more = reopened_more c.args.pick c.loop-at.at (c.loop-at.at + 1) ss (shelf_of s).slots (shelf_of u).slots refl (omega (arith, c.loop-at-test.true, c.len-at-end.ensures, s0.places.ok.0, length-map s0.places.items slot_view)) c.loop-at.invariant.slots c.reopen_one.ensures.slots in
    let index : u.index ≡ s0.index = c.reopen_one.ensures.index ∙ c.loop-at.invariant.index in
    let images : HasImagesOf (told_in s0).now (disk_of (record { index = index_of s0.index; slots = (shelf_of u).slots })) = reopened_images c.args.pick (c.loop-at.at + 1) (index_of s0.index) ss (shelf_of u).slots more (within_view (index_of s0.index) s0.places.items s0.within) (store_sound s0) in
    let all : HasImagesOf (told_in s0).now (disk_of (shelf_of u)) = subst (λ (m : BTreeMap (String Global) ℕ). HasImagesOf (told_in s0).now (disk_of (record { index = index_of m; slots = (shelf_of u).slots }))) (sym index) images in
    record {
      slots = more;
      index = index;
      since = since_reopened (HasImagesOf (told_in s0).now) (told_in s0) (told_in s) (told_in u) (disk_of (shelf_of u)) refl all c.reopen_one.ensures.told c.loop-at.invariant.since;
    }

pub returns-clause-now : goal.returns-clause-now
unfolding told_of
returns-clause-now c =
    let s0 : Store = c.args.store.now in
    let s : Store = c.loop-at.store in
    let ss : List Slot = map slot_view s0.places.items in
    ap (λ (m : BTreeMap (String Global) ℕ). disk_of (record { index = index_of m; slots = (shelf_of s).slots })) c.loop-at.invariant.index
    ∙ reopened_disk c.args.pick c.loop-at.at (index_of s0.index) ss (shelf_of s).slots c.loop-at.invariant.slots (omega (arith, c.loop-at-test.false, c.len-at-end.ensures, s0.places.ok.0, length-map s0.places.items slot_view)) (within_view (index_of s0.index) s0.places.items s0.within)
