use Rattle.std.proofs.Common.{◌≡◌, Some}
use Rattle.wdt_depot.specs.Disk.{HasImagesOf}
use Rattle.wdt_depot.specs.Memory.{shelf_of, told_in}
use Rattle.wdt_depot.specs.Moments.{Since}
use Rattle.wdt_depot.specs.Slots.{IsReopenedBelow}
use Rattle.wdt_depot.proofs.memory.reopening.reopen_all.Given as goal

abbrev pub invariant-loop-at : goal.invariant-loop-at
invariant-loop-at l = record {
  slots : IsReopenedBelow l.pick l.at (shelf_of l.initial.store).slots (shelf_of l.store).slots;
  index : l.store.index ≡ l.initial.store.index;
  since : Since (HasImagesOf (told_in l.initial.store).now) (Some (told_in l.initial.store)) (Some (told_in l.store));
}
