-- A memory depot's data as slots and steps.
use Rattle.std.specs.Prelude.{ℕ, List, Option, String, map}
use Rattle.std.specs.BTreeMap.{BTreeMap, get_by_text}
use Rattle.std.specs.Global.{Global}
use Rattle.wdt_depot.specs.declared.memory.place.Place.{Place}
use Rattle.wdt_depot.specs.declared.memory.taken.Taken.{Taken}
use Rattle.wdt_depot.specs.declared.memory.taken.Taken.TheVariants.{Wrote, Synced, Made, Placed, Reopened}
use Rattle.wdt_depot.specs.Changes.{change_view}
use Rattle.wdt_depot.specs.Slots.{Slot, Step, wrote_slot, synced_slot, made_slot, placed_slot, reopened_slot}

-- the slot that a place in memory stands for
abbrev pub slot_view : Place → Slot
slot_view p = record { bytes = p.bytes.items; pending = map change_view p.pending.items }

-- the step that what a call left to be taken back stands for
abbrev pub step_view : Taken → Step
step_view (Wrote i) = wrote_slot i
step_view (Synced i changes) = synced_slot i (map change_view changes.items)
step_view (Made path before) = made_slot path before
step_view (Placed source target i before) = placed_slot source target i before
step_view (Reopened i low tail changes) = reopened_slot i low tail.items (map change_view changes.items)

-- the place of each path
unfoldable pub index_of : BTreeMap (String Global) ℕ → List ℕ → Option ℕ
index_of m path = get_by_text m path
