-- What a store of files in memory tells.
use Rattle.std.specs.Prelude.{◌≡◌, ◌⊎◌, ℕ, false, List, map, Option, IsSome}
use Rattle.std.specs.Str.{bytes_eq}
use Rattle.wdt_depot.specs.declared.memory.store.Store.{Store}
use Rattle.wdt_depot.specs.Disk.{synced_at}
use Rattle.wdt_depot.specs.Moments.{Told}
use Rattle.wdt_depot.specs.Slots.{Shelf, next_of, told_of}
use Rattle.wdt_depot.specs.View.{index_of, slot_view, step_view}

-- a store's shelf: the slot of each path, and the slots
abbrev pub shelf_of : Store → Shelf
shelf_of s = record { index = index_of s.index; slots = map slot_view s.places.items }

-- what a store tells: the disks of its moments so far, and its disk now
abbrev pub told_in : Store → Told
told_in s = told_of (map step_view s.taken.items) (shelf_of s)

-- a sync was a moment, or found nothing to do
abbrev pub IsSynced : List ℕ → Told → Told → Type 0
IsSynced path t u = ((synced_at path t.now ≡ t.now) × (u ≡ t)) ⊎ (u ≡ next_of (synced_at path t.now) t)

-- each path that has a place has one still
abbrev pub KeepsPaths : (List ℕ → Option ℕ) → (List ℕ → Option ℕ) → Type 0
KeepsPaths f g = (path : List ℕ) → IsSome (f path) → IsSome (g path)

-- each but that one
abbrev pub KeepsPathsBut : List ℕ → (List ℕ → Option ℕ) → (List ℕ → Option ℕ) → Type 0
KeepsPathsBut but f g = (path : List ℕ) → bytes_eq but path ≡ false → IsSome (f path) → IsSome (g path)
