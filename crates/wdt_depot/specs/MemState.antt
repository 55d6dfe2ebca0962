-- What a depot in memory tells.
use Rattle.std.proofs.Common.{◌≡◌, ℕ, List, [], ◌∷◌, ◌<◌, length, map, Option, Some, None, Bool, true, false, refl, arith, zero, suc}
use Rattle.std.specs.Prelude.{IsSome, is_some, option_map, if◌then◌else◌, ◌&&◌, ◌==◌}
use Rattle.wdt_depot.specs.declared.memory.MemDepot.{MemDepot}
use Rattle.wdt_depot.specs.declared.memory.place.Place.{Place}
use Rattle.wdt_depot.specs.declared.memory.store.Store.{Store}
use Rattle.wdt_depot.specs.Disk.{Disk, IfFile, IsSound, IsSoundDisk}
use Rattle.wdt_depot.specs.Health.{state_of}
use Rattle.wdt_depot.specs.Memory.{told_in}
use Rattle.wdt_depot.specs.Slots.{disk_of, file_of, slot_at, told_of}
use Rattle.wdt_depot.specs.Spots.{all_placed, entered_view}
use Rattle.wdt_depot.specs.State.{SpotsStand, State, path_of, path_or}
use Rattle.wdt_depot.specs.View.{index_of, slot_view}

-- what contracts see of a depot in memory
abbrev pub mem_state : MemDepot → State
mem_state m = state_of (told_in m.store) m.health (map entered_view m.spots.items)

-- its disk
abbrev pub disk_in : MemDepot → Disk
disk_in m = (told_in m.store).now

-- each file keeps the disk model

place_sound : (ps : List Place) (i : ℕ) → i < length ps → IsSound (file_of (slot_at i (map slot_view ps)))
place_sound [] i h = absurd (omega (arith, h))
place_sound (p ∷ ps) zero h = p.kept.sound
place_sound (p ∷ ps) (suc i) h = place_sound ps i (omega (arith, h))

sound_at : (s : Store) (path : List ℕ) (o : Option ℕ) → index_of s.index path ≡ o → IfFile IsSound (option_map (λ i. file_of (slot_at i (map slot_view s.places.items))) o)
sound_at s path None e = tt
sound_at s path (Some i) e = place_sound s.places.items i (s.within path i e)

-- each file of a store keeps the disk model
pub store_sound : (s : Store) → IsSoundDisk (told_in s).now
unfolding told_of disk_of
store_sound s path = sound_at s path (index_of s.index path) refl

-- each file of a depot in memory does
pub sound_in : (m : MemDepot) → IsSoundDisk (disk_in m)
sound_in m = store_sound m.store

-- each entered spot's file stands

both_true : (a b : Bool) → (a && b) ≡ true → (a ≡ true) × (b ≡ true)
both_true true b h = (refl, h)
both_true false b h = cc

either_stands : (f : List ℕ → Option ℕ) (e : ℕ × List ℕ) (o : Option (List ℕ)) (b : Bool) → is_some (f e.1) ≡ true → (IsSome o → IsSome (f (path_or o))) → IsSome (if b then Some e.1 else o) → IsSome (f (path_or (if b then Some e.1 else o)))
either_stands f e o true here rest some = here
either_stands f e o false here rest some = rest some

-- where the path of each entered spot has a place, so has the path of this one, if it is entered
pub stands : (f : List ℕ → Option ℕ) (es : List (ℕ × List ℕ)) (spot : ℕ) → all_placed es f ≡ true → IsSome (path_of spot es) → IsSome (f (path_or (path_of spot es)))
stands f [] spot all some = cc
stands f (e ∷ es) spot all some =
    let parts = both_true (is_some (f e.1)) (all_placed es f) all in
    either_stands f e (path_of spot es) (e.0 == spot) parts.0 (stands f es spot parts.1) some

some_file : (s : Store) (path : List ℕ) (o : Option ℕ) → IsSome o → IsSome (option_map (λ i. file_of (slot_at i (map slot_view s.places.items))) o)
some_file s path None h = cc
some_file s path (Some i) h = refl

-- in a depot in memory the file of each entered spot stands
pub stand_in : (m : MemDepot) → SpotsStand (mem_state m)
unfolding told_of disk_of
stand_in m spot some = some_file m.store (path_or (path_of spot (map entered_view m.spots.items))) (index_of m.store.index (path_or (path_of spot (map entered_view m.spots.items)))) (stands (index_of m.store.index) (map entered_view m.spots.items) spot m.placed some)

-- how it begins: nothing happened yet, and the calls of these numbers fail
abbrev pub fresh_state : Disk → List ℕ → State
fresh_state d fails = record { told = Some (record { past = []; now = d }); stop = record { armed = None; struck = None }; spots = []; faults = 0; own = 0; own_then = 0; slips = 0; schedule = Some (record { fails = fails; calls = 0 }) }
