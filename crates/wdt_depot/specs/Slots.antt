-- A disk in memory as data: files in slots, which slot each path has, and what each changing call
-- leaves behind to be taken back. By that the earlier moments are told.
use Rattle.std.specs.Prelude.{ℕ, ◌+◌, ◌-◌, ◌≤◌, ◌<◌, ◌≡◌, true, nat_le, if◌then◌else◌, List, [], ◌∷◌, ◌++◌, length, take, drop, map, min, reverse, slice_set, slice_index_or, Option, Some, option_map}
use Rattle.std.specs.List.{list_all}
use Rattle.std.specs.Str.{bytes_eq}
use Rattle.wdt_units.specs.Have.{PlainSpan}
use Rattle.wdt_depot.specs.Disk.{Disk, DiskFile, IsSound, spliced}
use Rattle.wdt_depot.specs.Moments.{Told, moments}
use Rattle.wdt_depot.specs.Picks.{picked_bytes}

-- a write that isn't synced: its range, the bytes that it overwrote, and the file's length before it
pub record Change : Type 0 where
  pub offset : ℕ
  pub count : ℕ
  pub before : List ℕ
  pub size : ℕ

-- a file's bytes, and its writes that aren't synced, the oldest first
pub record Slot : Type 0 where
  pub bytes : List ℕ
  pub pending : List Change

-- the slot of each path, and the slots
pub record Shelf : Type 0 where
  pub index : List ℕ → Option ℕ
  pub slots : List Slot

-- files

-- the bytes before a write, from the bytes after it
abbrev pub undo_change : Change → List ℕ → List ℕ
undo_change c bytes = take (min c.size (length bytes)) (take c.offset bytes ++ c.before ++ drop (c.offset + length c.before) bytes)

-- the bytes before all of the writes, the newest taken back first
abbrev pub before_all : List Change → List ℕ → List ℕ
before_all [] bytes = bytes
before_all (c ∷ cs) bytes = undo_change c (before_all cs bytes)

-- the range that a write touched
abbrev pub range_of : Change → PlainSpan
range_of c = record { offset = c.offset; count = c.count }

-- the plain file of these bytes and these writes that aren't synced
abbrev pub file_with : List ℕ → List Change → DiskFile
file_with bytes changes = record { seen = bytes; synced = before_all changes bytes; ranges = map range_of changes }

-- the plain file of a slot
abbrev pub file_of : Slot → DiskFile
file_of s = file_with s.bytes s.pending

-- an empty slot, in place of one that isn't there
abbrev pub no_slot : Slot
no_slot = record { bytes = []; pending = [] }

-- the slot at a place; an empty one past the last
abbrev pub slot_at : ℕ → List Slot → Slot
slot_at i ss = slice_index_or ss i no_slot

-- the disk of a shelf
unfoldable pub disk_of : Shelf → Disk
disk_of shelf path = option_map (λ i. file_of (slot_at i shelf.slots)) (shelf.index path)

-- the index with another slot at a path
unfoldable pub with_slot : List ℕ → Option ℕ → (List ℕ → Option ℕ) → List ℕ → Option ℕ
with_slot path slot index q = if bytes_eq path q then slot else index q

-- what a changing call leaves behind: a write; a sync, with what was pending; a file made in a slot of
-- its own, with the slot that its path had; a file put in place, with its slot and the one that the
-- target had; and a slot reopened, with its bytes from a place on and what was pending
pub data Step : Type 0 where
  wrote_slot : ℕ → Step
  synced_slot : ℕ → List Change → Step
  made_slot : List ℕ → Option ℕ → Step
  placed_slot : List ℕ → List ℕ → ℕ → Option ℕ → Step
  reopened_slot : ℕ → ℕ → List ℕ → List Change → Step

-- an empty write, in place of one that isn't there
abbrev pub no_change : Change
no_change = record { offset = 0; count = 0; before = []; size = 0 }

-- the slot before its newest write
abbrev pub undo_write : Slot → Slot
undo_write s = record { bytes = undo_change (slice_index_or s.pending (length s.pending - 1) no_change) s.bytes; pending = take (length s.pending - 1) s.pending }

-- the shelf with other slots
abbrev pub with_slots : Shelf → List Slot → Shelf
with_slots shelf ss = record { index = shelf.index; slots = ss }

-- the shelf before a step
abbrev pub undo : Step → Shelf → Shelf
undo (wrote_slot i) shelf = with_slots shelf (slice_set shelf.slots i (undo_write (slot_at i shelf.slots)))
undo (synced_slot i changes) shelf = with_slots shelf (slice_set shelf.slots i (record { bytes = (slot_at i shelf.slots).bytes; pending = changes }))
undo (made_slot path before) shelf = record { index = with_slot path before shelf.index; slots = take (length shelf.slots - 1) shelf.slots }
undo (placed_slot source target i before) shelf = record { index = with_slot source (Some i) (with_slot target before shelf.index); slots = shelf.slots }
undo (reopened_slot i low tail changes) shelf = with_slots shelf (slice_set shelf.slots i (record { bytes = take low (slot_at i shelf.slots).bytes ++ tail; pending = changes }))

-- the disks of the moments before, the steps given newest first
abbrev pub disks_back : List Step → Shelf → List Disk
disks_back [] shelf = []
disks_back (e ∷ es) shelf = disks_back es (undo e shelf) ++ disk_of (undo e shelf) ∷ []

-- what a shelf and its steps tell
unfoldable pub told_of : List Step → Shelf → Told
told_of steps shelf = record { past = disks_back (reverse steps) shelf; now = disk_of shelf }

-- the moment after
abbrev pub next_of : Disk → Told → Told
next_of d t = record { past = moments t; now = d }

-- slots after a call

-- a write of these bytes over the old ones, as it is kept to be taken back
abbrev pub change_of : ℕ → List ℕ → List ℕ → Change
change_of offset bytes old = record { offset = offset; count = length bytes; before = take (length bytes) (drop offset old); size = length old }

-- the slot after a write
abbrev pub after_write : ℕ → List ℕ → Slot → Slot
after_write offset bytes s = record { bytes = spliced s.bytes offset bytes; pending = s.pending ++ change_of offset bytes s.bytes ∷ [] }

-- the slot after a sync: nothing is pending
abbrev pub after_sync : Slot → Slot
after_sync s = record { bytes = s.bytes; pending = [] }

-- the slot after a reopening: the bytes that the pick takes, and nothing is pending
abbrev pub after_reopen : ℕ → Slot → Slot
after_reopen pick s = record { bytes = picked_bytes pick (file_of s); pending = [] }

-- room for what comes

-- 1 for a slot that has writes that aren't synced, else 0
abbrev pub owed_one : List Change → ℕ
owed_one cs = min (length cs) 1

-- how many slots have writes that aren't synced
abbrev pub owed_of : List Slot → ℕ
owed_of [] = 0
owed_of (s ∷ ss) = owed_one s.pending + owed_of ss

-- What is kept of a file in memory: it keeps the disk model; its length at the last sync; a place below
-- which nothing is pending; and room for all bytes from that place on, which a reopening takes.
pub record IsPlace (bytes : List ℕ) (changes : List Change) (synced low room : ℕ) : Type 0 where
  pub sound : IsSound (file_with bytes changes)
  pub size : synced ≡ length (before_all changes bytes)
  pub low_synced : low ≤ synced
  pub low_changes : list_all (λ (c : Change). nat_le low c.offset) changes ≡ true
  pub enough : length bytes ≤ low + room

-- each path's slot is one of so many
abbrev pub IsWithin : (List ℕ → Option ℕ) → ℕ → Type 0
IsWithin index count = (path : List ℕ) (i : ℕ) → index path ≡ Some i → i < count

-- no slot has two paths
abbrev pub IsOnce : (List ℕ → Option ℕ) → Type 0
IsOnce index = (p q : List ℕ) (i : ℕ) → index p ≡ Some i → index q ≡ Some i → p ≡ q

-- the slots below a place are reopened, and the others are as they were
pub record IsReopenedBelow (pick n : ℕ) (ss ts : List Slot) : Type 0 where
  pub size : length ts ≡ length ss
  pub below : (i : ℕ) → i < n → i < length ss → slot_at i ts ≡ after_reopen pick (slot_at i ss)
  pub above : (i : ℕ) → n ≤ i → slot_at i ts ≡ slot_at i ss
