-- Which image a pick takes of a disk in memory.
use Rattle.std.specs.Prelude.{ℕ, suc, ◌+◌, ◌%◌, ◌==◌, nat_lt, not, ◌&&◌, if◌then◌else◌, Bool, List, [], ◌∷◌, length, option_map}
use Rattle.std.specs.List.{list_any}
use Rattle.wdt_units.specs.Have.{PlainSpan, is_in}
use Rattle.wdt_depot.specs.Disk.{Disk, DiskFile, clean}

-- the byte at a position is on the disk: below the synced length and in no range written since
abbrev pub is_settled : ℕ → List PlainSpan → ℕ → Bool
is_settled size ranges k = nat_lt k size && not (list_any (is_in k) ranges)

-- the bytes from a position on, where each that isn't on the disk is the pick and its position, modulo 256
abbrev pub patterned : ℕ → ℕ → List PlainSpan → ℕ → List ℕ → List ℕ
patterned pick size ranges k [] = []
patterned pick size ranges k (b ∷ bs) = (if is_settled size ranges k then b else (pick + k) % 256) ∷ patterned pick size ranges (suc k) bs

-- pick 0: as at the last sync; 1: all as written; 2 and more: the greatest length, and the pattern
unfoldable pub picked_bytes : ℕ → DiskFile → List ℕ
picked_bytes pick f = if pick == 0 then f.synced else (if pick == 1 then f.seen else patterned pick (length f.synced) f.ranges 0 f.seen)

-- the disk that a reopening finds: nothing is pending
unfoldable pub picked_disk : Disk → ℕ → Disk
picked_disk d pick path = option_map (λ f. clean (picked_bytes pick f)) (d path)
