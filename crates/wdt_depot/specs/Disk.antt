-- A plain disk, what the changing calls make of it, and what a crash may leave of it.
use Rattle.std.specs.Prelude.{◌≡◌, ◌⊎◌, ℕ, ◌+◌, ◌-◌, ◌≤◌, ◌<◌, if◌then◌else◌, false, List, [], ◌∷◌, ◌++◌, length, take, drop, replicate, slice_index, Option, Some, None, option_map}
use Rattle.std.specs.List.{list_any}
use Rattle.std.specs.Str.{bytes_eq}
use Rattle.wdt_units.specs.Have.{PlainSpan, is_in}

-- a file: its bytes as read, its bytes at the last sync that succeeded, and the ranges written since
pub record DiskFile : Type 0 where
  pub seen : List ℕ
  pub synced : List ℕ
  pub ranges : List PlainSpan

-- the file at each path
abbrev pub Disk : Type 0
Disk = List ℕ → Option DiskFile

-- what a restart finds: the bytes at each path
abbrev pub Image : Type 0
Image = List ℕ → Option (List ℕ)

-- each is a byte
abbrev pub AreBytes : List ℕ → Type 0
AreBytes bytes = (k : ℕ) → slice_index bytes k < 256

-- the byte at a position is on the disk: the last sync had it, and no write since touched it
pub record IsSettled (f : DiskFile) (k : ℕ) : Type 0 where
  pub below : k < length f.synced
  pub untouched : list_any (is_in k) f.ranges ≡ false

-- a position isn't in a range
abbrev pub IsOutside : ℕ → PlainSpan → Type 0
IsOutside k r = (k < r.offset) ⊎ (r.offset + r.count ≤ k)

-- A crash may leave these bytes of the file: as many as at the sync at least and as ever written at
-- most. What is settled stays, and all else may be any byte.
pub record IsFileImage (f : DiskFile) (bytes : List ℕ) : Type 0 where
  pub no_shorter : length f.synced ≤ length bytes
  pub no_longer : length bytes ≤ length f.seen
  pub fixed : (k : ℕ) → IsSettled f k → slice_index bytes k ≡ slice_index f.seen k
  pub are_bytes : AreBytes bytes

-- where a file is, its bytes stand, and where none is, nothing does
abbrev pub MayLeave : Option DiskFile → Option (List ℕ) → Type 0
MayLeave None None = Unit {0}
MayLeave None (Some bytes) = ⊥
MayLeave (Some f) None = ⊥
MayLeave (Some f) (Some bytes) = IsFileImage f bytes

-- a crash may leave this image of the disk
abbrev pub IsImage : Disk → Image → Type 0
IsImage d i = (path : List ℕ) → MayLeave (d path) (i path)

-- each image of a later disk is an image of an earlier one
abbrev pub HasImagesOf : Disk → Disk → Type 0
HasImagesOf d e = (i : Image) → IsImage e i → IsImage d i

-- what is read
abbrev pub seen_of : Disk → Image
seen_of d path = option_map (λ f. f.seen) (d path)

-- said of a file, where there is one
abbrev pub IfFile : (DiskFile → Type 0) → Option DiskFile → Type 0
IfFile P None = Unit {0}
IfFile P (Some f) = P f

-- A file that keeps the disk model: it isn't shorter than at its sync, what is settled is as it was
-- then, and its bytes are bytes.
pub record IsSound (f : DiskFile) : Type 0 where
  pub no_shorter : length f.synced ≤ length f.seen
  pub agrees : (k : ℕ) → IsSettled f k → slice_index f.seen k ≡ slice_index f.synced k
  pub seen_bytes : AreBytes f.seen
  pub synced_bytes : AreBytes f.synced

-- each file of the disk keeps the disk model
abbrev pub IsSoundDisk : Disk → Type 0
IsSoundDisk d = (path : List ℕ) → IfFile IsSound (d path)

-- a file whose bytes are all on the disk
unfoldable pub clean : List ℕ → DiskFile
clean bytes = record { seen = bytes; synced = bytes; ranges = [] }

-- nothing of the file is pending
abbrev pub IsClean : DiskFile → Type 0
IsClean f = f ≡ clean f.seen

-- the bytes after a write; a gap before it is filled with 0
unfoldable pub spliced : List ℕ → ℕ → List ℕ → List ℕ
spliced old offset bytes = take offset (old ++ replicate (offset - length old) 0) ++ bytes ++ drop (offset + length bytes) old

-- a file after a write, whose range is pending from then on
unfoldable pub write_file : ℕ → List ℕ → DiskFile → DiskFile
write_file offset bytes f = record { seen = spliced f.seen offset bytes; synced = f.synced; ranges = f.ranges ++ record { offset = offset; count = length bytes } ∷ [] }

-- a file after a sync
abbrev pub sync_file : DiskFile → DiskFile
sync_file f = clean f.seen

-- the disk with this at the path
unfoldable pub with_file : List ℕ → Option DiskFile → Disk → Disk
with_file path f d q = if bytes_eq path q then f else d q

-- an empty file stands at the path
abbrev pub made : List ℕ → Disk → Disk
made path d = with_file path (Some (clean [])) d

-- the file at the path has the bytes written
abbrev pub wrote : List ℕ → ℕ → List ℕ → Disk → Disk
wrote path offset bytes d = with_file path (option_map (write_file offset bytes) (d path)) d

-- the file at the path is synced
abbrev pub synced_at : List ℕ → Disk → Disk
synced_at path d = with_file path (option_map sync_file (d path)) d

-- what was found at the source stands at the target alone; where nothing was, nothing changes
abbrev pub place_file : List ℕ → List ℕ → Option DiskFile → Disk → Disk
place_file source target None d = d
place_file source target (Some f) d = with_file target (Some f) (with_file source None d)

-- the file at the source stands at the target alone; where none is at the source, nothing changes
abbrev pub placed : List ℕ → List ℕ → Disk → Disk
placed source target d = place_file source target (d source) d
