-- The known files as the code keeps them: by number, with the number of each path, the least free number
-- and four counts.
use Rattle.std.specs.Prelude.{◌≡◌, ℕ, zero, suc, ◌+◌, ◌<◌, ◌==◌, Bool, false, true, List, [], ◌∷◌, length, map, slice_get, slice_set, Option, Some, None, IsTrue, if◌then◌else◌}
use Rattle.std.specs.BTreeMap.{BTreeMap, get_by_text}
use Rattle.std.specs.Global.{Global}
use Rattle.std.specs.Prelude.{String}
use Rattle.wdt_units.specs.Have.{HaveFile, PlainSpan}
use Rattle.wdt_units.specs.declared.blocks.Block.{Block}
use Rattle.wdt_ranges.specs.Files.{have_file}
use Rattle.wdt_logfmt.specs.Adding.{has_room, have_with, span_at}
use Rattle.wdt_logfmt.specs.Beginning.{KnownFile, free_number, known_count, number_of}
use Rattle.wdt_logfmt.specs.Marks.{bytes_in, marked_of, spans_in}
use Rattle.wdt_logfmt.specs.View.{NamedFile}
use Rattle.wdt_files.specs.PlainFiles.{AreLawful, PlainFiles}
use Rattle.wdt_files.specs.declared.slots.Slot.{Slot}

-- ---- what slots are

-- what is known of the file of a slot
abbrev pub known_in : Option Slot → Option KnownFile
known_in None = None
known_in (Some slot) = Some (record { path = slot.file.path; size = slot.file.size; stamp = slot.file.stamp })

-- a file, where it is named
abbrev pub have_by : Bool → HaveFile → Option HaveFile
have_by true have = Some have
have_by false have = None

-- the named file of a slot, with what is there of it
abbrev pub have_in : Option Slot → Option HaveFile
have_in None = None
have_in (Some slot) = have_by slot.is_named (have_file slot.file)

-- the named files of slots, of which the first has a number
abbrev pub named_from : ℕ → List (Option HaveFile) → List NamedFile
named_from first [] = []
named_from first (None ∷ haves) = named_from (first + 1) haves
named_from first (Some have ∷ haves) = record { number = first; have = have } ∷ named_from (first + 1) haves

-- the files of slots
abbrev pub plain_files : List (Option Slot) → PlainFiles
plain_files slots = record { known = map known_in slots; named = named_from 0 (map have_in slots) }

-- ---- the slot of a number

-- the file of a slot that may be there
abbrev pub slot_by : Option (Option Slot) → Option Slot
slot_by None = None
slot_by (Some slot) = slot

-- the file of a number
abbrev pub slot_at : List (Option Slot) → ℕ → Option Slot
slot_at slots number = slot_by (slice_get slots number)

-- what is there of the file of a slot
abbrev pub spans_by : Option Slot → List PlainSpan
spans_by None = []
spans_by (Some slot) = slot.file.spans

-- nothing is there of a file that isn't named
abbrev pub AreBare : List (Option Slot) → Type 0
AreBare slots = (number : ℕ) (slot : Slot) → slot_at slots number ≡ Some slot → slot.is_named ≡ false → slot.file.spans ≡ []

-- ---- changes

-- the slots with one more file, at the first free one
abbrev pub filled : List (Option Slot) → Slot → List (Option Slot)
filled [] slot = Some slot ∷ []
filled (None ∷ slots) slot = Some slot ∷ slots
filled (Some other ∷ slots) slot = Some other ∷ filled slots slot

-- so many free slots
abbrev pub blanks : ℕ → List (Option Slot)
blanks zero = []
blanks (suc n) = None ∷ blanks n

-- a file with the positions of a block
abbrev pub have_landed : Block → HaveFile → HaveFile
have_landed b have = if b.length == 0 then have else have_with (span_at b.offset b.length) have

-- the file of a block that isn't empty has room for its positions
abbrev pub HasRoom : Block → HaveFile → Type 0
HasRoom b have = 0 < b.length → IsTrue (has_room (span_at b.offset b.length) have)

-- the file of a block has its positions, and is named
pub record IsLanded (old : List (Option Slot)) (b : Block) (new : List (Option Slot)) : Type 0 where
  pub before : Slot
  pub after : Slot
  pub there : slot_at old b.file ≡ Some before
  pub set : new ≡ slice_set old b.file (Some after)
  pub named : after.is_named ≡ true
  pub landed : have_file after.file ≡ have_landed b (have_file before.file)

-- ---- what is kept

-- the number of a path
abbrev pub number_in : BTreeMap (String Global) ℕ → List ℕ → Option ℕ
number_in numbers path = get_by_text numbers path

-- the files are lawful; and the numbers of the paths, the least free number and the counts are theirs
pub record IsKept (slots : List (Option Slot)) (number : List ℕ → Option ℕ) (free known named spans bytes : ℕ) : Type 0 where
  pub lawful : AreLawful (plain_files slots)
  pub bare : AreBare slots
  pub numbers : (path : List ℕ) → number path ≡ number_of (map known_in slots) path
  pub next : free ≡ free_number (map known_in slots)
  pub known_counted : known ≡ known_count (map known_in slots)
  pub named_counted : named ≡ length (named_from 0 (map have_in slots))
  pub spans_counted : spans ≡ spans_in (map marked_of (named_from 0 (map have_in slots)))
  pub bytes_counted : bytes ≡ bytes_in (map marked_of (named_from 0 (map have_in slots)))
