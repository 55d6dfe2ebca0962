-- What a destination has of a tree and what is still to be sent to it, in files and in bytes.
use Rattle.std.specs.Prelude.{◌≡◌, ℕ, ◌+◌, Bool, true, false, not, ◌==◌, ◌||◌, nat_le, if◌then◌else◌, List, [], ◌∷◌, length, sum_by, count_by, slice_get, Option, Some, None}
use Rattle.std.specs.List.{list_all, list_any}
use Rattle.wdt_units.specs.Have.{PlainSpan, HaveFile, is_named}
use Rattle.wdt_units.specs.declared.blocks.Block.{Block}
use Rattle.wdt_tree.specs.declared.entry.Entry.{Entry}
use Rattle.wdt_tree.specs.Listing.{size_of}
use Rattle.wdt_ranges.specs.Spans.{end_of, total_of}
use Rattle.wdt_rest.specs.RestOf.{IsHave}
use Rattle.wdt_rest.specs.Fitting.{fits}

-- spans end at a size at most
abbrev pub ends_by : ℕ → PlainSpan → Bool
ends_by size s = nat_le (end_of s) size

-- what is covered of a file lies below its size
abbrev pub lies_within : HaveFile → Bool
lies_within file = list_all (ends_by file.size) file.spans

-- a have whose files are all the tree's, in size and stamp, each covered below its size
pub record FitsTree (entries : List Entry) (have : List HaveFile) : Type 0 where
  pub is : IsHave have
  pub own : list_all (fits entries) have ≡ true
  pub within : list_all lies_within have ≡ true

-- how many bytes of a file are covered
abbrev pub covered_of : HaveFile → ℕ
covered_of file = total_of file.spans

-- how many bytes are covered
abbrev pub covered : List HaveFile → ℕ
covered have = sum_by covered_of have

-- how many bytes a block has
abbrev pub length_of : Block → ℕ
length_of block = block.length

-- a block is one of a file
abbrev pub is_of : ℕ → Block → Bool
is_of file block = block.file == file

-- the files of blocks, each once
abbrev pub files_of : List Block → List ℕ
files_of [] = []
files_of (block ∷ blocks) = if list_any (is_of block.file) blocks then files_of blocks else block.file ∷ files_of blocks

-- a file of the tree is named
abbrev pub names : List HaveFile → Option Entry → Bool
names have None = false
names have (Some entry) = is_named have entry.path

-- the file of a number isn't named
abbrev pub is_new : List Entry → List HaveFile → ℕ → Bool
is_new entries have file = not (names have (slice_get entries file))

-- a have and blocks are together a tree
pub record AreTogether (entries : List Entry) (have : List HaveFile) (blocks : List Block) : Type 0 where
  -- the covered bytes and those of the blocks are the tree's
  pub bytes : covered have + sum_by length_of blocks ≡ sum_by size_of entries
  -- the named files, and those of the blocks that aren't named, are as many as the tree's
  pub files : length have + count_by (is_new entries have) (files_of blocks) ≡ length entries
  -- each file of the tree is named or has a block
  pub each : (file : ℕ) (entry : Entry) → slice_get entries file ≡ Some entry → (is_named have entry.path || list_any (is_of file) blocks) ≡ true

-- a have has as many files and bytes as a tree
pub record IsAll (entries : List Entry) (have : List HaveFile) : Type 0 where
  pub bytes : covered have ≡ sum_by size_of entries
  pub files : length have ≡ length entries
