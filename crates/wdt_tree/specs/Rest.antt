-- What is still to be sent of a tree to a destination that has a part of it: a condition on positions.
-- Files are numbered from 0 in the order of their paths.
use Rattle.std.specs.Prelude.{◌≡◌, ℕ, ◌+◌, ◌-◌, Bool, true, false, not, ◌==◌, nat_lt, nat_le, ◌||◌, ◌&&◌, if◌then◌else◌, List, count_by, slice_get, Option, Some, None}
use Rattle.std.specs.List.{list_all, list_any}
use Rattle.wdt_units.specs.Have.{HaveFile, is_covered, is_named}
use Rattle.wdt_units.specs.Rising.{is_rising_by}
use Rattle.wdt_units.specs.declared.blocks.Block.{Block}
use Rattle.wdt_tree.specs.declared.entry.Entry.{Entry}

-- a position is one of a file, and the destination doesn't have it
abbrev pub lacks_position : List HaveFile → Option Entry → ℕ → Bool
lacks_position have None position = false
lacks_position have (Some entry) position = nat_lt position entry.size && not (is_covered have entry.path position)

-- a position of the file of a number is missing
abbrev pub is_missing : List Entry → List HaveFile → ℕ → ℕ → Bool
is_missing entries have file position = lacks_position have (slice_get entries file) position

-- a position is one that the destination has
abbrev pub has_position : List HaveFile → Option Entry → ℕ → Bool
has_position have None position = false
has_position have (Some entry) position = is_covered have entry.path position

-- a position of the file of a number is there
abbrev pub is_there : List Entry → List HaveFile → ℕ → ℕ → Bool
is_there entries have file position = has_position have (slice_get entries file) position

-- a file is empty, and the destination doesn't name it
abbrev pub lacks_name : List HaveFile → Option Entry → Bool
lacks_name have None = false
lacks_name have (Some entry) = entry.size == 0 && not (is_named have entry.path)

-- a place is a file's end
abbrev pub is_end : Option Entry → ℕ → Bool
is_end None position = false
is_end (Some entry) position = position == entry.size

-- a block has a position
abbrev pub holds : ℕ → ℕ → Block → Bool
holds file position block = block.file == file && nat_le block.offset position && nat_lt position (block.offset + block.length)

-- a block of a file that has no byte
abbrev pub is_empty_of : ℕ → Block → Bool
is_empty_of file block = block.file == file && block.length == 0

-- a block comes before another, by file and then by offset
abbrev pub is_earlier : Block → Block → Bool
is_earlier a b = nat_lt a.file b.file || (a.file == b.file && nat_lt a.offset b.offset)

-- each block comes before all later ones
abbrev pub is_rising : List Block → Bool
is_rising blocks = is_rising_by is_earlier blocks

-- a whole block of this many bytes ends where another begins
abbrev pub is_behind : ℕ → Block → Block → Bool
is_behind most block before = before.file == block.file && before.length == most && before.offset + before.length == block.offset

-- a block begins at its file's start, behind a position that is there, or behind a whole block
abbrev pub begins : List Entry → List HaveFile → ℕ → List Block → Block → Bool
begins entries have most blocks block =
    block.offset == 0 || is_there entries have block.file (block.offset - 1) || list_any (is_behind most block) blocks

-- a block is whole, or ends at its file's end or before a position that is there
abbrev pub ends : List Entry → List HaveFile → ℕ → Block → Bool
ends entries have most block =
    block.length == most || is_end (slice_get entries block.file) (block.offset + block.length) || is_there entries have block.file (block.offset + block.length)

-- a block is cut as the rest's are: no longer than a whole one, beginning and ending where it may
abbrev pub is_cut : List Entry → List HaveFile → ℕ → List Block → Block → Bool
is_cut entries have most blocks block =
    nat_le block.length most && begins entries have most blocks block && ends entries have most block

-- these blocks are what is still to be sent, where a whole block has this many bytes
pub record IsRest (entries : List Entry) (have : List HaveFile) (most : ℕ) (blocks : List Block) : Type 0 where
  pub rising : is_rising blocks ≡ true
  -- each missing position lies in exactly one block, and each other in none
  pub exact : (file position : ℕ) → count_by (holds file position) blocks ≡ (if is_missing entries have file position then 1 else 0)
  -- each file that is empty and not named has one block without a byte, and no other has one
  pub empty : (file : ℕ) → count_by (is_empty_of file) blocks ≡ (if lacks_name have (slice_get entries file) then 1 else 0)
  pub cut : list_all (is_cut entries have most blocks) blocks ≡ true
