-- What is still to be sent of a tree, as a list: file for file, gap for gap, block for block.
use Rattle.std.specs.Prelude.{◌≡◌, ℕ, zero, suc, ◌+◌, ◌-◌, ◌*◌, ◌/◌, ◌==◌, ◌&&◌, not, min, Bool, true, if◌then◌else◌, List, [], ◌∷◌, ◌++◌}
use Rattle.std.specs.List.{list_all}
use Rattle.std.specs.Str.{bytes_eq}
use Rattle.wdt_units.specs.Have.{PlainSpan, HaveFile, is_named}
use Rattle.wdt_units.specs.declared.blocks.Block.{Block}
use Rattle.wdt_tree.specs.declared.entry.Entry.{Entry}
use Rattle.wdt_ranges.specs.Spans.{are_apart, gaps_of}
use Rattle.wdt_ranges.specs.Files.{is_in_order}

-- a file's spans rise and neither overlap nor touch
abbrev pub has_set : HaveFile → Bool
has_set file = are_apart file.spans

-- the paths rise, and the spans of each file are a set
pub record IsHave (have : List HaveFile) : Type 0 where
  pub rising : is_in_order have ≡ true
  pub sets : list_all has_set have ≡ true

-- what is covered of the file of a path: nothing where it isn't named
abbrev pub spans_of : List HaveFile → List ℕ → List PlainSpan
spans_of [] path = []
spans_of (file ∷ files) path = if bytes_eq file.path path then file.spans else spans_of files path

-- how many blocks a gap has
abbrev pub pieces_in : ℕ → PlainSpan → ℕ
pieces_in most gap = (gap.count + most - 1) / most

-- a gap's block of this number
abbrev pub piece_at : ℕ → ℕ → PlainSpan → ℕ → Block
piece_at most file gap k = record { file = file; offset = gap.offset + k * most; length = min most (gap.count - k * most) }

-- the first n blocks of a gap
abbrev pub first_pieces : ℕ → ℕ → PlainSpan → ℕ → List Block
first_pieces most file gap zero = []
first_pieces most file gap (suc n) = first_pieces most file gap n ++ piece_at most file gap n ∷ []

-- the blocks of a gap, cut from its start
abbrev pub pieces_of : ℕ → ℕ → PlainSpan → List Block
pieces_of most file gap = first_pieces most file gap (pieces_in most gap)

-- the blocks of gaps of one file
abbrev pub gap_pieces : ℕ → ℕ → List PlainSpan → List Block
gap_pieces most file [] = []
gap_pieces most file (gap ∷ gaps) = pieces_of most file gap ++ gap_pieces most file gaps

-- the gaps of a file
abbrev pub gaps_in : List HaveFile → Entry → List PlainSpan
gaps_in have entry = gaps_of (spans_of have entry.path) entry.size

-- a file is empty and isn't named
abbrev pub is_new_empty : List HaveFile → Entry → Bool
is_new_empty have entry = entry.size == 0 && not (is_named have entry.path)

-- the block of an empty file
abbrev pub empty_block : ℕ → Block
empty_block file = record { file = file; offset = 0; length = 0 }

-- the blocks of a file: one without a byte for an empty file that isn't named, else those of its gaps
abbrev pub file_rest : List HaveFile → ℕ → ℕ → Entry → List Block
file_rest have most file entry =
    if is_new_empty have entry then empty_block file ∷ [] else gap_pieces most file (gaps_in have entry)

-- the blocks of files whose numbers begin at one
abbrev pub rest_from : List HaveFile → ℕ → ℕ → List Entry → List Block
rest_from have most file [] = []
rest_from have most file (entry ∷ entries) = file_rest have most file entry ++ rest_from have most (file + 1) entries

-- the blocks of a tree that are still to be sent
abbrev pub rest_of : List Entry → List HaveFile → ℕ → List Block
rest_of entries have most = rest_from have most 0 entries
