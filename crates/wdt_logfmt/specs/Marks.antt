-- Which files are named and which of their positions are there, by the numbers of the files: what a log
-- says, and the blocks that landed since.
use Rattle.std.specs.Prelude.{ℕ, ◌==◌, nat_lt, Bool, List, [], ◌∷◌, length, map, sum_by, if◌then◌else◌}
use Rattle.std.specs.List.{list_any}
use Rattle.wdt_units.specs.Have.{PlainSpan}
use Rattle.wdt_units.specs.declared.blocks.Block.{Block}
use Rattle.wdt_ranges.specs.Spans.{has, total_of}
use Rattle.wdt_logfmt.specs.Adding.{span_at, with_span}
use Rattle.wdt_logfmt.specs.View.{NamedFile}

-- a file that is named, and its positions that are there
pub record Marked : Type 0 where
  pub number : ℕ
  pub spans : List PlainSpan

-- a block's positions, of which an empty block has none
abbrev pub block_spans : Block → List PlainSpan
block_spans b = if b.length == 0 then [] else span_at b.offset b.length ∷ []

-- spans with a block's positions
abbrev pub with_block : List PlainSpan → Block → List PlainSpan
with_block spans b = if b.length == 0 then spans else with_span (span_at b.offset b.length) spans

-- the marks are those of a number
abbrev pub is_marked_as : ℕ → Marked → Bool
is_marked_as number m = m.number == number

-- the marks of a file of which this block is the first
abbrev pub just_marked : Block → Marked
just_marked b = record { number = b.file; spans = block_spans b }

-- the marks with one more block, whose file is named by it where it wasn't: the marks rise by number
abbrev pub mark_block : List Marked → Block → List Marked
mark_block [] b = just_marked b ∷ []
mark_block (m ∷ ms) b =
    if is_marked_as b.file m then record { number = m.number; spans = with_block m.spans b } ∷ ms
    else if nat_lt b.file m.number then just_marked b ∷ m ∷ ms
    else m ∷ mark_block ms b

-- the marks of a file of a log
abbrev pub marked_of : NamedFile → Marked
marked_of f = record { number = f.number; spans = f.have.spans }

-- marks with some blocks more
abbrev pub marks_from : List Marked → List Block → List Marked
marks_from ms [] = ms
marks_from ms (b ∷ bs) = marks_from (mark_block ms b) bs

-- what these files say once these blocks have landed
unfoldable pub marks_of : List NamedFile → List Block → List Marked
marks_of files landed = marks_from (map marked_of files) landed

-- the file of a number is named
abbrev pub is_marked : List Marked → ℕ → Bool
is_marked ms number = list_any (is_marked_as number) ms

-- its positions that are there
abbrev pub spans_at : List Marked → ℕ → List PlainSpan
spans_at [] number = []
spans_at (m ∷ ms) number = if is_marked_as number m then m.spans else spans_at ms number

-- a position of it is there
abbrev pub is_there : List Marked → ℕ → ℕ → Bool
is_there ms number position = has (spans_at ms number) position

-- how many files are named, how many spans they have, and how many positions
abbrev pub files_in : List Marked → ℕ
files_in ms = length ms

-- how many spans a file has
abbrev pub span_count : Marked → ℕ
span_count m = length m.spans

-- how many all files have
abbrev pub spans_in : List Marked → ℕ
spans_in ms = sum_by span_count ms

-- how many positions of a file are there
abbrev pub byte_count : Marked → ℕ
byte_count m = total_of m.spans

-- how many of all files
abbrev pub bytes_in : List Marked → ℕ
bytes_in ms = sum_by byte_count ms
