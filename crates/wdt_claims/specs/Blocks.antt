-- Blocks in their order, and how often each stands in a list.
use Rattle.std.specs.Prelude.{◌≡◌, ℕ, ◌≤◌, Bool, ◌==◌, ◌&&◌, List, count_by}
use Rattle.std.specs.Ordering.{is_lt, nat_cmp, ordering_then}
use Rattle.std.specs.declared.cmp.Ordering.{Ordering}
use Rattle.wdt_units.specs.declared.blocks.Block.{Block}
use Rattle.wdt_units.specs.Rising.{is_rising_by}

-- blocks are ordered by file, then by offset, then by length
abbrev pub block_cmp : Block → Block → Ordering
block_cmp a b = ordering_then (nat_cmp a.file b.file) (ordering_then (nat_cmp a.offset b.offset) (nat_cmp a.length b.length))

-- a block comes before another
abbrev pub precedes : Block → Block → Bool
precedes a b = is_lt (block_cmp a b)

-- each block comes before all later ones
abbrev pub are_rising : List Block → Bool
are_rising blocks = is_rising_by precedes blocks

-- two blocks are one: same file, offset and length
abbrev pub is_same : Block → Block → Bool
is_same a b = a.file == b.file && a.offset == b.offset && a.length == b.length

-- how often a block stands in a list
unfoldable pub count_of : Block → List Block → ℕ
count_of block blocks = count_by (is_same block) blocks

-- each block stands as often in the one list as in the other
abbrev pub HaveSameBlocks : List Block → List Block → Type 0
HaveSameBlocks xs ys = (block : Block) → count_of block xs ≡ count_of block ys

-- no block stands twice
abbrev pub AreDistinct : List Block → Type 0
AreDistinct blocks = (block : Block) → count_of block blocks ≤ 1
