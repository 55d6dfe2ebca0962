-- The lines of a plan.
use Rattle.std.specs.Prelude.{ℕ, ◌<◌, List, [], ◌++◌, length, slice_get, sum_by, codes, Option, Some, None}
use Rattle.std.specs.List.{flat_map, All}
use Rattle.std.specs.Fmt.{decimal}
use Rattle.wdt_units.specs.declared.blocks.Block.{Block}
use Rattle.wdt_tree.specs.declared.entry.Entry.{Entry}
use Rattle.wdt_tool.specs.Lines.{printed}

-- each block is of a file of the tree
abbrev pub AreOfTree : List Entry → List Block → Type 0
AreOfTree entries blocks = All (λ (block : Block). block.file < length entries) blocks

-- the path of an entry, or an empty one
abbrev pub path_or : Option Entry → List ℕ
path_or None = []
path_or (Some entry) = entry.path

-- the path of the file of this number
abbrev pub path_at : List Entry → ℕ → List ℕ
path_at entries file = path_or (slice_get entries file)

-- a block's line: where it begins in its file, how many bytes it has, and the file's path
abbrev pub block_line : List Entry → Block → List ℕ
block_line entries block = decimal block.offset ++ codes " " ++ decimal block.length ++ codes " " ++ printed (path_at entries block.file) ++ codes "\n"

-- how many bytes a block has
abbrev pub length_of : Block → ℕ
length_of block = block.length

-- how many bytes blocks have together
abbrev pub bytes_of : List Block → ℕ
bytes_of blocks = sum_by length_of blocks

-- the line of each block, how many there are, and how many bytes they have
abbrev pub plan_text : List Entry → List Block → List ℕ
plan_text entries blocks =
    flat_map (block_line entries) blocks ++ codes "blocks " ++ decimal (length blocks) ++ codes "\nbytes " ++ decimal (bytes_of blocks) ++ codes "\n"
