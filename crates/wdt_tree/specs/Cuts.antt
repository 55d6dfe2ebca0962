-- A whole tree in blocks: each file from its start in whole blocks and a shorter last one.
use Rattle.std.specs.Prelude.{ℕ, zero, suc, ◌+◌, ◌-◌, ◌*◌, ◌/◌, ◌==◌, min, if◌then◌else◌, List, [], ◌∷◌, ◌++◌}
use Rattle.wdt_units.specs.declared.blocks.Block.{Block}
use Rattle.wdt_tree.specs.declared.entry.Entry.{Entry}

-- how many blocks a file of this size has; an empty file has one
abbrev pub blocks_in : ℕ → ℕ → ℕ
blocks_in most size = if size == 0 then 1 else (size + most - 1) / most

-- a file's block of this number
abbrev pub block_at : ℕ → ℕ → ℕ → ℕ → Block
block_at most file size k = record { file = file; offset = k * most; length = min most (size - k * most) }

-- the first n blocks of a file
abbrev pub first_cuts : ℕ → ℕ → ℕ → ℕ → List Block
first_cuts most file size zero = []
first_cuts most file size (suc n) = first_cuts most file size n ++ block_at most file size n ∷ []

-- the blocks of a file
abbrev pub cuts_of : ℕ → ℕ → ℕ → List Block
cuts_of most file size = first_cuts most file size (blocks_in most size)

-- the blocks of files whose numbers begin at one
abbrev pub cuts_from : ℕ → ℕ → List Entry → List Block
cuts_from most file [] = []
cuts_from most file (entry ∷ entries) = cuts_of most file entry.size ++ cuts_from most (file + 1) entries

-- the blocks of a tree
abbrev pub cuts : ℕ → List Entry → List Block
cuts most entries = cuts_from most 0 entries
