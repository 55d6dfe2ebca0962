-- What is logged of blocks that landed: their entries, the files that these lead to, and the files
-- that the blocks are of.
use Rattle.std.specs.Prelude.{ℕ, ◌==◌, nat_lt, Bool, List, [], ◌∷◌, ◌++◌, Option, Some, None, is_some, if◌then◌else◌}
use Rattle.std.specs.List.{list_all, list_any}
use Rattle.wdt_units.specs.declared.blocks.Block.{Block}
use Rattle.wdt_logfmt.specs.declared.entry.LogEntry.{LogEntry}
use Rattle.wdt_logfmt.specs.declared.entry.LogEntry.TheVariants.{File, Covered}
use Rattle.wdt_logfmt.specs.Adding.{all_added}
use Rattle.wdt_logfmt.specs.Beginning.{KnownFile, known_at}
use Rattle.wdt_logfmt.specs.Spelling.{written_version}
use Rattle.wdt_logfmt.specs.View.{NamedFile, is_numbered}

-- the file of a number is known
abbrev pub is_known : List (Option KnownFile) → ℕ → Bool
is_known known number = is_some (known_at known number)

-- the file of a block is known
abbrev pub has_known_file : List (Option KnownFile) → Block → Bool
has_known_file known b = is_known known b.file

-- the files of all these blocks are known
abbrev pub have_known_files : List (Option KnownFile) → List Block → Bool
have_known_files known bs = list_all (has_known_file known) bs

-- ---- the entries of blocks

-- the entry of a file that is known
abbrev pub file_entry_by : Option KnownFile → ℕ → List LogEntry
file_entry_by None number = []
file_entry_by (Some file) number = File number file.path file.size file.stamp ∷ []

-- a file's entry stands directly before its first block's
abbrev pub file_entry : List (Option KnownFile) → List NamedFile → ℕ → List LogEntry
file_entry known files number = if list_any (is_numbered number) files then [] else file_entry_by (known_at known number) number

-- an empty block has its file's entry alone
abbrev pub span_entry : Block → List LogEntry
span_entry b = if b.length == 0 then [] else Covered b.file b.offset b.length ∷ []

-- what is logged of a block behind these files
abbrev pub block_entries : List (Option KnownFile) → List NamedFile → Block → List LogEntry
block_entries known files b = file_entry known files b.file ++ span_entry b

-- the files behind entries, where they continue them
abbrev pub files_or : List NamedFile → Option (List NamedFile) → List NamedFile
files_or files None = files
files_or files (Some more) = more

-- the files that a log says behind these and such entries
abbrev pub files_behind : List NamedFile → List LogEntry → List NamedFile
files_behind files entries = files_or files (all_added written_version files entries)

-- the entries of blocks behind the files that a log says, in the order of the blocks
abbrev pub entries_of : List (Option KnownFile) → List NamedFile → List Block → List LogEntry
entries_of known files [] = []
entries_of known files (b ∷ bs) = block_entries known files b ++ entries_of known (files_behind files (block_entries known files b)) bs

-- ---- the files of blocks

-- a number among others, rising and once
abbrev pub put_number : ℕ → List ℕ → List ℕ
put_number n [] = n ∷ []
put_number n (m ∷ ms) = if n == m then m ∷ ms else if nat_lt n m then n ∷ m ∷ ms else m ∷ put_number n ms

-- the numbers of the files of blocks, rising
abbrev pub numbers_of : List Block → List ℕ
numbers_of [] = []
numbers_of (b ∷ bs) = put_number b.file (numbers_of bs)

-- the path of a file that is known
abbrev pub path_by : Option KnownFile → List ℕ
path_by None = []
path_by (Some file) = file.path

-- the path of the file of a number
abbrev pub path_at : List (Option KnownFile) → ℕ → List ℕ
path_at known number = path_by (known_at known number)
