-- A writer of blocks as plain data: which files are known, what the log will say of them, and which
-- blocks are on their way.
use Rattle.std.specs.Prelude.{ℕ, zero, suc, ◌+◌, ◌-◌, ◌&&◌, nat_le, List, [], ◌∷◌, ◌++◌, map, slice_get, slice_set, Option, Some, None, Bool, true, false}
use Rattle.wdt_units.specs.declared.limits.TheConstants.{MAX_FILE_SIZE}
use Rattle.wdt_units.specs.declared.blocks.Block.{Block}
use Rattle.wdt_units.specs.declared.blocks.Header.{Header}
use Rattle.wdt_depot.specs.Disk.{Disk, made}
use Rattle.wdt_depot.specs.Programs.{Drive, run_make}
use Rattle.wdt_logfmt.specs.declared.entry.LogEntry.{LogEntry}
use Rattle.wdt_logfmt.specs.Batches.{block_entries, files_behind}
use Rattle.wdt_logfmt.specs.Beginning.{KnownFile, block_of, is_new, known_files, with_known}
use Rattle.wdt_logfmt.specs.Marks.{Marked, marked_of}
use Rattle.wdt_logfmt.specs.View.{NamedFile}
use Rattle.wdt_writer.specs.declared.parts.Part.{Part}

-- what stood before the last landing
pub record Earlier : Type 0 where
  pub files : List NamedFile
  pub pending : List LogEntry
  pub unlogged : List Block
  pub parts : List (Option Part)

-- blocks on their way into files
pub record PlainWriter : Type 0 where
  -- the files by number: those that the log named, and those of which a block began since
  pub known : List (Option KnownFile)
  -- what the log says once all that landed is logged
  pub files : List NamedFile
  -- what is to be logged of the blocks that landed since the log was last added to
  pub pending : List LogEntry
  -- these blocks, in the order in which they landed
  pub unlogged : List Block
  -- by lane: the block that is begun
  pub parts : List (Option Part)
  -- what stood before the last landing, while that can be taken back
  pub before : Option Earlier

-- ---- its parts

-- the begun block of a lane that is there
abbrev pub part_by : Option (Option Part) → Option Part
part_by None = None
part_by (Some part) = part

-- the begun block of a lane
abbrev pub part_of : List (Option Part) → ℕ → Option Part
part_of parts lane = part_by (slice_get parts lane)

-- the begun block of a lane
abbrev pub part_at : PlainWriter → ℕ → Option Part
part_at w lane = part_of w.parts lane

-- a part, or one of no block
abbrev pub part_or : Option Part → Part
part_or None = record { block = record { file = 0; offset = 0; length = 0 }; left = 0 }
part_or (Some part) = part

-- the begun block of a lane on which one is begun
abbrev pub begun_at : PlainWriter → ℕ → Part
begun_at w lane = part_or (part_at w lane)

-- the blocks of parts, by rising lane
abbrev pub blocks_of : List (Option Part) → List Block
blocks_of [] = []
blocks_of (None ∷ parts) = blocks_of parts
blocks_of (Some part ∷ parts) = part.block ∷ blocks_of parts

-- the blocks that are on their way, by rising lane
abbrev pub begun : PlainWriter → List Block
begun w = blocks_of w.parts

-- which files are named and which positions are there, with all that landed
abbrev pub marks : PlainWriter → List Marked
marks w = map marked_of w.files

-- each of them begins within the greatest size of a file
abbrev pub are_within : List (Option Part) → Bool
are_within [] = true
are_within (None ∷ parts) = are_within parts
are_within (Some part ∷ parts) = nat_le part.block.offset MAX_FILE_SIZE && are_within parts

-- where the next byte of a begun block goes
abbrev pub place_of : Part → ℕ
place_of part = part.block.offset + (part.block.length - part.left)

-- ---- what its calls make of it

-- as many lanes on which no block is begun
abbrev pub no_parts : ℕ → List (Option Part)
no_parts zero = []
no_parts (suc n) = None ∷ no_parts n

-- a writer of files that a log names
abbrev pub opened : List NamedFile → ℕ → PlainWriter
opened files lanes =
    record {
      known = known_files files;
      files = files;
      pending = [];
      unlogged = [];
      parts = no_parts lanes;
      before = None;
    }

-- the file that a header tells of
abbrev pub file_told : Header → KnownFile
file_told h = record { path = h.path; size = h.size; stamp = h.stamp }

-- the file of a header is known
abbrev pub known_by : List (Option KnownFile) → Header → Bool → List (Option KnownFile)
known_by known h true = with_known known (file_told h)
known_by known h false = known

-- the known files with the header's, which gets a number where it is new
abbrev pub known_with : List (Option KnownFile) → Header → List (Option KnownFile)
known_with known h = known_by known h (is_new known h)

-- a part that is begun
abbrev pub whole : Block → Part
whole b = record { block = b; left = b.length }

-- the header's block is begun on the lane
abbrev pub begins : PlainWriter → ℕ → Header → PlainWriter
begins w lane h =
    record w {
      known = known_with w.known h;
      parts = slice_set w.parts lane (Some (whole (block_of w.known h)));
      before = None;
    }

-- the part with so many bytes less to come
abbrev pub with_less : Part → ℕ → Part
with_less part count = record part { left = part.left - count }

-- so many bytes more of the lane's block are written
abbrev pub takes : PlainWriter → ℕ → ℕ → PlainWriter
takes w lane count = record w { parts = slice_set w.parts lane (Some (with_less (begun_at w lane) count)); before = None }

-- the part with so many bytes more to come
abbrev pub with_more : Part → ℕ → Part
with_more part count = record part { left = part.left + count }

-- so many bytes of the lane's block are to come again
abbrev pub gives_back : PlainWriter → ℕ → ℕ → PlainWriter
gives_back w lane count = record w { parts = slice_set w.parts lane (Some (with_more (begun_at w lane) count)); before = None }

-- what a landing leaves behind, to be taken back
abbrev pub earlier : PlainWriter → Earlier
earlier w = record { files = w.files; pending = w.pending; unlogged = w.unlogged; parts = w.parts }

-- the lane's block has landed
abbrev pub lands : PlainWriter → ℕ → Block → PlainWriter
lands w lane b =
    record {
      known = w.known;
      files = files_behind w.files (block_entries w.known w.files b);
      pending = w.pending ++ block_entries w.known w.files b;
      unlogged = w.unlogged ++ b ∷ [];
      parts = slice_set w.parts lane None;
      before = Some (earlier w);
    }

-- the last landing is taken back, where it can be
abbrev pub taken_by : PlainWriter → Option Earlier → PlainWriter
taken_by w None = w
taken_by w (Some e) =
    record {
      known = w.known;
      files = e.files;
      pending = e.pending;
      unlogged = e.unlogged;
      parts = e.parts;
      before = None;
    }

-- the last landing is taken back
abbrev pub taken_back : PlainWriter → PlainWriter
taken_back w = taken_by w w.before

-- the lane's block isn't begun any more
abbrev pub drops : PlainWriter → ℕ → PlainWriter
drops w lane = record w { parts = slice_set w.parts lane None; before = None }

-- all that landed is logged
abbrev pub all_logged : PlainWriter → PlainWriter
all_logged w = record w { pending = []; unlogged = []; before = None }

-- the last landing can't be taken back any more
abbrev pub settled : PlainWriter → PlainWriter
settled w = record w { before = None }

-- ---- what they do on the disk

-- a new file is made
abbrev pub make_by : List ℕ → Bool → Drive → Bool × Drive
make_by path true = run_make path
make_by path false = λ p. (true, p)

-- the header's file is made, where it is new
abbrev pub run_begin : List (Option KnownFile) → Header → Drive → Bool × Drive
run_begin known h = make_by h.path (is_new known h)

-- the disk with a file made, where it is new
abbrev pub made_by : List ℕ → Bool → Disk → Disk
made_by path true = made path
made_by path false = λ d. d

-- the disk with the header's file, where it is new
abbrev pub begun_on : List (Option KnownFile) → Header → Disk → Disk
begun_on known h = made_by h.path (is_new known h)
