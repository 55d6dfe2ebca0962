-- What a writer keeps, and what it is seen as: the block that landed last isn't laid over its file yet.
use Rattle.std.specs.Prelude.{◌≡◌, ℕ, ◌<◌, ◌≤◌, List, map, length, slice_set, sum_by, take, Option, Some, None, IsSome, IsTrue}
use Rattle.wdt_units.specs.declared.limits.TheConstants.{MAX_LANES}
use Rattle.wdt_units.specs.declared.blocks.Block.{Block}
use Rattle.wdt_logfmt.specs.declared.entry.LogEntry.{LogEntry}
use Rattle.wdt_logfmt.specs.Adding.{all_added}
use Rattle.wdt_logfmt.specs.Batches.{block_entries, have_known_files, is_known, path_at}
use Rattle.wdt_logfmt.specs.Beginning.{KnownFile, length_of}
use Rattle.wdt_logfmt.specs.Marks.{bytes_in, marked_of}
use Rattle.wdt_logfmt.specs.Spelling.{written_version}
use Rattle.wdt_files.specs.PlainFiles.{AreLawful, PlainFiles, with_landed}
use Rattle.wdt_writer.specs.declared.landing.Last.{Last}
use Rattle.wdt_writer.specs.declared.landing.Stood.{Stood}
use Rattle.wdt_writer.specs.declared.parts.Part.{Part}
use Rattle.wdt_writer.specs.OnWay.{AreSound}
use Rattle.wdt_writer.specs.PlainWriter.{Earlier, PlainWriter, place_of}

-- ---- what it is seen as

-- the files with the block that landed last laid over its own
abbrev pub laid : PlainFiles → Option Last → PlainFiles
laid files None = files
laid files (Some last) = with_landed files last.block

-- a block of which no byte is left
abbrev pub written : Block → Part
written b = record { block = b; left = 0 }

-- what stood before the last landing, where that can be taken back
abbrev pub stood_by : PlainFiles → List LogEntry → List Block → List (Option Part) → Block → Option Stood → Option Earlier
stood_by files pending unlogged parts b None = None
stood_by files pending unlogged parts b (Some stood) =
    Some record {
      files = files.named;
      pending = take stood.entries pending;
      unlogged = take stood.blocks unlogged;
      parts = slice_set parts stood.lane.0 (Some (written b));
    }

-- what stood before the last landing
abbrev pub earlier_of : PlainFiles → List LogEntry → List Block → List (Option Part) → Option Last → Option Earlier
earlier_of files pending unlogged parts None = None
earlier_of files pending unlogged parts (Some last) = stood_by files pending unlogged parts last.block last.before

-- what a writer that keeps this is seen as
abbrev pub writer_of : PlainFiles → List LogEntry → List Block → List (Option Part) → Option Last → PlainWriter
writer_of files pending unlogged parts last =
    record {
      known = files.known;
      files = (laid files last).named;
      pending = pending;
      unlogged = unlogged;
      parts = parts;
      before = earlier_of files pending unlogged parts last;
    }

-- the last landing can't be taken back any more
abbrev pub for_good : Option Last → Option Last
for_good None = None
for_good (Some last) = Some (record last { before = None })

-- a begun block as it is told: the path of its file, where its next byte goes, and how many bytes are left
abbrev pub told_of : List (Option KnownFile) → Part → List ℕ × ℕ × ℕ
told_of known part = (path_at known part.block.file, place_of part, part.left)

-- ---- what holds of it

-- a block of a known file can be laid over it
pub record IsLandable (files : PlainFiles) (b : Block) : Type 0 where
  pub known : IsTrue (is_known files.known b.file)
  pub adds : IsSome (all_added written_version files.named (block_entries files.known files.named b))

-- the block that landed last can be laid over its file
abbrev pub CanBeLaid : PlainFiles → Option Last → Type 0
CanBeLaid files None = Unit {0}
CanBeLaid files (Some last) = IsLandable files last.block

-- what stood before the landing of a block was sound, and its bytes are counted
pub record HasStood (files : PlainFiles) (unlogged : List Block) (parts : List (Option Part)) (b : Block) (stood : Stood) : Type 0 where
  pub lane : stood.lane.0 < length parts
  pub sound : AreSound files.known files.named (slice_set parts stood.lane.0 (Some (written b)))
  pub bytes : stood.bytes ≡ sum_by length_of (take stood.blocks unlogged)
  pub few : stood.bytes ≤ bytes_in (map marked_of files.named)

-- the same, where the landing can be taken back
abbrev pub MayHaveStood : PlainFiles → List Block → List (Option Part) → Block → Option Stood → Type 0
MayHaveStood files unlogged parts b None = Unit {0}
MayHaveStood files unlogged parts b (Some stood) = HasStood files unlogged parts b stood

-- the last landing can be taken back, or there is none that could be
abbrev pub CanGoBack : PlainFiles → List Block → List (Option Part) → Option Last → Type 0
CanGoBack files unlogged parts None = Unit {0}
CanGoBack files unlogged parts (Some last) = MayHaveStood files unlogged parts last.block last.before

-- What a writer keeps hangs together: its files are lawful, the blocks on their way can land behind the one that
-- landed last, and the bytes of the blocks that are to be logged are counted.
pub record IsWriting (files : PlainFiles) (unlogged : List Block) (count : ℕ) (parts : List (Option Part)) (last : Option Last) : Type 0 where
  pub lawful : AreLawful files
  pub sound : AreSound files.known (laid files last).named parts
  pub lays : CanBeLaid files last
  pub back : CanGoBack files unlogged parts last
  pub lanes : length parts ≤ MAX_LANES
  pub known : IsTrue (have_known_files files.known unlogged)
  pub bytes : count ≡ sum_by length_of unlogged
  pub few : count ≤ bytes_in (map marked_of (laid files last).named)
