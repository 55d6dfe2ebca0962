-- Blocks that are on their way: what they need of the files, and of each other, to land in any order.
use Rattle.std.specs.Prelude.{◌≡◌, ℕ, ◌+◌, ◌≤◌, List, map, slice_set, Option, Some, None, IsTrue}
use Rattle.wdt_logfmt.specs.Adding.{all_added}
use Rattle.wdt_logfmt.specs.Batches.{block_entries}
use Rattle.wdt_units.specs.declared.limits.TheConstants.{MAX_BLOCK, MAX_SPANS, MAX_TOTAL}
use Rattle.wdt_units.specs.declared.blocks.Block.{Block}
use Rattle.wdt_units.specs.Have.{is_in}
use Rattle.wdt_ranges.specs.Spans.{has}
use Rattle.wdt_logfmt.specs.Beginning.{KnownFile, bytes_with, known_at, span_of, spans_with}
use Rattle.wdt_logfmt.specs.Marks.{marked_of, spans_at}
use Rattle.wdt_logfmt.specs.Spelling.{written_version}
use Rattle.wdt_logfmt.specs.View.{NamedFile}
use Rattle.wdt_writer.specs.declared.parts.Part.{Part}
use Rattle.wdt_files.specs.PlainFiles.{AreFiles, AreNamed}
use Rattle.wdt_writer.specs.PlainWriter.{blocks_of, part_of}

-- no position of the block is there
abbrev pub IsClearOf : List NamedFile → Block → Type 0
IsClearOf files b = (k : ℕ) → IsTrue (is_in k (span_of b)) → IsTrue (has (spans_at (map marked_of files) b.file) k) → ⊥

-- two blocks have no position of a file in common
abbrev pub AreApart : Block → Block → Type 0
AreApart b c = b.file ≡ c.file → (k : ℕ) → IsTrue (is_in k (span_of b)) → IsTrue (is_in k (span_of c)) → ⊥

-- a block on its way: its file is known, the block ends within it, and nothing of it is there
pub record IsOnWay (known : List (Option KnownFile)) (files : List NamedFile) (part : Part) : Type 0 where
  pub file : KnownFile
  pub known_as : known_at known part.block.file ≡ Some file
  pub within : part.block.offset + part.block.length ≤ file.size
  pub few : part.block.length ≤ MAX_BLOCK
  pub left : part.left ≤ part.block.length
  pub clear : IsClearOf files part.block

-- The blocks on their way, by lane: any two are apart, and with all of them there are no more spans and bytes
-- than a transfer may have.
pub record AreOnWay (known : List (Option KnownFile)) (files : List NamedFile) (parts : List (Option Part)) : Type 0 where
  pub each : (lane : ℕ) (part : Part) → part_of parts lane ≡ Some part → IsOnWay known files part
  pub apart : (l m : ℕ) (p q : Part) → (l ≡ m → ⊥) → part_of parts l ≡ Some p → part_of parts m ≡ Some q → AreApart p.block q.block
  pub spans : spans_with (map marked_of files) (blocks_of parts) ≤ MAX_SPANS
  pub bytes : bytes_with (map marked_of files) (blocks_of parts) ≤ MAX_TOTAL

-- the known files are as files are, some of them are named, and the blocks on their way can land
pub record AreSound (known : List (Option KnownFile)) (files : List NamedFile) (parts : List (Option Part)) : Type 0 where
  pub are_files : AreFiles known
  pub are_named : AreNamed known files
  pub way : AreOnWay known files parts

-- the files that a block on its way leads to, and the others, which stay on their way
pub record IsSettled (known : List (Option KnownFile)) (files : List NamedFile) (parts : List (Option Part)) (l : ℕ) (p : Part) (more : List NamedFile) : Type 0 where
  pub adds : all_added written_version files (block_entries known files p.block) ≡ Some more
  pub named : AreNamed known more
  pub way : AreOnWay known more (slice_set parts l None)
