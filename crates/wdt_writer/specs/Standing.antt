-- What stands in the way of a block, lane by lane.
use Rattle.std.specs.Prelude.{ℕ, ◌==◌, List, map, filter, Option, Some, None, if◌then◌else◌}
use Rattle.wdt_units.specs.Have.{PlainSpan}
use Rattle.wdt_units.specs.declared.blocks.Block.{Block}
use Rattle.wdt_logfmt.specs.Beginning.{first_in_both, is_of_file, span_of}
use Rattle.wdt_writer.specs.declared.parts.Part.{Part}
use Rattle.wdt_writer.specs.PlainWriter.{blocks_of}

-- the positions of the begun blocks of a file
abbrev pub begun_spans : ℕ → List (Option Part) → List PlainSpan
begun_spans number parts = map span_of (filter (is_of_file number) (blocks_of parts))

-- the least position that a block has in common with the one that is begun on a lane
abbrev pub first_with : Block → Option Part → Option ℕ
first_with b None = None
first_with b (Some part) = if part.block.file == b.file then first_in_both (span_of b) (span_of part.block) else None
