use Rattle.std.proofs.Common.{map}
use Rattle.wdt_codec.specs.Chunks.{spell_file}
use Rattle.wdt_ranges.specs.Files.{have_file}
use Rattle.wdt_codec.proofs.Appending.{Appended}
use Rattle.wdt_codec.proofs.writing_chunks.append_files.Given as goal

abbrev pub invariant-loop-file : goal.invariant-loop-file
invariant-loop-file l = Appended spell_file l.initial.into.items (map have_file l.files) l.file-index l.into.items
