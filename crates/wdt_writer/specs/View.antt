-- What contracts see of a writer.
use Rattle.wdt_writer.specs.declared.writer.Writer.TheInside.{Inside}
use Rattle.wdt_writer.specs.Kept.{IsWriting, writer_of}
use Rattle.wdt_writer.specs.PlainWriter.{PlainWriter}

-- what a writer is seen as
abbrev pub seen : Inside → PlainWriter
seen w = writer_of w.files w.pending.items w.unlogged.items w.parts.items w.last

-- what a writer keeps hangs together
abbrev pub IsKept : Inside → Type 0
IsKept w = IsWriting w.files w.unlogged.items w.unlogged_bytes w.parts.items w.last
