use Rattle.std.proofs.Common.{◌≡◌, drop}
use Rattle.std.specs.List.{list_any}
use Rattle.wdt_logfmt.specs.Beginning.{is_of_file}
use Rattle.wdt_writer.specs.PlainWriter.{blocks_of}
use Rattle.wdt_writer.proofs.faults.is_begun.Given as goal

-- with what is left it is what all of them give
abbrev pub invariant-loop-part : goal.invariant-loop-part
invariant-loop-part l = list_any (is_of_file l.number) (blocks_of (drop l.part-index l.parts)) ≡ list_any (is_of_file l.number) (blocks_of l.parts)
