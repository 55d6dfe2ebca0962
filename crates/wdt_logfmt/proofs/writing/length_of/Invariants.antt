use Rattle.std.proofs.Common.{◌≡◌, length, take}
use Rattle.wdt_logfmt.specs.Spelling.{spell_all}
use Rattle.wdt_logfmt.proofs.writing.length_of.Given as goal

abbrev pub invariant-loop-entry : goal.invariant-loop-entry
invariant-loop-entry l = l.total ≡ length (spell_all (take l.entry-index l.entries))
