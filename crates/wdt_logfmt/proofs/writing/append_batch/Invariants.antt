use Rattle.std.proofs.Common.{◌≡◌, ◌++◌, take}
use Rattle.wdt_logfmt.specs.Spelling.{spell_all, AllFit}
use Rattle.wdt_logfmt.proofs.writing.append_batch.Given as goal

abbrev pub invariant-loop-entry : goal.invariant-loop-entry
invariant-loop-entry l = record {
  spelled : l.into.items ≡ l.initial.into.items ++ spell_all (take l.entry-index l.entries);
  fits : AllFit (take l.entry-index l.entries);
}
