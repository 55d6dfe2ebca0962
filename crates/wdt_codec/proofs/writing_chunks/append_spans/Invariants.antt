use Rattle.std.proofs.Common.{◌≡◌, ◌++◌, length, take}
use Rattle.wdt_codec.specs.Chunks.{spell_spans}
use Rattle.wdt_codec.proofs.writing_chunks.append_spans.Given as goal

abbrev pub invariant-loop-span : goal.invariant-loop-span
invariant-loop-span l = record {
  so_far : l.into.items ++ spell_spans l.span-iterator ≡ l.fn.into.items ++ spell_spans l.fn.spans;
  begun : take (length l.fn.into.items) l.into.items ≡ l.fn.into.items;
}
