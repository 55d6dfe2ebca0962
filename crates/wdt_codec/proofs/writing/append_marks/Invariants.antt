use Rattle.wdt_codec.specs.Frames.{spell_mark}
use Rattle.wdt_codec.proofs.Appending.{Appended}
use Rattle.wdt_codec.proofs.writing.append_marks.Given as goal

abbrev pub invariant-loop-mark : goal.invariant-loop-mark
invariant-loop-mark l = Appended spell_mark l.initial.into.items l.marks l.mark-index l.into.items
