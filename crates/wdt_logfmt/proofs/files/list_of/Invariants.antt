use Rattle.wdt_logfmt.specs.View.{named_files}
use Rattle.wdt_logfmt.proofs.Slots.{IsListed}
use Rattle.wdt_logfmt.proofs.files.list_of.Given as goal

abbrev pub invariant-loop-number : goal.invariant-loop-number
invariant-loop-number l = IsListed l.initial.slots.items l.slots.items l.number (named_files l.files.items)
