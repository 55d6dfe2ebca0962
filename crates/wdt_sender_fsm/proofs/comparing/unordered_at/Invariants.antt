use Rattle.std.proofs.Common.{map}
use Rattle.wdt_ranges.specs.Files.{have_file}
use Rattle.wdt_sender_fsm.proofs.lemmas.Compares.{IsOrderedTo}
use Rattle.wdt_sender_fsm.proofs.comparing.unordered_at.Given as goal

abbrev pub invariant-loop-at : goal.invariant-loop-at
invariant-loop-at l = IsOrderedTo (map have_file l.files) l.at
