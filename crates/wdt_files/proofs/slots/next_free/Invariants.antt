use Rattle.std.proofs.Common.{◌≤◌, map}
use Rattle.wdt_logfmt.specs.Beginning.{free_number}
use Rattle.wdt_files.specs.Slots.{known_in}
use Rattle.wdt_files.proofs.slots.next_free.Given as goal

abbrev pub invariant-loop-number : goal.invariant-loop-number
invariant-loop-number l = l.number ≤ free_number (map known_in l.slots)
