use Rattle.std.proofs.Common.{◌≡◌, ℕ, List, map, take}
use Rattle.wdt_logfmt.specs.Beginning.{number_of}
use Rattle.wdt_files.specs.Slots.{known_in, number_in}
use Rattle.wdt_files.proofs.opening.numbers_of.Given as goal

abbrev pub invariant-loop-number : goal.invariant-loop-number
invariant-loop-number l = (path : List ℕ) → number_in l.numbers path ≡ number_of (map known_in (take l.number l.slots)) path
