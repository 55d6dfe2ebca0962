use Rattle.wdt_ranges.proofs.InOrder.{IsWalk}
use Rattle.std.proofs.Common.{map}
use Rattle.wdt_ranges.specs.Files.{have_file}
use Rattle.wdt_ranges.proofs.have.is_in_order.Given as goal

abbrev pub invariant-loop-at : goal.invariant-loop-at
invariant-loop-at l = IsWalk (map have_file l.files) l.at
