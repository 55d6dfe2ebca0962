use Rattle.std.proofs.Common.{◌≡◌, ◌≤◌, length, drop}
use Rattle.wdt_logfmt.specs.Batches.{numbers_of}
use Rattle.wdt_writer.proofs.landing.set_of_numbers.Given as goal

-- the numbers of the blocks that were gone over, from the last on
abbrev pub invariant-loop-left : goal.invariant-loop-left
invariant-loop-left l = record { within : l.left ≤ length l.blocks; so_far : l.numbers.keys ≡ numbers_of (drop l.left l.blocks) }

abbrev pub decreases-loop-left : goal.decreases-loop-left
decreases-loop-left l = l.left
