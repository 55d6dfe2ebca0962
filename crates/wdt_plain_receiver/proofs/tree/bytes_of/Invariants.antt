use Rattle.std.proofs.Common.{◌≡◌, length}
use Rattle.wdt_plain_receiver.proofs.tree.bytes_of.Given as goal

abbrev pub invariant-loop-at : goal.invariant-loop-at
invariant-loop-at l = length l.bytes.items ≡ l.at
