use Rattle.std.proofs.Common.{◌≡◌, ◌+◌, ◌++◌, length, IsTrue, drop}
use Rattle.wdt_claims.specs.Blocks.{are_rising, HaveSameBlocks}
use Rattle.wdt_history.proofs.lane.put_back.Given as goal

abbrev pub invariant-loop-left : goal.invariant-loop-left
invariant-loop-left l = record {
  blocks : HaveSameBlocks l.queue.waiting (l.initial.queue.waiting ++ drop l.left l.blocks);
  rising : IsTrue (are_rising l.initial.queue.waiting) → IsTrue (are_rising l.queue.waiting);
  room : l.queue.room + length l.blocks ≡ l.initial.queue.room + l.left;
}
