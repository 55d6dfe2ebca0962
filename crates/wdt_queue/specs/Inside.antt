-- How a queue keeps its blocks: the greatest first, so that the least is taken from the end.
use Rattle.std.specs.Prelude.{◌-◌, ◌≤◌, ◌<◌, ◌^◌, IsTrue, reverse, vec_len, vec_capacity}
use Rattle.wdt_claims.specs.Blocks.{are_rising}
use Rattle.wdt_queue.specs.declared.queue.Queue.TheInside.{Inside}
use Rattle.wdt_queue.specs.Waiting.{Waiting}

-- what a queue is seen as: its blocks from the last kept to the first, and the room that is left of its most
abbrev pub seen : Inside → Waiting
seen q = record { waiting = reverse q.blocks.items; room = q.most - vec_len q.blocks }

-- the blocks rise from the last kept to the first, and the vector has room for the most that may wait
pub record IsQueue (q : Inside) : Type 0 where
  pub rising : IsTrue (are_rising (reverse q.blocks.items))
  pub within : vec_len q.blocks ≤ q.most
  pub room : q.most ≤ vec_capacity q.blocks
  pub few : q.most < 2 ^ 31
