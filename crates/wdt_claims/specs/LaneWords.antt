-- What a sender's lane has claimed, and what each step makes of it.
use Rattle.std.specs.Prelude.{ℕ, Bool, true, false, List, [], ◌∷◌, ◌++◌, length, take, Option, Some, None}
use Rattle.wdt_units.specs.declared.blocks.Block.{Block}

-- the blocks that a lane holds, in the order in which it claimed them; how many of the first of them
-- have surely landed; whether the last is still being written; and, where the lane is closed, the
-- count that closed it
pub record Claims : Type 0 where
  pub kept : List Block
  pub sure : ℕ
  pub held : Bool
  pub closed : Option ℕ

-- a lane that claimed nothing
abbrev pub no_claims : Claims
no_claims = record { kept = []; sure = 0; held = false; closed = None }

-- a block was claimed: it stands last, and is being written
abbrev pub claimed : Block → Claims → Claims
claimed b s = record { kept = s.kept ++ b ∷ []; sure = s.sure; held = true; closed = s.closed }

-- the last block was written whole
abbrev pub sent : Claims → Claims
sent s = record { kept = s.kept; sure = s.sure; held = false; closed = s.closed }

-- a checkpoint: the first n blocks have landed, and of the block behind them so many bytes (which this
-- version of the wire always tells as 0); the others go back to the queue
abbrev pub cut_to : ℕ → ℕ → Claims → Claims
cut_to n part s = record { kept = take n s.kept; sure = n; held = false; closed = s.closed }

-- the checkpoint of a lane that the receiver has closed
abbrev pub closed_at : ℕ → ℕ → Claims → Claims
closed_at n part s = record { kept = take n s.kept; sure = n; held = false; closed = Some n }

-- the finish: all blocks have landed
abbrev pub finished : Claims → Claims
finished s = record { kept = s.kept; sure = length s.kept; held = false; closed = s.closed }
