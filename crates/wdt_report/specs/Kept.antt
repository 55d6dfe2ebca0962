-- What the code keeps of a lane's claims, which no clause above tells.
use Rattle.std.specs.Prelude.{ℕ, ◌==◌, Bool, true, false, if◌then◌else◌, List, [], ◌∷◌, ◌++◌, length, take, is_some}
use Rattle.wdt_units.specs.declared.blocks.Block.{Block}
use Rattle.wdt_claims.specs.LaneWords.{Claims}
use Rattle.wdt_sender_fsm.specs.declared.events.SendEvent.{SendEvent}
use Rattle.wdt_sender_fsm.specs.declared.events.SendEvent.TheVariants.{Claim, Greet, Global, Finish}

-- the blocks on a lane's list, how many of the first of them have surely landed, and whether the lane is closed
pub record KeptView : Type 0 where
  pub blocks : List Block
  pub sure : ℕ
  pub is_closed : Bool

-- that of what a lane has claimed
abbrev pub kept_of : Claims → KeptView
kept_of s = record { blocks = s.kept; sure = s.sure; is_closed = is_some s.closed }

-- one more block
abbrev pub with_block : Block → KeptView → KeptView
with_block b k = record { blocks = k.blocks ++ b ∷ []; sure = k.sure; is_closed = k.is_closed }

-- the first n blocks alone, which have landed
abbrev pub cut_kept : ℕ → KeptView → KeptView
cut_kept n k = record { blocks = take n k.blocks; sure = n; is_closed = k.is_closed }

-- the same of a lane that is closed, unless it was closed before
abbrev pub close_kept : Bool → ℕ → KeptView → KeptView
close_kept true n k = k
close_kept false n k = record { blocks = take n k.blocks; sure = n; is_closed = true }

-- all blocks have landed
abbrev pub finish_kept : KeptView → KeptView
finish_kept k = record { blocks = k.blocks; sure = length k.blocks; is_closed = k.is_closed }

-- what is kept of lane l behind an entry
abbrev pub kept_after : ℕ → KeptView → SendEvent → KeptView
kept_after l k (Claim of b) = if of.0 == l then with_block b k else k
kept_after l k (Greet of n) = if of.0 == l then cut_kept n k else k
kept_after l k (Global by of n) = if of.0 == l then close_kept k.is_closed n k else k
kept_after l k (Finish of) = finish_kept k
kept_after l k _ = k
