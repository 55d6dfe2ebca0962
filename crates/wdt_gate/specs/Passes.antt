-- The passes of a hub over a lock, as contracts see them.
use Rattle.std.specs.Prelude.{◌≡◌, ℕ, List}
use Rattle.std.specs.List.{sum_by}

-- the pass of a lane: the machine's count that it saw last, and how many turns it made
pub record LanePass : Type 0 where
  pub lane : ℕ
  pub seen : ℕ
  pub turns : ℕ

-- no turn was made by it yet, and it has seen this count
pub record IsFresh (seen : ℕ) (pass : LanePass) : Type 0 where
  pub seen_is : pass.seen ≡ seen
  pub turns_are : pass.turns ≡ 0

-- how many turns these passes made
abbrev pub turns_of : List LanePass → ℕ
turns_of passes = sum_by (λ pass. pass.turns) passes
