-- What a queue is seen as.
use Rattle.std.specs.Prelude.{◌≡◌, ℕ, ◌+◌, Option, Some, None, List, [], ◌∷◌}
use Rattle.wdt_units.specs.declared.blocks.Block.{Block}

-- the blocks that wait, in their order, and how many more the queue can take without memory
pub record Waiting : Type 0 where
  pub waiting : List Block
  pub room : ℕ

-- nothing was taken, because nothing waits; or the least block was, and left its room
abbrev pub TakesLeast : Waiting → Option Block → Waiting → Type 0
TakesLeast old None new = (old.waiting ≡ []) × (new ≡ old)
TakesLeast old (Some block) new = (old.waiting ≡ block ∷ new.waiting) × (new.room ≡ old.room + 1)
