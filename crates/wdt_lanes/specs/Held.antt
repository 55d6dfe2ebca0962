-- A dialer or an acceptor with the connection of it that a lane holds.
use Rattle.std.specs.Prelude.{◌≡◌, ◌≤◌, ◌⊎◌, ℕ, Bool, true, Option, Some, None, IfSome}
use Rattle.wdt_units.specs.Counts.{Rises}

-- how many connections are held
abbrev pub held_count : {L : Type 0} → Option L → ℕ
held_count None = 0
held_count (Some link) = 1

-- the connection that is held is the dialer's own, and the only one of it that is out
pub record IsHeld {D L : Type 0} (mark out : D → ℕ) (link_mark : L → ℕ) (dialer : D) (link : Option L) : Type 0 where
  pub alone : out dialer ≡ held_count link
  pub own : IfSome link (λ l. link_mark l ≡ mark dialer)

-- what the connection tells, if one is held
abbrev pub told_in : {L T : Type 0} → (L → Option T) → Option L → Option T
told_in told None = None
told_in told (Some link) = told link

-- a count that doesn't fall, and rose where this came
pub record RoseFor (came : Bool) (old new : ℕ) : Type 0 where
  pub later : old ≤ new
  pub rose : came ≡ true → Rises old new

-- a count that doesn't fall, and a flag that was there or came with a rise of it
pub record Flagged (was is : Bool) (old new : ℕ) : Type 0 where
  pub later : old ≤ new
  pub rose : is ≡ true → (was ≡ true) ⊎ Rises old new
