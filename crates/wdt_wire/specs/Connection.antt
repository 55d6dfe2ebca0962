-- One direction of a connection by its whole history: what was written, how much of it was taken, and
-- where it is cut. A wire keeps only what is on its way.
use Rattle.std.specs.Prelude.{◌≡◌, ℕ, ◌+◌, ◌-◌, ◌≤◌, List, [], ◌++◌, length, drop, Option, Some, None, IfSome}
use Rattle.wdt_wire.specs.Ways.{PlainWay, arriving, lower}

-- the bytes that were written, as far as they arrive; how many of them were taken; and, once it is cut, how
-- many arrive in all
pub record Direction : Type 0 where
  pub written : List ℕ
  pub taken : ℕ
  pub limit : Option ℕ

-- what was taken is a front of what was written, which ends at the limit
pub record IsDirection (d : Direction) : Type 0 where
  pub front : d.taken ≤ length d.written
  pub within : IfSome d.limit (λ limit. length d.written ≤ limit)

-- nothing was written
abbrev pub new_direction : Direction
new_direction = record { written = []; taken = 0; limit = None }

-- bytes are written: behind a cut they count up to the limit
abbrev pub write : List ℕ → Direction → Direction
write bytes d = record d { written = arriving d.limit (d.written ++ bytes) }

-- so many bytes more are taken
abbrev pub taking : ℕ → Direction → Direction
taking n d = record d { taken = d.taken + n }

-- of the bytes that weren't taken, and of those still to be written, only so many arrive
abbrev pub cut : ℕ → Direction → Direction
cut n d = record d { written = arriving (lower d.limit (d.taken + n)) d.written; limit = lower d.limit (d.taken + n) }

-- how many bytes arrive that weren't taken, once it is cut
abbrev pub room_of : Option ℕ → ℕ → Option ℕ
room_of None taken = None
room_of (Some limit) taken = Some (limit - taken)

-- a wire's direction holds what that history leaves to be taken
pub record Holds (d : Direction) (way : PlainWay) : Type 0 where
  pub sound : IsDirection d
  pub untaken : way.untaken ≡ drop d.taken d.written
  pub room : way.room ≡ room_of d.limit d.taken
