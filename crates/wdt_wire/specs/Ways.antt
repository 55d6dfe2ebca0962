-- One direction of a connection: the bytes that can be taken.
use Rattle.std.specs.Prelude.{◌≡◌, ℕ, ◌-◌, ◌≤◌, ◌<◌, min, List, [], ◌++◌, length, take, drop, Option, Some, None, Vec}
use Rattle.std.specs.declared.alloc.Global.{Global}
use Rattle.wdt_codec.specs.declared.frames.Frame.{Frame}
use Rattle.wdt_codec.specs.Frames.{owed_by, spell}
use Rattle.wdt_codec.specs.Grammar.{IsFrame}

-- the bytes that were written and not taken, as far as they arrive; how many bytes of the last block that
-- was taken are owed; and, once the direction is cut, how many bytes still arrive
pub record PlainWay : Type 0 where
  pub untaken : List ℕ
  pub owed : ℕ
  pub room : Option ℕ

-- a direction in which nothing was written
abbrev pub new_way : PlainWay
new_way = record { untaken = []; owed = 0; room = None }

-- what arrives of some bytes
abbrev pub arriving : Option ℕ → List ℕ → List ℕ
arriving None bytes = bytes
arriving (Some room) bytes = take room bytes

-- how many arrive of so many more, behind those that wait
abbrev pub arriving_count : Option ℕ → ℕ → ℕ → ℕ
arriving_count None waiting n = n
arriving_count (Some room) waiting n = min (room - waiting) n

-- so many bytes are taken
abbrev pub less : Option ℕ → ℕ → Option ℕ
less None n = None
less (Some room) n = Some (room - n)

-- a cut leaves so many bytes, or what an earlier cut left
abbrev pub lower : Option ℕ → ℕ → Option ℕ
lower None n = Some n
lower (Some room) n = Some (min room n)

-- bytes are written behind those that are there
abbrev pub with_bytes : List ℕ → PlainWay → PlainWay
with_bytes bytes way = record way { untaken = arriving way.room (way.untaken ++ bytes) }

-- so many bytes are taken from the front, behind which so many are owed
abbrev pub behind : ℕ → ℕ → PlainWay → PlainWay
behind n owed way = record { untaken = drop n way.untaken; owed = owed; room = less way.room n }

-- the direction is cut: so many bytes still arrive
abbrev pub cut_way : ℕ → PlainWay → PlainWay
cut_way n way = record way { untaken = take n way.untaken; room = lower way.room n }

-- no frame is whole
abbrev pub HasNoFrame : PlainWay → Type 0
HasNoFrame way = (f : Frame) (rest : List ℕ) → IsFrame way.untaken f rest → ⊥

-- a frame was at the front, and is taken; or none was whole, and nothing is
abbrev pub TakesFrame : Option Frame → PlainWay → PlainWay → Type 0
TakesFrame (Some f) old new = IsFrame old.untaken f new.untaken × (new ≡ behind (length (spell f)) (owed_by f) old)
TakesFrame None old new = HasNoFrame old × (new ≡ old)

-- so many bytes were there, and are taken; or there were fewer, and nothing is
abbrev pub TakesPiece : ℕ → Option (Vec ℕ Global) → PlainWay → PlainWay → Type 0
TakesPiece n (Some piece) old new = (n ≤ length old.untaken) × (piece.items ≡ take n old.untaken) × (new ≡ behind n (old.owed - n) old)
TakesPiece n None old new = (length old.untaken < n) × (new ≡ old)
