-- A connection between two ends, both ways.
use Rattle.std.specs.Prelude.{◌≡◌, ℕ, Bool, true, false, not, ◌||◌, is_some, ◌-◌, ◌≤◌, ◌<◌, length, take, List, if◌then◌else◌}
use Rattle.wdt_codec.specs.Frames.{owed_by, spell}
use Rattle.wdt_codec.specs.Grammar.{IsFrame}
use Rattle.wdt_wire.specs.declared.side.Side.{Side}
use Rattle.wdt_wire.specs.declared.side.Side.TheVariants.{Down, Up}
use Rattle.wdt_wire.specs.declared.taken.Taken.{Taken}
use Rattle.wdt_wire.specs.declared.taken.Taken.TheVariants as found
use Rattle.wdt_wire.specs.Ways.{PlainWay, HasNoFrame, behind, cut_way, new_way, with_bytes}

-- both directions, and which ends have left
pub record PlainWire : Type 0 where
  pub down : PlainWay
  pub up : PlainWay
  pub sender_left : Bool
  pub receiver_left : Bool

-- a connection that was just made
abbrev pub new_wire : PlainWire
new_wire = record { down = new_way; up = new_way; sender_left = false; receiver_left = false }

-- one of its directions
abbrev pub way_of : PlainWire → Side → PlainWay
way_of w Down = w.down
way_of w Up = w.up

-- the direction is so now
abbrev pub with_way : PlainWire → Side → PlainWay → PlainWire
with_way w Down way = record w { down = way }
with_way w Up way = record w { up = way }

-- the end that writes in this direction has left
abbrev pub writer_left : PlainWire → Side → Bool
writer_left w Down = w.sender_left
writer_left w Up = w.receiver_left

-- the end that reads in this direction has left
abbrev pub reader_left : PlainWire → Side → Bool
reader_left w Down = w.receiver_left
reader_left w Up = w.sender_left

-- the direction is cut
abbrev pub is_cut : PlainWire → Side → Bool
is_cut w side = is_some (way_of w side).room

-- a write succeeds: the connection is neither cut nor left by the other end
abbrev pub can_write : PlainWire → Side → Bool
can_write w side = not (is_cut w side || reader_left w side)

-- nothing more comes than what is there: the connection is cut, or left by the other end
abbrev pub is_lost : PlainWire → Side → Bool
is_lost w side = is_cut w side || writer_left w side

-- bytes are written: as many of them arrive as a cut lets, and none where the other end has left
abbrev pub written : PlainWire → Side → List ℕ → PlainWire
written w side bytes = if reader_left w side then w else with_way w side (with_bytes bytes (way_of w side))

-- the connection is cut: so many bytes still arrive in each direction
abbrev pub cut_wire : ℕ → ℕ → PlainWire → PlainWire
cut_wire down up w = record w { down = cut_way down w.down; up = cut_way up w.up }

-- an end leaves, which is the one that writes in this direction
abbrev pub left_by : PlainWire → Side → PlainWire
left_by w Down = record w { sender_left = true }
left_by w Up = record w { receiver_left = true }

-- a frame that was at the front is taken; or none was whole, and what was found says whether one may come
abbrev pub FindsFrame : Side → Taken → PlainWire → PlainWire → Type 0
FindsFrame side (found.Frame f) old new =
    IsFrame (way_of old side).untaken f (way_of new side).untaken
    × (new ≡ with_way old side (behind (length (spell f)) (owed_by f) (way_of old side)))
FindsFrame side (found.Piece bytes) old new = ⊥
FindsFrame side found.Nothing old new = HasNoFrame (way_of old side) × (is_lost old side ≡ false) × (new ≡ old)
FindsFrame side found.Lost old new = HasNoFrame (way_of old side) × (is_lost old side ≡ true) × (new ≡ old)

-- so many bytes of a block were there, and are taken; or there were fewer
abbrev pub FindsPiece : Side → ℕ → Taken → PlainWire → PlainWire → Type 0
FindsPiece side n (found.Frame f) old new = ⊥
FindsPiece side n (found.Piece bytes) old new =
    (n ≤ length (way_of old side).untaken)
    × (bytes.items ≡ take n (way_of old side).untaken)
    × (new ≡ with_way old side (behind n ((way_of old side).owed - n) (way_of old side)))
FindsPiece side n found.Nothing old new = (length (way_of old side).untaken < n) × (is_lost old side ≡ false) × (new ≡ old)
FindsPiece side n found.Lost old new = (length (way_of old side).untaken < n) × (is_lost old side ≡ true) × (new ≡ old)
