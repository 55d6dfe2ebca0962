-- Connections, by messages: what was handed to a write in each direction and wasn't taken.
use Rattle.std.specs.Prelude.{ℕ, ◌-◌, min, nat_le, Bool, true, false, List, [], ◌∷◌, ◌++◌, length, is_some, Option, Some, None}
use Rattle.wdt_codec.specs.Frames.{spell}
use Rattle.wdt_codec.specs.declared.frames.Frame.{Frame}
use Rattle.wdt_sender_fsm.specs.Phases.{Message, Framed, Piece}

-- ---- one direction

-- what was handed to a write and not taken, whether or not it can be taken; and, once the connection is
-- cut, how many bytes of it can be
pub record Way (M : Type 0) : Type 0 where
  pub sent : List M
  pub room : Option ℕ

-- nothing was written, and nothing is cut
abbrev pub no_way : {M : Type 0} → Way M
no_way = record { sent = []; room = None }

-- how many bytes a message of the sender has
abbrev pub size_down : Message → ℕ
size_down (Framed frame) = length (spell frame)
size_down (Piece n) = n

-- how many bytes a frame of the receiver has
abbrev pub size_up : Frame → ℕ
size_up frame = length (spell frame)

-- so many bytes can be taken
abbrev pub has_room : Option ℕ → ℕ → Bool
has_room None n = true
has_room (Some room) n = nat_le n room

-- so many bytes are taken
abbrev pub less : Option ℕ → ℕ → Option ℕ
less None n = None
less (Some room) n = Some (room - n)

-- a cut leaves so many bytes, or what an earlier cut left
abbrev pub lower : Option ℕ → ℕ → Option ℕ
lower None n = Some n
lower (Some room) n = Some (min room n)

-- the direction is cut
abbrev pub is_cut : {M : Type 0} → Way M → Bool
is_cut way = is_some way.room

-- a message and what is behind it, where it can be taken whole
abbrev pub front_by : {M : Type 0} → Bool → M → Way M → Option (M × Way M)
front_by true m rest = Some (m, rest)
front_by false m rest = None

-- the first of these messages and what is behind it, where so much can be taken
abbrev pub front_of : {M : Type 0} → (M → ℕ) → List M → Option ℕ → Option (M × Way M)
front_of size [] room = None
front_of size (m ∷ ms) room = front_by (has_room room (size m)) m record { sent = ms; room = less room (size m) }

-- the message at the front and what is behind it, where it can be taken whole
abbrev pub front : {M : Type 0} → (M → ℕ) → Way M → Option (M × Way M)
front size way = front_of size way.sent way.room

-- messages are handed to a write
abbrev pub with_sent : {M : Type 0} → Way M → List M → Way M
with_sent way ms = record { sent = way.sent ++ ms; room = way.room }

-- the direction is cut: so many of the bytes that weren't taken, and of those still to be written, can be
abbrev pub cut_way : {M : Type 0} → ℕ → Way M → Way M
cut_way n way = record { sent = way.sent; room = lower way.room n }

-- ---- a connection

-- a connection: what the sender says goes down, what the receiver says goes up. Whether the sender was told
-- its count on it is noted here for the proofs.
pub record Link : Type 0 where
  pub down : Way Message
  pub up : Way Frame
  pub greeted : Bool

-- a connection that was just made
abbrev pub new_link : Link
new_link = record { down = no_way; up = no_way; greeted = false }

-- so many bytes can be taken in each direction
abbrev pub cut_link : ℕ → ℕ → Link → Link
cut_link down up k = record { down = cut_way down k.down; up = cut_way up k.up; greeted = k.greeted }

-- the sender's lane was told its count on the connection, or wasn't
abbrev pub note_greeted : Bool → Link → Link
note_greeted greeted k = record k { greeted = greeted }
