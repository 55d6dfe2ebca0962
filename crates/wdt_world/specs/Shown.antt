-- When connections in bytes are those of a world by messages.
use Rattle.std.specs.Prelude.{◌≡◌, Bool, false, List, [], ◌∷◌, map, Option, Some, None}
use Rattle.std.specs.List.{flat_map}
use Rattle.wdt_codec.specs.Frames.{Fits, owed_by}
use Rattle.wdt_codec.specs.declared.frames.Frame.{Frame}
use Rattle.wdt_sender_fsm.specs.Phases.{Message}
use Rattle.wdt_wire.specs.Ways.{PlainWay, arriving}
use Rattle.wdt_wire.specs.Wires.{PlainWire}
use Rattle.wdt_pact.specs.Each.{Each}
use Rattle.wdt_pact.specs.Bytes.{spell_up}
use Rattle.wdt_pact.specs.Links.{Link, Way}
use Rattle.wdt_world.specs.Said.{FitsSaid, Said, message_of, written_as}

-- the bytes that can be taken downwards are those of these messages, whatever the blocks hold
pub record ShowsDown (way : PlainWay) (sends : Way Message) : Type 0 where
  pub said : List Said
  pub messages : map message_of said ≡ sends.sent
  pub fits : Each FitsSaid said
  pub untaken : way.untaken ≡ arriving sends.room (flat_map written_as said)
  pub room : way.room ≡ sends.room

-- the receiver's own frame: it lies in the grammar's ranges, and no bytes of a block follow it
abbrev pub IsAnswer : Frame → Type 0
IsAnswer frame = Fits frame × (owed_by frame ≡ 0)

-- the bytes that can be taken upwards are those of these frames, and no bytes of a block are owed there
pub record ShowsUp (way : PlainWay) (sends : Way Frame) : Type 0 where
  pub fits : Each IsAnswer sends.sent
  pub owed : way.owed ≡ 0
  pub untaken : way.untaken ≡ arriving sends.room (spell_up sends.sent)
  pub room : way.room ≡ sends.room

-- A wire is a connection, on which the ends have left or haven't. What goes to an end that has left nobody reads,
-- so nothing is said of it.
pub record ShowsLink (send_gone recv_gone : Bool) (wire : PlainWire) (link : Link) : Type 0 where
  pub sender : wire.sender_left ≡ send_gone
  pub receiver : wire.receiver_left ≡ recv_gone
  pub down : recv_gone ≡ false → ShowsDown wire.down link.down
  pub up : send_gone ≡ false → ShowsUp wire.up link.up

-- the same of one that may be there
abbrev pub ShowsBy : Bool → Bool → Option PlainWire → Option Link → Type 0
ShowsBy send_gone recv_gone None None = Unit {0}
ShowsBy send_gone recv_gone (Some wire) (Some link) = ShowsLink send_gone recv_gone wire link
ShowsBy send_gone recv_gone _ _ = ⊥

-- the same of each of some
abbrev pub ShowsAll : Bool → Bool → List PlainWire → List Link → Type 0
ShowsAll send_gone recv_gone [] [] = Unit {0}
ShowsAll send_gone recv_gone (wire ∷ wires) (link ∷ links) = ShowsLink send_gone recv_gone wire link × ShowsAll send_gone recv_gone wires links
ShowsAll send_gone recv_gone _ _ = ⊥
