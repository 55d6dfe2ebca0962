-- What a sender says on a connection, with its bytes.
use Rattle.std.specs.Prelude.{ℕ, List, length}
use Rattle.wdt_codec.specs.Frames.{Fits, spell}
use Rattle.wdt_codec.specs.declared.frames.Frame.{Frame}
use Rattle.wdt_sender_fsm.specs.Phases.{Message, Framed, Piece}

-- a frame, or bytes of a block
pub data Said : Type 0 where
  SaidFrame : Frame → Said
  SaidBytes : List ℕ → Said

-- the message that it is: of bytes it tells how many they are
abbrev pub message_of : Said → Message
message_of (SaidFrame frame) = Framed frame
message_of (SaidBytes bytes) = Piece (length bytes)

-- how it is written
abbrev pub written_as : Said → List ℕ
written_as (SaidFrame frame) = spell frame
written_as (SaidBytes bytes) = bytes

-- a frame lies in the grammar's ranges
abbrev pub FitsSaid : Said → Type 0
FitsSaid (SaidFrame frame) = Fits frame
FitsSaid (SaidBytes bytes) = Unit {0}
