-- A stream: the spellings of frames, each block's followed by exactly its length in raw bytes. And
-- what a reader of it holds.
use Rattle.std.specs.Prelude.{◌≡◌, ℕ, List, [], ◌∷◌, ◌++◌, length}
use Rattle.wdt_codec.specs.declared.frames.Frame.{Frame}
use Rattle.wdt_codec.specs.Frames.{Fits, owed_by, spell}

-- a frame, and the raw bytes behind it
pub record Message : Type 0 where
  pub frame : Frame
  pub raw : List ℕ

-- the frame is in the grammar, and as many raw bytes follow as it says
pub record IsMessage (m : Message) : Type 0 where
  pub fits : Fits m.frame
  pub whole : length m.raw ≡ owed_by m.frame

-- each of them is a message
abbrev pub AreMessages : List Message → Type 0
AreMessages [] = Unit {0}
AreMessages (m ∷ ms) = IsMessage m × AreMessages ms

-- the spelling of a frame, and the raw bytes behind it
abbrev pub spell_message : Message → List ℕ
spell_message m = spell m.frame ++ m.raw

-- the bytes of messages, one behind the other
abbrev pub stream_of : List Message → List ℕ
stream_of [] = []
stream_of (m ∷ ms) = spell_message m ++ stream_of ms

-- what a reader holds: the bytes that were fed and not taken, and how many bytes of the last block
-- are still to be taken
pub record Held : Type 0 where
  pub untaken : List ℕ
  pub owed : ℕ
