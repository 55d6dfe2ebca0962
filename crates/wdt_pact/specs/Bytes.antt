-- What the messages of a connection are in bytes.
use Rattle.std.specs.Prelude.{◌≡◌, ℕ, ◌≤◌, List, [], ◌∷◌, ◌++◌, length, take, drop, Option, Some, None}
use Rattle.std.specs.List.{flat_map}
use Rattle.wdt_units.specs.declared.blocks.Header.{Header}
use Rattle.wdt_codec.specs.Frames.{Fits, spell}
use Rattle.wdt_codec.specs.Grammar.{IsFrame, IsFront}
use Rattle.wdt_codec.specs.declared.frames.Frame.{Frame}
use Rattle.wdt_codec.specs.declared.frames.Frame.TheVariants as frames
use Rattle.wdt_sender_fsm.specs.Phases.{Message, Framed, Piece}
use Rattle.wdt_pact.specs.Links.{Way}

-- what can be taken of some bytes
abbrev pub taken_by : Option ℕ → List ℕ → List ℕ
taken_by None bytes = bytes
taken_by (Some n) bytes = take n bytes

-- frames in bytes
abbrev pub spell_up : List Frame → List ℕ
spell_up fs = flat_map spell fs

-- the raw bytes that follow a frame, by what the blocks hold
abbrev pub raw_by : (Header → List ℕ) → Frame → List ℕ
raw_by content (frames.Block h) = content h
raw_by content _ = []

-- messages of the sender in bytes, where so many of the last block are left: its pieces are of these
abbrev pub spell_down : (Header → List ℕ) → List ℕ → List Message → List ℕ
spell_down content left [] = []
spell_down content left (Framed frame ∷ ms) = spell frame ++ spell_down content (raw_by content frame) ms
spell_down content left (Piece n ∷ ms) = take n left ++ spell_down content (drop n left) ms

-- the bytes that can be taken at the sender
abbrev pub bytes_up : Way Frame → List ℕ
bytes_up way = taken_by way.room (spell_up way.sent)

-- the bytes that can be taken at the receiver
abbrev pub bytes_down : (Header → List ℕ) → List ℕ → Way Message → List ℕ
bytes_down content left way = taken_by way.room (spell_down content left way.sent)

-- at the front is this frame, behind which these bytes are left; or no whole frame
abbrev pub FrontUp : Option (Frame × Way Frame) → List ℕ → Type 0
FrontUp None bytes = IsFront bytes
FrontUp (Some x) bytes = IsFrame bytes x.0 (bytes_up x.1)

-- the same of the other direction, where a frame or a piece is at the front
abbrev pub FrontDown : (Header → List ℕ) → List ℕ → Option (Message × Way Message) → List ℕ → Type 0
FrontDown content left None bytes = Unit {0}
FrontDown content left (Some (Framed frame, rest)) bytes = IsFrame bytes frame (bytes_down content (raw_by content frame) rest)
FrontDown content left (Some (Piece n, rest)) bytes = (take n bytes ≡ take n left) × (drop n bytes ≡ bytes_down content (drop n left) rest) × (n ≤ length bytes)

-- what is at the front is a frame in the grammar, or a piece of what is left
abbrev pub FitsFront : List ℕ → List Message → Type 0
FitsFront left [] = Unit {0}
FitsFront left (Framed frame ∷ ms) = Fits frame
FitsFront left (Piece n ∷ ms) = n ≤ length left
