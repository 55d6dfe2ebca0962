-- What is found on a wire, by the messages of its connection.
use Rattle.std.specs.Prelude.{◌≡◌, ℕ, ◌||◌, Bool, true, false, List, [], ◌∷◌, length, Some, None, Option}
use Rattle.wdt_codec.specs.declared.frames.Frame.{Frame}
use Rattle.wdt_sender_fsm.specs.Phases.{Message, Framed, Piece}
use Rattle.wdt_wire.specs.declared.taken.Taken.{Taken}
use Rattle.wdt_wire.specs.declared.taken.Taken.TheVariants as found
use Rattle.wdt_wire.specs.Wires.{PlainWire}
use Rattle.wdt_pact.specs.Links.{Link, Way, front, is_cut, size_down, size_up}
use Rattle.wdt_world.specs.Shown.{ShowsLink}

-- what was found upwards is the frame at the front, which is taken; or there is none that is whole, and nothing is
abbrev pub FoundUp : Bool → Bool → Taken → PlainWire → Link → Type 0
FoundUp send_gone recv_gone (found.Frame f) new k = (rest : Way Frame) × (front size_up k.up ≡ Some (f, rest)) × ShowsLink send_gone recv_gone new record k { up = rest }
FoundUp send_gone recv_gone (found.Piece bytes) new k = ⊥
FoundUp send_gone recv_gone found.Nothing new k = (front size_up k.up ≡ None) × ((is_cut k.up || recv_gone) ≡ false) × ShowsLink send_gone recv_gone new k
FoundUp send_gone recv_gone found.Lost new k = (front size_up k.up ≡ None) × ((is_cut k.up || recv_gone) ≡ true) × ShowsLink send_gone recv_gone new k

-- what was found downwards is the message at the front, which is taken; or there is none that is whole, and nothing is
abbrev pub FoundDown : Bool → Bool → Taken → PlainWire → Link → Type 0
FoundDown send_gone recv_gone (found.Frame f) new k = (rest : Way Message) × (front size_down k.down ≡ Some (Framed f, rest)) × ShowsLink send_gone recv_gone new record k { down = rest }
FoundDown send_gone recv_gone (found.Piece bytes) new k =
    (rest : Way Message) × (front size_down k.down ≡ Some (Piece (length bytes.items), rest)) × ShowsLink send_gone recv_gone new record k { down = rest }
FoundDown send_gone recv_gone found.Nothing new k = (front size_down k.down ≡ None) × ((is_cut k.down || send_gone) ≡ false) × ShowsLink send_gone recv_gone new k
FoundDown send_gone recv_gone found.Lost new k = (front size_down k.down ≡ None) × ((is_cut k.down || send_gone) ≡ true) × ShowsLink send_gone recv_gone new k

-- the first of these messages is a frame, if there is one
abbrev pub BeginsWithFrame : List Message → Type 0
BeginsWithFrame [] = Unit {0}
BeginsWithFrame (Framed frame ∷ rest) = Unit {0}
BeginsWithFrame (Piece n ∷ rest) = ⊥

-- the first of them is a piece of so many bytes
abbrev pub BeginsWithPiece : ℕ → List Message → Type 0
BeginsWithPiece n [] = Unit {0}
BeginsWithPiece n (Framed frame ∷ rest) = ⊥
BeginsWithPiece n (Piece m ∷ rest) = m ≡ n

-- the same of what goes down on a connection that may be there
abbrev pub BeginsOn : (List Message → Type 0) → Option Link → Type 0
BeginsOn Begins None = Unit {0}
BeginsOn Begins (Some k) = Begins k.down.sent
