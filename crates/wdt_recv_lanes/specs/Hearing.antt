-- What performing a receiver's act does to the bytes of a connection, and to what is owed on it.
use Rattle.std.specs.Prelude.{◌≡◌, ℕ, Bool, false, nat_lt, List, take, Option, Some, None}
use Rattle.wdt_codec.specs.Frames.{spell}
use Rattle.wdt_codec.specs.Grammar.{IsBadAt}
use Rattle.wdt_receiver_fsm.specs.declared.acts.RecvAct.{RecvAct}
use Rattle.wdt_receiver_fsm.specs.declared.acts.RecvAct.TheVariants as acts
use Rattle.wdt_receiver_fsm.specs.declared.inputs.RecvIn.TheVariants as inputs
use Rattle.wdt_link.specs.Owing.{Owing, IsNextPiece, is_piece_slip, owing_behind}
use Rattle.wdt_link.specs.Saying.{Whole, spelled}
use Rattle.wdt_link.specs.Traffic.{Traffic, Takes}
use Rattle.wdt_lanes.specs.Performing.{Puts}
use Rattle.wdt_recv_lanes.specs.declared.heard.Heard.{Heard}
use Rattle.wdt_recv_lanes.specs.declared.heard.Heard.TheVariants as heard

-- ---- bytes

-- what was written of a frame's spelling: all of it, or a front
abbrev pub IsFramePart : {N : Type 0} → Heard N → List ℕ → List ℕ → Type 0
IsFramePart (heard.Put inputs.Wrote) head written = written ≡ head
IsFramePart _ head written = (n : ℕ) × (written ≡ take n head)

-- what was heard was the next to come, and was received; or nothing was
abbrev pub HearsNext : {N : Type 0} → Heard N → Traffic → Traffic → Type 0
HearsNext (heard.Frame said) old new = Takes (spelled said) old new
HearsNext (heard.Piece said) old new = Takes (spelled said) old new
HearsNext (heard.Put input) old new = new ≡ old

-- what an act on a connection and what came of it say of its bytes
abbrev pub Performs : {N : Type 0} → RecvAct → Heard N → Traffic → Traffic → Type 0
Performs (acts.Write frame) answer old new = (written : List ℕ) × Puts written old new × IsFramePart answer (spell frame) written
Performs acts.Read answer old new = HearsNext answer old new
Performs (acts.TakePiece count) answer old new = HearsNext answer old new
Performs _ answer old new = new ≡ old

-- what is told to have no frame has none, where the bytes that come are told
abbrev pub IsBadBy : {N : Type 0} → Heard N → Option Traffic → Type 0
IsBadBy (heard.Put (inputs.Bad at)) (Some traffic) = IsBadAt traffic.coming at
IsBadBy _ _ = Unit {0}

-- ---- what is owed

-- the act asks for what can't come: a frame while bytes of a block are owed, or a piece of no byte, of more
-- than one may have, or of more than are owed
abbrev pub asks_slip : RecvAct → Owing → Bool
asks_slip acts.Read owing = nat_lt 0 owing.owed
asks_slip (acts.TakePiece count) owing = is_piece_slip count owing.owed
asks_slip _ owing = false

-- the same on the connection that is held, if there is one
abbrev pub asks_slip_on : {L : Type 0} → RecvAct → (L → Owing) → Option L → Bool
asks_slip_on act owing None = false
asks_slip_on act owing (Some link) = asks_slip act (owing link)

-- what is owed behind an act: all of a block whose header was heard, so much less behind a piece of it that
-- was heard, and else as much as before
abbrev pub Owes : {N : Type 0} → RecvAct → Heard N → Owing → Owing → Type 0
Owes acts.Read (heard.Frame (Whole frame)) old new = new ≡ owing_behind old frame
Owes (acts.TakePiece count) (heard.Piece said) old new = IsNextPiece old count said new
Owes _ _ old new = new ≡ old

-- the same of the connection that is held, if one is
abbrev pub OwesOn : {N L : Type 0} → RecvAct → Heard N → (L → Owing) → Option L → Option L → Type 0
OwesOn act answer owing (Some old) (Some new) = Owes act answer (owing old) (owing new)
OwesOn act answer owing _ _ = Unit {0}
