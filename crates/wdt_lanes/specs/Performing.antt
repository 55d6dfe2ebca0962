-- What performing an act does to the bytes of a connection.
use Rattle.std.specs.Prelude.{◌≡◌, ℕ, ◌≤◌, Bool, true, false, nat_lt, List, [], ◌++◌, length, take, Option, Some, None, Result, Ok, Err}
use Rattle.wdt_codec.specs.declared.frames.Frame.TheVariants as frames
use Rattle.wdt_codec.specs.Frames.{spell}
use Rattle.wdt_codec.specs.Grammar.{IsBadAt}
use Rattle.wdt_sender_fsm.specs.declared.acts.SendAct.{SendAct}
use Rattle.wdt_sender_fsm.specs.declared.acts.SendAct.TheVariants as acts
use Rattle.wdt_sender_fsm.specs.declared.inputs.SendIn.{SendIn}
use Rattle.wdt_sender_fsm.specs.declared.inputs.SendIn.TheVariants as inputs
use Rattle.wdt_link.specs.Owing.{Owing}
use Rattle.wdt_link.specs.Traffic.{Traffic, Takes}

-- these bytes were sent, and nothing was received
pub record Puts (written : List ℕ) (old new : Traffic) : Type 0 where
  pub coming : new.coming ≡ old.coming
  pub received : new.received ≡ old.received
  pub sent : new.sent ≡ old.sent ++ written

-- ---- a frame

-- what was written of a frame's spelling: all of it, or a front
abbrev pub IsFramePart : SendIn → List ℕ → List ℕ → Type 0
IsFramePart inputs.Wrote head written = written ≡ head
IsFramePart _ head written = (n : ℕ) × (written ≡ take n head)

-- ---- a block

-- a front of a header's spelling with at most so many bytes of the block behind it
abbrev pub IsFrontOf : List ℕ → ℕ → List ℕ → Type 0
IsFrontOf head count written = (bytes : List ℕ) × (length bytes ≤ count) × (n : ℕ) × (written ≡ take n (head ++ bytes))

-- what was written of a block: all of it; nothing, where the source failed before the header was written;
-- the header and some bytes, where it failed behind that; else a front
abbrev pub IsBlockPart : SendIn → List ℕ → ℕ → List ℕ → Type 0
IsBlockPart inputs.Wrote head count written = (bytes : List ℕ) × (length bytes ≡ count) × (written ≡ head ++ bytes)
IsBlockPart (inputs.SourceLost true) head count written = written ≡ []
IsBlockPart (inputs.SourceLost false) head count written = (bytes : List ℕ) × (length bytes ≤ count) × (written ≡ head ++ bytes)
IsBlockPart _ head count written = IsFrontOf head count written

-- how many of so many bytes were written: all where nothing failed
abbrev pub IsMuch : {T E : Type 0} → Result T E → ℕ → ℕ → Type 0
IsMuch (Ok x) count n = n ≡ count
IsMuch (Err e) count n = n ≤ count

-- the same by what came of it
abbrev pub IsMuchBy : SendIn → ℕ → ℕ → Type 0
IsMuchBy inputs.Wrote count n = n ≡ count
IsMuchBy _ count n = n ≤ count

-- so many bytes of a block were to be sent
abbrev pub PutsMuch : {T E : Type 0} → Result T E → ℕ → Traffic → Traffic → Type 0
PutsMuch result count old new = (written : List ℕ) × Puts written old new × IsMuch result count (length written)

-- the same by what came of it
abbrev pub PutsMuchBy : SendIn → ℕ → Traffic → Traffic → Type 0
PutsMuchBy answer count old new = (written : List ℕ) × Puts written old new × IsMuchBy answer count (length written)

-- so many bytes were sent
abbrev pub PutsSome : ℕ → Traffic → Traffic → Type 0
PutsSome count old new = (written : List ℕ) × Puts written old new × (length written ≡ count)

-- what may come of the pieces of a block
abbrev pub is_piece_answer : SendIn → Bool
is_piece_answer inputs.Wrote = true
is_piece_answer inputs.Lost = true
is_piece_answer inputs.Starved = true
is_piece_answer (inputs.SourceLost false) = true
is_piece_answer _ = false

-- why a piece of a block wasn't sent
abbrev pub is_piece_fail : SendIn → Bool
is_piece_fail inputs.Lost = true
is_piece_fail inputs.Starved = true
is_piece_fail (inputs.SourceLost false) = true
is_piece_fail _ = false

-- a test of the failure, if there is one
abbrev pub fails_by : {T : Type 0} → (SendIn → Bool) → Result T SendIn → Bool
fails_by test (Ok x) = false
fails_by test (Err e) = test e

-- ---- reading

-- a frame was read that was the next to come, or nothing was
abbrev pub ReadsBy : SendIn → Traffic → Traffic → Type 0
ReadsBy (inputs.Got frame) old new = Takes (spell frame) old new
ReadsBy _ old new = new ≡ old

-- what is told to have no frame has none, where the bytes that come are told
abbrev pub IsBadBy : SendIn → Option Traffic → Type 0
IsBadBy (inputs.Bad at) (Some traffic) = IsBadAt traffic.coming at
IsBadBy _ _ = Unit {0}

-- ---- any act

-- what an act on a connection and what came of it say of its bytes
abbrev pub Performs : SendAct → SendIn → Traffic → Traffic → Type 0
Performs (acts.Write frame) answer old new = (written : List ℕ) × Puts written old new × IsFramePart answer (spell frame) written
Performs (acts.SendBlock header) answer old new = (written : List ℕ) × Puts written old new × IsBlockPart answer (spell (frames.Block header)) header.length written
Performs acts.Read answer old new = ReadsBy answer old new
Performs _ answer old new = new ≡ old

-- the act asks for what can't come: a frame while bytes of a block are owed
abbrev pub asks_slip : SendAct → Owing → Bool
asks_slip acts.Read owing = nat_lt 0 owing.owed
asks_slip _ owing = false

-- the same on the connection that is held, if there is one
abbrev pub asks_slip_on : {L : Type 0} → SendAct → (L → Owing) → Option L → Bool
asks_slip_on act owing None = false
asks_slip_on act owing (Some link) = asks_slip act (owing link)
