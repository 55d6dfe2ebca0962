-- What the receiving half says, and how the sending half hears it.
use Rattle.std.specs.Prelude.{◌≡◌, ℕ, List, [], ◌++◌, Result, Ok, Err}
use Rattle.wdt_codec.specs.declared.frames.Frame.{Frame}
use Rattle.wdt_codec.specs.declared.frames.Frame.TheVariants.{Greeting, Chunks, Done}
use Rattle.wdt_codec.specs.Frames.{spell}
use Rattle.wdt_rehearsal.specs.declared.receiver.Stage.{Stage}
use Rattle.wdt_rehearsal.specs.declared.receiver.Stage.TheVariants as stages
use Rattle.wdt_rehearsal.specs.declared.receiver.TakeFail.{TakeFail}
use Rattle.wdt_rehearsal.specs.declared.receiver.TakeFail.TheVariants as fails
use Rattle.wdt_rehearsal.specs.declared.session.Greeted.{Greeted}
use Rattle.wdt_rehearsal.specs.Received.{progress, nothing_held}

-- the greeting of a receiver that has no block of lane 0
abbrev pub greeting : Frame
greeting = Greeting (record { lane = record { 0 = 0 }; count = 0 })

-- what the receiving half says where it has come to a stage: that it has nothing, where it has taken the
-- settings, and its last word, where it has taken the sender's
abbrev pub said_at : Stage → List ℕ
said_at stages.Size = spell greeting ++ spell (Chunks [])
said_at stages.Bye = spell Done
said_at other = []

-- this was read and taken, and those bytes are left, or memory ran out
abbrev pub Takes : {A : Type 0} → A → List ℕ → Result A TakeFail → List ℕ → Type 0
Takes expected rest (Ok found) left = (found ≡ expected) × (left ≡ rest)
Takes expected rest (Err fails.NoMemory) left = Unit {0}
Takes expected rest (Err fails.Unexpected) left = ⊥

-- the bytes begin with those
abbrev pub Begins : List ℕ → List ℕ → Type 0
Begins front bytes = (rest : List ℕ) × (bytes ≡ front ++ rest)

-- this is what was read, or memory ran out
abbrev pub Reads : {A : Type 0} → A → Result A TakeFail → Type 0
Reads expected (Ok found) = found ≡ expected
Reads expected (Err fails.NoMemory) = Unit {0}
Reads expected (Err fails.Unexpected) = ⊥

-- a session that has begun with a receiver that has nothing
pub record IsBegun (s : Greeted) : Type 0 where
  pub nothing : s.have ≡ []
  pub progress : progress s.receiver ≡ record { stage = stages.Size; landed = [] }
  pub idle : s.receiver.reader ≡ nothing_held
