-- How bytes stand to the grammar.
use Rattle.std.specs.Prelude.{◌≡◌, ℕ, ◌<◌, ◌+◌, List, ◌∷◌, ◌++◌, length, take, Result, Ok, Err}
use Rattle.std.specs.Borrow.{Bor}
use Rattle.wdt_codec.specs.declared.fails.NextFail.{NextFail}
use Rattle.wdt_codec.specs.declared.fails.NextFail.TheVariants as fails
use Rattle.wdt_codec.specs.declared.frames.Frame.{Frame}
use Rattle.wdt_codec.specs.Frames.{Fits, spell}

-- a spelling begins with the bytes
abbrev pub Starts : List ℕ → Type 0
Starts bytes = (f : Frame) × Fits f × (more : List ℕ) × (spell f ≡ bytes ++ more)

-- the bytes are a proper front of a spelling
abbrev pub IsFront : List ℕ → Type 0
IsFront bytes = (f : Frame) × Fits f × (b : ℕ) × (more : List ℕ) × (spell f ≡ bytes ++ b ∷ more)

-- the bytes before place i are a proper front of a spelling, and none begins with those up to it
pub record IsBadAt (bytes : List ℕ) (i : ℕ) : Type 0 where
  pub within : i < length bytes
  pub hope : IsFront (take i bytes)
  pub none : Starts (take (i + 1) bytes) → ⊥

-- the bytes are the spelling of f and then rest
abbrev pub IsFrame : List ℕ → Frame → List ℕ → Type 0
IsFrame bytes f rest = Fits f × (bytes ≡ spell f ++ rest)

-- a failure for its reason
abbrev pub IsReason : List ℕ → NextFail → Type 0
IsReason bytes fails.NoMemory = Unit {0}
IsReason bytes fails.NotYet = IsFront bytes
IsReason bytes (fails.Bad at) = IsBadAt bytes at

-- what was read, with the bytes that were lent
abbrev pub seen : {E : Type 0} → Result (Frame × Bor (List ℕ)) E → Result (Frame × List ℕ) E
seen (Ok x) = Ok (x.0, x.1.now)
seen (Err e) = Err e

-- a frame that was taken, with what is left
abbrev pub with_rest : {E : Type 0} → List ℕ → Result Frame E → Result (Frame × List ℕ) E
with_rest rest (Ok f) = Ok (f, rest)
with_rest rest (Err e) = Err e

-- the answer is that frame with those bytes behind it, or want of memory
abbrev pub Finds : Result (Frame × List ℕ) NextFail → Frame → List ℕ → Type 0
Finds (Ok x) f rest = (x.0 ≡ f) × (x.1 ≡ rest)
Finds (Err fails.NoMemory) f rest = Unit {0}
Finds (Err fails.NotYet) f rest = ⊥
Finds (Err (fails.Bad at)) f rest = ⊥

-- the answer is NotYet, or want of memory
abbrev pub IsNotYet : {X : Type 0} → Result X NextFail → Type 0
IsNotYet (Ok x) = ⊥
IsNotYet (Err fails.NoMemory) = Unit {0}
IsNotYet (Err fails.NotYet) = Unit {0}
IsNotYet (Err (fails.Bad at)) = ⊥

-- the answer is Bad at that place, or want of memory
abbrev pub IsBad : {X : Type 0} → Result X NextFail → ℕ → Type 0
IsBad (Ok x) i = ⊥
IsBad (Err fails.NoMemory) i = Unit {0}
IsBad (Err fails.NotYet) i = ⊥
IsBad (Err (fails.Bad at)) i = at ≡ i
