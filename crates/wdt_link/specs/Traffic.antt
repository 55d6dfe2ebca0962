-- What an end of a connection tells of its bytes, and what its calls do to them.
use Rattle.std.specs.Prelude.{◌≡◌, ℕ, List, [], ◌++◌, take, Option, Some, None, Result, Ok, Err}

-- the bytes that are still to be received, those that were received, and those that were sent
pub record Traffic : Type 0 where
  pub coming : List ℕ
  pub received : List ℕ
  pub sent : List ℕ

-- what is told may stop being told, and doesn't begin again; where it is told before and after, it
-- changes so
abbrev pub Tells : {A : Type 0} → (A → A → Type 0) → Option A → Option A → Type 0
Tells Change None None = Unit {0}
Tells Change None (Some new) = ⊥
Tells Change (Some old) None = Unit {0}
Tells Change (Some old) (Some new) = Change old new

-- what is told stays told, what isn't stays untold; where it is told, it changes so
abbrev pub Keeps : {A : Type 0} → (A → A → Type 0) → Option A → Option A → Type 0
Keeps Change None None = Unit {0}
Keeps Change None (Some new) = ⊥
Keeps Change (Some old) None = ⊥
Keeps Change (Some old) (Some new) = Change old new

-- nothing changes
abbrev pub IsSame : {A : Type 0} → A → A → Type 0
IsSame old new = new ≡ old

-- all the bytes were added, or a front of them where the call failed
abbrev pub Adds : {T E : Type 0} → Result T E → List ℕ → List ℕ → List ℕ → Type 0
Adds (Ok u) bytes old new = new ≡ old ++ bytes
Adds (Err e) bytes old new = (n : ℕ) × (new ≡ old ++ take n bytes)

-- a sending call of these bytes: what was received and is to come stays
pub record Sends {T E : Type 0} (result : Result T E) (bytes : List ℕ) (old new : Traffic) : Type 0 where
  pub coming : new.coming ≡ old.coming
  pub received : new.received ≡ old.received
  pub sent : Adds result bytes old.sent new.sent

-- these bytes were the next to come, and were received: what was sent stays
pub record Takes (bytes : List ℕ) (old new : Traffic) : Type 0 where
  pub coming : old.coming ≡ bytes ++ new.coming
  pub received : new.received ≡ old.received ++ bytes
  pub sent : new.sent ≡ old.sent

-- a receiving call: what it answers was received, and nothing where it failed
abbrev pub Receives : {T E : Type 0} → (T → List ℕ) → Result T E → Traffic → Traffic → Type 0
Receives bytes_of (Ok x) old new = Takes (bytes_of x) old new
Receives bytes_of (Err e) old new = new ≡ old

-- an end that has received and sent nothing
pub record IsFresh (traffic : Traffic) : Type 0 where
  pub received : traffic.received ≡ []
  pub sent : traffic.sent ≡ []
