-- A stream between a wire and a reader: the bytes that were read and not taken.
use Rattle.std.specs.Prelude.{◌≡◌, ℕ, ◌-◌, List, [], ◌++◌, length, take, Option, Some, None, IfSome}
use Rattle.wdt_link.specs.Traffic.{Traffic}
use Rattle.wdt_link.specs.Wires.{Cable}

-- the bytes that were fed to the reader and not taken, and those that wait to be fed
abbrev pub held : List ℕ → List ℕ → ℕ → List ℕ
held untaken buffer waiting = untaken ++ take waiting buffer

-- what was read ends in what is held
pub record EndsIn (tail : List ℕ) (cable : Cable) : Type 0 where
  pub front : List ℕ
  pub is : cable.read ≡ front ++ tail

-- what a stream over such a cable tells, where this is held of what was read
abbrev pub traffic_of : List ℕ → Cable → Traffic
traffic_of tail cable = record { coming = tail ++ cable.left; received = take (length cable.read - length tail) cable.read; sent = cable.written }

-- the same, where the cable is told
abbrev pub traffic : List ℕ → Option Cable → Option Traffic
traffic tail None = None
traffic tail (Some cable) = Some (traffic_of tail cable)

-- what a stream is seen as: its bytes where told, those that its reader holds, how many of the last
-- block are owed, and the faults of its wire
pub record StreamView : Type 0 where
  pub told : Option Traffic
  pub fed : List ℕ
  pub owed : ℕ
  pub faults : ℕ

-- bytes went from the wire to what is held, and nothing else changed
pub record Moves (tail : List ℕ) (old : Cable) (tail' : List ℕ) (new : Cable) : Type 0 where
  pub bytes : List ℕ
  pub held : tail' ≡ tail ++ bytes
  pub left : old.left ≡ bytes ++ new.left
  pub read : new.read ≡ old.read ++ bytes
  pub written : new.written ≡ old.written

-- bytes went from the wire to what is held, where the wire tells them
abbrev pub Fills : List ℕ → Option Cable → List ℕ → Option Cable → Type 0
Fills tail None tail' new = new ≡ None
Fills tail (Some old) tail' None = ⊥
Fills tail (Some old) tail' (Some new) = Moves tail old tail' new

-- nothing is left to be read, where that is told
abbrev pub IsDry : Option Cable → Type 0
IsDry told = IfSome told (λ cable. cable.left ≡ [])

-- no more is to come than these bytes, where that is told
abbrev pub IsLeft : List ℕ → Option Traffic → Type 0
IsLeft fed told = IfSome told (λ traffic. traffic.coming ≡ fed)
