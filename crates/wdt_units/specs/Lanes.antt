-- Entries of a history, each of a lane or of none.
use Rattle.std.specs.Prelude.{◌≡◌, ℕ, ◌+◌, ◌≤◌, ◌<◌, ◌==◌, Bool, false, List, [], ◌∷◌, ◌++◌, Option, Some, None, if◌then◌else◌, refl}
use Rattle.std.proofs.Common.{arith}

-- an entry is of this lane
abbrev pub is_of : Option ℕ → ℕ → Bool
is_of None lane = false
is_of (Some other) lane = other == lane

-- the entries of a lane, in order
abbrev pub own : {E : Type 0} → (E → Option ℕ) → List E → ℕ → List E
own lane_of [] lane = []
own lane_of (entry ∷ history) lane = if is_of (lane_of entry) lane then entry ∷ own lane_of history lane else own lane_of history lane

-- the entries that have a lane, in order
abbrev pub laned : {E : Type 0} → (E → Option ℕ) → List E → List E
laned lane_of [] = []
laned lane_of (entry ∷ history) = elim (lane_of entry) [ None ↦ laned lane_of history | Some lane ↦ entry ∷ laned lane_of history ]

-- 1 for an entry of no lane
abbrev pub one_if_none : Option ℕ → ℕ
one_if_none None = 1
one_if_none (Some lane) = 0

-- how many entries have no lane
abbrev pub loose : {E : Type 0} → (E → Option ℕ) → List E → ℕ
loose lane_of [] = 0
loose lane_of (entry ∷ history) = one_if_none (lane_of entry) + loose lane_of history

-- an entry is of this lane, or of none
abbrev pub IsOf : Option ℕ → ℕ → Type 0
IsOf None lane = Unit {0}
IsOf (Some other) lane = other ≡ lane

-- each entry is of this lane, or of none
abbrev pub AllOf : {E : Type 0} → (E → Option ℕ) → ℕ → List E → Type 0
AllOf lane_of lane [] = Unit {0}
AllOf lane_of lane (entry ∷ history) = IsOf (lane_of entry) lane × AllOf lane_of lane history

-- the lane is one of this many, where their number is known
abbrev pub Below : Option ℕ → ℕ → Type 0
Below None lane = Unit {0}
Below (Some lanes) lane = lane < lanes

-- there are at least this many lanes, where their number is known
abbrev pub AtLeast : Option ℕ → ℕ → Type 0
AtLeast None least = Unit {0}
AtLeast (Some lanes) least = least ≤ lanes

-- one history begins another
abbrev pub Begins : {E : Type 0} → List E → List E → Type 0
Begins {E} front whole = (rest : List E) × (whole ≡ front ++ rest)

-- where every entry has a lane, none is without
pub loose-laned : {E : Type 0} (lane : E → ℕ) (history : List E) → loose (λ entry. Some (lane entry)) history ≡ 0
loose-laned lane [] = refl
loose-laned lane (entry ∷ history) = omega (arith, loose-laned lane history)

-- so at most one is without
pub few_loose : {E : Type 0} (lane : E → ℕ) (history : List E) → loose (λ entry. Some (lane entry)) history ≤ 1
few_loose lane history = omega (arith, loose-laned lane history)
