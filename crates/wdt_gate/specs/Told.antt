-- What a pass tells, and how it stands to the machine that a hub gives back.
use Rattle.std.specs.Prelude.{◌≡◌, ℕ, ◌+◌, ◌≤◌, List, [], ◌∷◌, ◌++◌, Option, Some, None, zero, suc}
use Rattle.wdt_units.specs.Lanes.{own, laned, loose, AllOf, Begins}

-- what a pass tells: the entries that its turns added, its lane's stand, and the history that it saw last
pub record Told (E P : Type 0) : Type 0 where
  pub mine : List E
  pub stand : P
  pub seen : List E

-- so many numbers in a row, from the first on
abbrev pub upto : ℕ → ℕ → List ℕ
upto first zero = []
upto first (suc count) = first ∷ upto (first + 1) count

module _ {E P : Type 0} (lane_of : E → Option ℕ) (legal : List E → Type 0) where
  -- a turn was made at a point of the history that begins with all that the pass had seen; what is told of none is free
  abbrev pub HasTurned : {X A : Type 0} → (ℕ → X → List E → P → A → List E → P → Type 0) → ℕ → X → A → Option (Told E P) → Option (Told E P) → Type 0
  HasTurned turned lane put act None new = Unit {0}
  HasTurned turned lane put act (Some before) None = ⊥
  HasTurned turned lane put act (Some before) (Some after) =
      (at : List E) × (more : List E)
      × Begins before.seen at × turned lane put at before.stand act more after.stand × AllOf lane_of lane more
      × (after.seen ≡ at ++ more) × (after.mine ≡ before.mine ++ more) × legal after.seen

module _ {E P : Type 0} (legal : List E → Type 0) where
  -- no turn was made, and no less of the history was seen
  abbrev pub HasLooked : Option (Told E P) → Option (Told E P) → Type 0
  HasLooked None new = Unit {0}
  HasLooked (Some before) None = ⊥
  HasLooked (Some before) (Some after) =
      Begins before.seen after.seen × (after.mine ≡ before.mine) × (after.stand ≡ before.stand) × legal after.seen

module _ {M E P : Type 0} (history : M → List E) (lane_of : E → Option ℕ) (stand : M → ℕ → P) where
  -- the lane's entries in the machine's history are those that its pass added, its stand is the pass's, and what the pass saw begins the history
  abbrev pub Stands : M → ℕ → Option (Told E P) → Type 0
  Stands machine lane None = Unit {0}
  Stands machine lane (Some told) =
      (own lane_of (history machine) lane ≡ laned lane_of told.mine) × (stand machine lane ≡ told.stand) × Begins told.seen (history machine)

-- how many entries without a lane the passes added
abbrev pub loose_told : {E P : Type 0} → (E → Option ℕ) → List (Option (Told E P)) → ℕ
loose_told lane_of [] = 0
loose_told lane_of (None ∷ rest) = loose_told lane_of rest
loose_told lane_of (Some told ∷ rest) = loose lane_of told.mine + loose_told lane_of rest

-- the machine's history has entries of the first so many lanes alone, and each without a lane was added by one of these passes
abbrev pub IsWhole : {M E P : Type 0} → (M → List E) → (E → Option ℕ) → M → ℕ → List (Option (Told E P)) → Type 0
IsWhole history lane_of machine lanes told =
    (loose_told lane_of told ≡ loose lane_of (history machine)) × ((lane : ℕ) → lanes ≤ lane → own lane_of (history machine) lane ≡ [])
