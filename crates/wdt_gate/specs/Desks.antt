-- What lies under the lock of a hub, and what is known of it outside.
use Rattle.std.specs.Prelude.{◌≡◌, ℕ, List, ◌++◌, Option}
use Rattle.wdt_units.specs.Lanes.{AllOf}

-- a machine, and how many turns were made
pub record DeskView (M : Type 0) : Type 0 where
  pub machine : M
  pub turns : ℕ

module _ {M E P X A : Type 0} (history : M → List E) (lane_of : E → Option ℕ) (stand : M → ℕ → P) (turned : ℕ → X → List E → P → A → List E → P → Type 0) where
  -- from one machine to the next is a turn of this lane, with this input and answer
  abbrev pub IsTurn : ℕ → X → A → M → M → Type 0
  IsTurn lane put act before after =
      (more : List E)
      × (history after ≡ history before ++ more) × AllOf lane_of lane more
      × turned lane put (history before) (stand before lane) act more (stand after lane)

module _ {M E : Type 0} (history : M → List E) (legal : List E → Type 0) (counted : M → ℕ) where
  -- there was a moment at which the machine's history was legal and its count was this
  abbrev pub WasSeen : ℕ → Type 0
  WasSeen count = (machine : M) × legal (history machine) × (counted machine ≡ count)

module _ {M E P X A : Type 0} (history : M → List E) (lane_of : E → Option ℕ) (stand : M → ℕ → P) (legal : List E → Type 0) (counted : M → ℕ)
    (turned : ℕ → X → List E → P → A → List E → P → Type 0) where
  -- there was a moment at which this was the machine's turn for this lane and input, and its count behind it was this
  abbrev pub HasMoved : ℕ → X → A → ℕ → Type 0
  HasMoved lane put act count =
      (before : M) × (after : M)
      × IsTurn history lane_of stand turned lane put act before after × legal (history after) × (counted after ≡ count)
