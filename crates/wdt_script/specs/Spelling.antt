-- How events are spelled.
use Rattle.std.specs.Prelude.{ℕ, ◌≤◌, ◌<◌, List, [], ◌∷◌, ◌++◌, codes}
use Rattle.std.specs.Fmt.{decimal}
use Rattle.std.specs.List.{flat_map}
use Rattle.wdt_script.specs.declared.event.Event.{Event}
use Rattle.wdt_script.specs.declared.event.Event.TheVariants.{S, R, Cut, Deny, Refuse, Stop, Settle, Resume}
use Rattle.wdt_script.specs.declared.reading.TheConstants.{MAX_AMOUNT, MAX_STEPS}

-- a number behind a space
abbrev pub spaced : ℕ → List ℕ
spaced n = 32 ∷ decimal n

-- a word, and numbers behind it
abbrev pub with_numbers : List ℕ → List ℕ → List ℕ
with_numbers word numbers = word ++ flat_map spaced numbers

-- a line that says an event
abbrev pub spell : Event → List ℕ
spell (S lane times) = with_numbers (codes "s") (lane.0 ∷ times ∷ [])
spell (R lane times) = with_numbers (codes "r") (lane.0 ∷ times ∷ [])
spell (Cut lane down up) = with_numbers (codes "cut") (lane.0 ∷ down ∷ up ∷ [])
spell (Deny lane) = with_numbers (codes "deny") (lane.0 ∷ [])
spell (Refuse lane) = with_numbers (codes "refuse") (lane.0 ∷ [])
spell (Stop calls pick) = with_numbers (codes "stop") (calls ∷ pick ∷ [])
spell Settle = with_numbers (codes "settle") []
spell Resume = with_numbers (codes "resume") []

-- a number of steps, or of calls
pub record IsCount (n : ℕ) : Type 0 where
  pub least : 1 ≤ n
  pub greatest : n ≤ MAX_STEPS

-- an event that may be, on so many lanes
abbrev pub Fits : ℕ → Event → Type 0
Fits lanes (S lane times) = (lane.0 < lanes) × IsCount times
Fits lanes (R lane times) = (lane.0 < lanes) × IsCount times
Fits lanes (Cut lane down up) = (lane.0 < lanes) × (down ≤ MAX_AMOUNT) × (up ≤ MAX_AMOUNT)
Fits lanes (Deny lane) = lane.0 < lanes
Fits lanes (Refuse lane) = lane.0 < lanes
Fits lanes (Stop calls pick) = IsCount calls × (pick ≤ MAX_AMOUNT)
Fits lanes Settle = Unit {0}
Fits lanes Resume = Unit {0}
