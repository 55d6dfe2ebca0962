-- The path of a spot.
use Rattle.std.proofs.Common.{◌≡◌, ℕ, Bool, List, [], ◌∷◌, ◌++◌, Some, None, refl, ap, ◌∙◌}
use Rattle.std.specs.Prelude.{if◌then◌else◌}
use Rattle.std.proofs.lemmas.Bool.{eq-eqb}
use Rattle.wdt_depot.specs.State.{State, at_spot, path_of, path_or}

-- of one that was just entered, where none was before
pub at_needed : (spot : ℕ) (path : List ℕ) (s t : State) → s.spots ≡ [] → t.spots ≡ s.spots ++ (spot, path) ∷ [] → at_spot spot t ≡ path
at_needed spot path s t none is =
    ap (λ (es : List (ℕ × List ℕ)). path_or (path_of spot es)) (is ∙ ap (λ (es : List (ℕ × List ℕ)). es ++ (spot, path) ∷ []) none)
    ∙ ap (λ (b : Bool). path_or (if b then Some path else None)) (eq-eqb spot spot refl)

-- while the entered spots stay
pub spot_stays : (spot : ℕ) (s t : State) → t.spots ≡ s.spots → at_spot spot t ≡ at_spot spot s
spot_stays spot s t same = ap (λ (es : List (ℕ × List ℕ)). path_or (path_of spot es)) same
