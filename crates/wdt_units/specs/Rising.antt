-- Lists in which each item comes before all later ones, in whatever order is meant.
use Rattle.std.specs.Prelude.{Bool, true, ◌&&◌, List, [], ◌∷◌}
use Rattle.std.specs.List.{list_all}

-- each item comes before all later ones
abbrev pub is_rising_by : {A : Type 0} → (A → A → Bool) → List A → Bool
is_rising_by before [] = true
is_rising_by before (x ∷ xs) = list_all (before x) xs && is_rising_by before xs
