-- What the first of several objects tells.
use Rattle.std.specs.Prelude.{List, [], ◌∷◌, Option, None}

-- what the first of these tells, where it tells that
abbrev pub first_told : {S X : Type 0} → (S → Option X) → List S → Option X
first_told tell [] = None
first_told tell (object ∷ objects) = tell object
