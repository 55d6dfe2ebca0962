-- Words that may name a folder or a host.
use Rattle.std.specs.Prelude.{ℕ, Bool, false, not, ◌==◌, List, [], ◌∷◌}

-- a word that may name a folder or a host: neither empty nor begun with `-`
abbrev pub is_name : List ℕ → Bool
is_name [] = false
is_name (first ∷ more) = not (first == 45)
