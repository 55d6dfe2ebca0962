-- Two ends that speak in turn over a connection: each stands in a phase, and is behind the other by
-- what is on its way to it. What goes down is said by the first end, what goes up by the second.
use Rattle.std.specs.Prelude.{◌≡◌, ◌⊎◌, List, [], ◌∷◌, Option, Some}
use Rattle.std.specs.Option.{option_and_then}

-- the phase after some messages, where each has its move
abbrev pub moved : {P M : Type 0} → (P → M → Option P) → List M → P → Option P
moved move [] p = Some p
moved move (m ∷ ms) p = option_and_then (moved move ms) (move p m)

-- the ends agree: nothing goes up, and what goes down leads the second end to the first's phase; or the
-- other way round
abbrev pub Talk : {P D U : Type 0} → (P → D → Option P) → (P → U → Option P) → P → P → List D → List U → Type 0
Talk down up s r ds us = ((us ≡ []) × (moved down ds r ≡ Some s)) ⊎ ((ds ≡ []) × (moved up us s ≡ Some r))

-- in no phase both ends have the word
abbrev pub OneTalker : {P D U : Type 0} → (P → D → Option P) → (P → U → Option P) → Type 0
OneTalker {P} {D} {U} down up = (p q r : P) (m : D) (u : U) → down p m ≡ Some q → up p u ≡ Some r → ⊥
