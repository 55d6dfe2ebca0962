-- Seats that are filled and emptied from the end, and lists with one item for each of them.
use Rattle.std.proofs.Common.{◌≡◌, ℕ, ◌+◌, ◌<◌, List, [], ◌∷◌, ◌++◌, map, reverse, length, get_or, Option, Some, sym, ap, ◌∙◌, subst, append_assoc, arith}
use Rattle.std.specs.Option.{option_to_list}
use Rattle.std.proofs.lemmas.List.{get_or-map, length-map, reverse-append}
use Rattle.wdt_lanes.specs.LaneLists.{EachLane}

-- ---- moving

more_seats : {A B : Type 0} (f : A → B) (seats : List A) (seat : A) → map f (reverse (seats ++ seat ∷ [])) ≡ f seat ∷ map f (reverse seats)
more_seats f seats seat = ap (map f) (reverse-append seats (seat ∷ []))

-- one more is taken from the end of a list into a seat
pub seated : {A B : Type 0} (f : A → B) (all old new : List B) (b : B) (seats seats' : List A) (seat : A) → old ++ map f (reverse seats) ≡ all → old ≡ new ++ b ∷ [] → seats' ≡ seats ++ seat ∷ [] → f seat ≡ b → new ++ map f (reverse seats') ≡ all
seated f all old new b seats seats' seat whole took put is =
    ap (λ s. new ++ map f (reverse s)) put ∙ ap (λ w. new ++ w) (more_seats f seats seat) ∙ ap (λ c. new ++ c ∷ map f (reverse seats)) is ∙ sym (append_assoc new (b ∷ []) (map f (reverse seats))) ∙ ap (λ w. w ++ map f (reverse seats)) (sym took)
    ∙ whole

-- and back
pub unseated : {A B : Type 0} (f : A → B) (all old new : List B) (seats seats' : List A) (seat : A) → old ++ map f (reverse seats) ≡ all → seats ≡ seats' ++ seat ∷ [] → new ≡ old ++ f seat ∷ [] → new ++ map f (reverse seats') ≡ all
unseated f all old new seats seats' seat whole took put =
    ap (λ w. w ++ map f (reverse seats')) put ∙ append_assoc old (f seat ∷ []) (map f (reverse seats')) ∙ ap (λ w. old ++ w) (sym (more_seats f seats' seat)) ∙ ap (λ s. old ++ map f (reverse s)) (sym took) ∙ whole

-- what a pop took stood at the end
pub popped : {B : Type 0} (old new : List B) (o : Option B) (b : B) → old ≡ new ++ option_to_list o → o ≡ Some b → old ≡ new ++ b ∷ []
popped {B} old new o b e f = let P : Option B → Type 0 = λ x. old ≡ new ++ option_to_list x in subst P f e

pub one_less : {B : Type 0} (old new : ℕ) (o : Option B) (b : B) → new + length (option_to_list o) ≡ old → o ≡ Some b → new + 1 ≡ old
one_less {B} old new o b e f = let P : Option B → Type 0 = λ x. new + length (option_to_list x) ≡ old in subst P f e

-- ---- what is said of each seat

-- what is said of the seats is said of what they have
pub each_of : {A B : Type 0} (R : ℕ → B → B → Type 0) (f : A → B) (olds news : List A) (old new : List B) → map f olds ≡ old → new ≡ map f news → length news ≡ length olds
    → ((k : ℕ) (d : A) → k < length olds → R k (f (get_or olds k d)) (f (get_or news k d))) → EachLane R old new
each_of {A} {B} R f [] news old new e n same h = record {
  same = ap length n ∙ length-map news f ∙ same ∙ sym (length-map [] f) ∙ ap length e;
  at = λ k d lt. absurd (omega (arith, lt, ap length e));
}
each_of {A} {B} R f (x ∷ olds) news old new e n same h =
    let all : List A = x ∷ olds in
    record {
      same = ap length n ∙ length-map news f ∙ same ∙ sym (length-map all f) ∙ ap length e;
      at = λ k d lt.
          let within : k < length all = omega (arith, lt, ap length e, length-map all f) in
          let also : k < length news = omega (arith, within, same) in
          let P : B → Type 0 = λ b. R k b (get_or new k d) in
          let Q : B → Type 0 = λ b. R k (f (get_or all k x)) b in
          subst P (sym (get_or-map f all k x d within) ∙ ap (λ (w : List B). get_or w k d) e) (subst Q (sym (ap (λ (w : List B). get_or w k d) n ∙ get_or-map f news k x d also)) (h k x within));
    }
