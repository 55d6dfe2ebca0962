-- Lists of entered spots.
use Rattle.std.proofs.Common.{◌≡◌, ℕ, zero, suc, ◌+◌, ◌<◌, ◌≤◌, List, [], ◌∷◌, ◌++◌, length, drop, take, get_or, map, Option, Some, None, Bool, true, false, inl, inr, refl, sym, ◌∙◌, ap, arith, add-one, append_assoc}
use Rattle.std.specs.Prelude.{if◌then◌else◌, ◌==◌, is_some, remove}
use Rattle.std.proofs.lemmas.Bool.{cases_Bool}
use Rattle.std.proofs.lemmas.List.{map-append, take_more, take_all, drop_all, append-nil}
use Rattle.std.proofs.lemmas.Bool.Decides.{nat_tests}
use Rattle.std.proofs.Math.Seq.{drop-cons}
use Rattle.wdt_depot.specs.declared.spots.Entered.{Entered}
use Rattle.wdt_depot.specs.Spots.{entered_view}
use Rattle.wdt_depot.specs.State.{path_of, without}

if_has : {X : Type 0} (b : Bool) (x y : X) → b ≡ true → (if b then x else y) ≡ x
if_has b x y e = ap (λ (c : Bool). if c then x else y) e

if_hasn't : {X : Type 0} (b : Bool) (x y : X) → b ≡ false → (if b then x else y) ≡ y
if_hasn't b x y e = ap (λ (c : Bool). if c then x else y) e

-- a search through the spots

pub found_here : (es : List Entered) (i spot : ℕ) (e : Entered) → i < length es → e ≡ get_or es i e → e.number ≡ spot → path_of spot (map entered_view es) ≡ path_of spot (map entered_view (drop i es)) → path_of spot (map entered_view es) ≡ Some e.path
found_here es i spot e below at same so_far =
    let test : (e.number == spot) ≡ true = grind (arith, nat_tests) in
    let rest : drop i es ≡ e ∷ drop (suc i) es = drop-cons es i e below ∙ ap (λ (x : Entered). x ∷ drop (suc i) es) (sym at) in
    so_far ∙ (ap (λ (l : List Entered). path_of spot (map entered_view l)) rest ∙ if_has (e.number == spot) (Some e.path) (path_of spot (map entered_view (drop (suc i) es))) test)

pub not_here : (es : List Entered) (i spot : ℕ) (e : Entered) → i < length es → e ≡ get_or es i e → (e.number ≡ spot → ⊥) → path_of spot (map entered_view es) ≡ path_of spot (map entered_view (drop i es)) → path_of spot (map entered_view es) ≡ path_of spot (map entered_view (drop (i + 1) es))
not_here es i spot e below at other so_far =
    let test : (e.number == spot) ≡ false = grind (arith, nat_tests) in
    let rest : drop i es ≡ e ∷ drop (suc i) es = drop-cons es i e below ∙ ap (λ (x : Entered). x ∷ drop (suc i) es) (sym at) in
    so_far ∙ (ap (λ (l : List Entered). path_of spot (map entered_view l)) rest ∙ (if_hasn't (e.number == spot) (Some e.path) (path_of spot (map entered_view (drop (suc i) es))) test ∙ ap (λ (n : ℕ). path_of spot (map entered_view (drop n es))) (sym (add-one i))))

pub nowhere : (es : List Entered) (i spot : ℕ) → length es ≤ i → path_of spot (map entered_view es) ≡ path_of spot (map entered_view (drop i es)) → path_of spot (map entered_view es) ≡ None
nowhere es i spot past so_far = so_far ∙ ap (λ (l : List Entered). path_of spot (map entered_view l)) (drop_all i es past)

-- so many numbers need as many spots

kept_in : (k n : ℕ) (es : List (ℕ × List ℕ)) → (k ≡ n → ⊥) → is_some (path_of k (without n es)) ≡ is_some (path_of k es)
kept_in k n [] differ = refl
kept_in k n (e ∷ es) differ = elim (cases_Bool (e.0 == n)) [
  | inl is ↦
      let other : (e.0 == k) ≡ false = grind (arith, nat_tests) in
      ap (λ (l : List (ℕ × List ℕ)). is_some (path_of k l)) (if_has (e.0 == n) es (e ∷ without n es) is) ∙ sym (ap (λ (o : Option (List ℕ)). is_some o) (if_hasn't (e.0 == k) (Some e.1) (path_of k es) other))
  | inr isn't ↦
      ap (λ (l : List (ℕ × List ℕ)). is_some (path_of k l)) (if_hasn't (e.0 == n) es (e ∷ without n es) isn't)
      ∙ elim (cases_Bool (e.0 == k)) [
        | inl here ↦ ap (λ (o : Option (List ℕ)). is_some o) (if_has (e.0 == k) (Some e.1) (path_of k (without n es)) here ∙ sym (if_has (e.0 == k) (Some e.1) (path_of k es) here))
        | inr there ↦ ap (λ (o : Option (List ℕ)). is_some o) (if_hasn't (e.0 == k) (Some e.1) (path_of k (without n es)) there) ∙ (kept_in k n es differ ∙ sym (ap (λ (o : Option (List ℕ)). is_some o) (if_hasn't (e.0 == k) (Some e.1) (path_of k es) there)))
      ]
]

one_less : (n : ℕ) (es : List (ℕ × List ℕ)) → is_some (path_of n es) ≡ true → length (without n es) + 1 ≡ length es
one_less n [] h = cc
one_less n (e ∷ es) h = elim (cases_Bool (e.0 == n)) [
  | inl is ↦ omega (arith, ap (λ (l : List (ℕ × List ℕ)). length l) (if_has (e.0 == n) es (e ∷ without n es) is))
  | inr isn't ↦
      let rest : is_some (path_of n es) ≡ true = sym (ap (λ (o : Option (List ℕ)). is_some o) (if_hasn't (e.0 == n) (Some e.1) (path_of n es) isn't)) ∙ h in
      omega (arith, one_less n es rest, ap (λ (l : List (ℕ × List ℕ)). length l) (if_hasn't (e.0 == n) es (e ∷ without n es) isn't))
]

pub all_taken : (n : ℕ) (es : List (ℕ × List ℕ)) → ((k : ℕ) → k < n → is_some (path_of k es) ≡ true) → n ≤ length es
all_taken zero es h = omega arith
all_taken (suc n) es h =
    let more = all_taken n (without n es) (λ k below. kept_in k n es (λ (e : k ≡ n). absurd (omega (arith, below, e))) ∙ h k (omega (arith, below))) in
    omega (arith, more, one_less n es (h n (omega arith)))

-- the spots with one taken out

pub without_here : (es : List Entered) (i spot : ℕ) (e : Entered) → i < length es → e ≡ get_or es i e → e.number ≡ spot → without spot (map entered_view es) ≡ map entered_view (take i es) ++ without spot (map entered_view (drop i es)) → map entered_view (remove es i) ≡ without spot (map entered_view es)
without_here es i spot e below at same so_far =
    let test : (e.number == spot) ≡ true = grind (arith, nat_tests) in
    let rest : drop i es ≡ e ∷ drop (suc i) es = drop-cons es i e below ∙ ap (λ (x : Entered). x ∷ drop (suc i) es) (sym at) in
    let last : without spot (map entered_view (drop i es)) ≡ map entered_view (drop (suc i) es) = ap (λ (l : List Entered). without spot (map entered_view l)) rest ∙ if_has (e.number == spot) (map entered_view (drop (suc i) es)) (entered_view e ∷ without spot (map entered_view (drop (suc i) es))) test in
    map-append entered_view (take i es) (drop (suc i) es) ∙ sym (so_far ∙ ap (λ (l : List (ℕ × List ℕ)). map entered_view (take i es) ++ l) last)

pub without_on : (es : List Entered) (i spot : ℕ) (e : Entered) → i < length es → e ≡ get_or es i e → (e.number ≡ spot → ⊥) → without spot (map entered_view es) ≡ map entered_view (take i es) ++ without spot (map entered_view (drop i es)) → without spot (map entered_view es) ≡ map entered_view (take (i + 1) es) ++ without spot (map entered_view (drop (i + 1) es))
without_on es i spot e below at other so_far =
    let test : (e.number == spot) ≡ false = grind (arith, nat_tests) in
    let rest : drop i es ≡ e ∷ drop (suc i) es = drop-cons es i e below ∙ ap (λ (x : Entered). x ∷ drop (suc i) es) (sym at) in
    let after : without spot (map entered_view (drop i es)) ≡ entered_view e ∷ without spot (map entered_view (drop (suc i) es)) = ap (λ (l : List Entered). without spot (map entered_view l)) rest ∙ if_hasn't (e.number == spot) (map entered_view (drop (suc i) es)) (entered_view e ∷ without spot (map entered_view (drop (suc i) es))) test in
    let front : take (i + 1) es ≡ take i es ++ e ∷ [] = take_more es i e below ∙ ap (λ (x : Entered). take i es ++ x ∷ []) (sym at) in
    let fronts : map entered_view (take (i + 1) es) ≡ map entered_view (take i es) ++ entered_view e ∷ [] = ap (λ (l : List Entered). map entered_view l) front ∙ map-append entered_view (take i es) (e ∷ []) in
    so_far ∙ (ap (λ (l : List (ℕ × List ℕ)). map entered_view (take i es) ++ l) after
    ∙ (sym (append_assoc (map entered_view (take i es)) (entered_view e ∷ []) (without spot (map entered_view (drop (suc i) es))))
    ∙ (λ j. sym fronts j ++ without spot (map entered_view (drop (sym (add-one i) j) es)))))

pub without_end : (es : List Entered) (i spot : ℕ) → length es ≤ i → without spot (map entered_view es) ≡ map entered_view (take i es) ++ without spot (map entered_view (drop i es)) → map entered_view es ≡ without spot (map entered_view es)
without_end es i spot past so_far =
    sym (so_far ∙ (λ j. map entered_view (take_all i es past j) ++ without spot (map entered_view (drop_all i es past j))) ∙ append-nil (map entered_view es))

-- a spot that was entered last

same_number : (n : ℕ) → (n == n) ≡ true
same_number n = grind (arith, nat_tests)

pub entered_last : (spot : ℕ) (path : List ℕ) (es : List (ℕ × List ℕ)) → path_of spot es ≡ None → path_of spot (es ++ (spot, path) ∷ []) ≡ Some path
entered_last spot path [] e = if_has (spot == spot) (Some path) None (same_number spot)
entered_last spot path (x ∷ es) e = elim (cases_Bool (x.0 == spot)) [
  | inl is ↦ let bad : Some x.1 ≡ None = sym (if_has (x.0 == spot) (Some x.1) (path_of spot es) is) ∙ e in cc
  | inr isn't ↦ if_hasn't (x.0 == spot) (Some x.1) (path_of spot (es ++ (spot, path) ∷ [])) isn't ∙ entered_last spot path es (sym (if_hasn't (x.0 == spot) (Some x.1) (path_of spot es) isn't) ∙ e)
]

pub left_last : (spot : ℕ) (path : List ℕ) (es : List (ℕ × List ℕ)) → path_of spot es ≡ None → without spot (es ++ (spot, path) ∷ []) ≡ es
left_last spot path [] e = if_has (spot == spot) [] ((spot, path) ∷ []) (same_number spot)
left_last spot path (x ∷ es) e = elim (cases_Bool (x.0 == spot)) [
  | inl is ↦ let bad : Some x.1 ≡ None = sym (if_has (x.0 == spot) (Some x.1) (path_of spot es) is) ∙ e in cc
  | inr isn't ↦ if_hasn't (x.0 == spot) (es ++ (spot, path) ∷ []) (x ∷ without spot (es ++ (spot, path) ∷ [])) isn't ∙ ap (λ (l : List (ℕ × List ℕ)). x ∷ l) (left_last spot path es (sym (if_hasn't (x.0 == spot) (Some x.1) (path_of spot es) isn't) ∙ e))
]
