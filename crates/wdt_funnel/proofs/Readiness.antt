-- What the code finds of whole sets is what holds of each lane.
use Rattle.std.proofs.Common.{◌≡◌, ℕ, zero, suc, ◌<◌, ◌^◌, ◌==◌, ◌&&◌, ◌||◌, ◌⊎◌, not, Bool, true, false, nat_lt, refl, sym, ap, ◌∙◌, inl, inr, arith}
use Rattle.std.proofs.lemmas.Bool.{eqb-true, true≢false}
use Rattle.std.proofs.lemmas.Bool.Decides.{nat_tests}
use Rattle.wdt_units.specs.declared.numbers.LaneSet.{LaneSet}
use Rattle.wdt_units.specs.LaneSets.{has_lane, first_lanes, lanes_without}
use Rattle.wdt_units.proofs.LaneSetLaws.{first_fits, in_first, in_none, in_without, none_in, without_fits}
use Rattle.wdt_funnel.specs.Happenings.{every, some}
use Rattle.wdt_funnel.proofs.Says.{every_same}

every_get : (n : ℕ) (p : ℕ → Bool) → every n p ≡ true → (l : ℕ) → l < n → p l ≡ true
every_get zero p all l lt = absurd (omega arith)
every_get (suc n) p all l lt = elim (last_or_less n l lt) [ inl e ↦ ap p e ∙ front (p n) (every n p) all | inr less ↦ every_get n p (back (p n) (every n p) all) l less ]
  where
    last_or_less : (n l : ℕ) → l < suc n → (l ≡ n) ⊎ (l < n)
    last_or_less n l lt = search arith

    front : (a b : Bool) → (a && b) ≡ true → a ≡ true
    front true b h = refl
    front false b h = h

    back : (a b : Bool) → (a && b) ≡ true → b ≡ true
    back true b h = h
    back false b h = absurd (true≢false (sym h))

some_not : (n : ℕ) (p : ℕ → Bool) → not (every n (λ l. not (p l))) ≡ some n p
some_not zero p = refl
some_not (suc n) p = at (p n) (every n (λ l. not (p l))) ∙ ap (λ (x : Bool). p n || x) (some_not n p)
  where
    at : (a b : Bool) → not (not a && b) ≡ (a || not b)
    at true b = refl
    at false b = refl

-- a set of the first n lanes is empty where none of them is in it
pub is_empty_by : (n : ℕ) (set : LaneSet) → set.0 < 2 ^ n → (set.0 == 0) ≡ every n (λ l. not (has_lane set l))
is_empty_by n set fits = at (set.0 == 0) (every n (λ l. not (has_lane set l))) forth back
  where
    at : (a b : Bool) → (a ≡ true → b ≡ true) → (b ≡ true → a ≡ true) → a ≡ b
    at true true f g = refl
    at false false f g = refl
    at true false f g = sym (f refl)
    at false true f g = g refl

    none : set.0 ≡ 0 → (l : ℕ) → l < n → not (has_lane set l) ≡ true
    none e l lt = ap (λ (k : ℕ). let s : LaneSet = record { 0 = k } in not (has_lane s l)) e ∙ ap not (in_none l)

    all : (m : ℕ) → every m (λ l. true) ≡ true
    all zero = refl
    all (suc m) = all m

    forth : (set.0 == 0) ≡ true → every n (λ l. not (has_lane set l)) ≡ true
    forth e = every_same n (λ l. not (has_lane set l)) (λ l. true) (none (eqb-true set.0 0 e)) ∙ all n

    flip : (b : Bool) → not b ≡ true → b ≡ false
    flip true h = sym h
    flip false h = refl

    back : every n (λ l. not (has_lane set l)) ≡ true → (set.0 == 0) ≡ true
    back every_not = ap (λ (s : LaneSet). s.0 == 0) (none_in n set fits (λ k lt. flip (has_lane set k) (every_get n (λ l. not (has_lane set l)) every_not k lt)))

-- no lane is neither idle nor closed
pub none_goes : (n : ℕ) (idle closed : LaneSet) → ((lanes_without (lanes_without (first_lanes n) idle) closed).0 == 0) ≡ every n (λ l. has_lane idle l || has_lane closed l)
none_goes n idle closed =
    is_empty_by n (lanes_without (lanes_without (first_lanes n) idle) closed) (without_fits n (lanes_without (first_lanes n) idle) closed (without_fits n (first_lanes n) idle (first_fits n)))
    ∙ every_same n (λ l. not (has_lane (lanes_without (lanes_without (first_lanes n) idle) closed) l)) (λ l. has_lane idle l || has_lane closed l) each
  where
    at : (a b : Bool) → not ((true && not a) && not b) ≡ (a || b)
    at true b = refl
    at false true = refl
    at false false = refl

    below : (l m : ℕ) → l < m → nat_lt l m ≡ true
    below l m lt = grind (arith, nat_tests)

    each : (l : ℕ) → l < n → not (has_lane (lanes_without (lanes_without (first_lanes n) idle) closed) l) ≡ (has_lane idle l || has_lane closed l)
    each l lt =
        ap not (in_without (lanes_without (first_lanes n) idle) closed l ∙ ap (λ (x : Bool). x && not (has_lane closed l)) (in_without (first_lanes n) idle l ∙ ap (λ (x : Bool). x && not (has_lane idle l)) (in_first n l ∙ below l n lt)))
        ∙ at (has_lane idle l) (has_lane closed l)

-- every closed lane was heard of
pub all_heard : (n : ℕ) (closed heard : LaneSet) → closed.0 < 2 ^ n → ((lanes_without closed heard).0 == 0) ≡ every n (λ l. not (has_lane closed l) || has_lane heard l)
all_heard n closed heard fits =
    is_empty_by n (lanes_without closed heard) (without_fits n closed heard fits)
    ∙ every_same n (λ l. not (has_lane (lanes_without closed heard) l)) (λ l. not (has_lane closed l) || has_lane heard l) (λ l lt. ap not (in_without closed heard l) ∙ at (has_lane closed l) (has_lane heard l))
  where
    at : (a b : Bool) → not (a && not b) ≡ (not a || b)
    at true true = refl
    at true false = refl
    at false b = refl

-- one lane is idle
pub some_idle : (n : ℕ) (idle : LaneSet) → idle.0 < 2 ^ n → not (idle.0 == 0) ≡ some n (has_lane idle)
some_idle n idle fits = ap not (is_empty_by n idle fits) ∙ some_not n (has_lane idle)
