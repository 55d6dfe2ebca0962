-- Lists in which each item comes before all later ones.
use Rattle.std.proofs.Common.{◌≡◌, ℕ, zero, suc, ◌<◌, Bool, true, false, List, [], ◌∷◌, ◌++◌, length, get_or, slice_get, Some, None, ◌⊎◌, refl, sym, ap, ◌∙◌, subst, arith, inl, inr}
use Rattle.std.specs.List.{list_all, Contains}
use Rattle.std.specs.List.Sorted.{IsPermutation}
use Rattle.std.proofs.lemmas.Bool.{and_from, and_parts, and_left, and_right}
use Rattle.std.proofs.lemmas.List.Folds.{list_all_at, list_all-append}
use Rattle.std.proofs.lemmas.List.Sorted.{Contains-permutation, IsPermutation-sym}
use Rattle.std.proofs.lemmas.List.Sums.{AllPass-from_list_all, list_all-from_AllPass}
use Rattle.std.proofs.lemmas.Option.{slice_get_within, get_or_from_slice_get, slice_get-get_or}
use Rattle.wdt_units.specs.Rising.{is_rising_by}
use Rattle.wdt_units.proofs.lemmas.Lists.{list_all-at}

-- ---- orders

-- what comes before what comes before a third comes before that
abbrev pub IsTransitive : {A : Type 0} → (A → A → Bool) → Type 0
IsTransitive {A} before = (a b c : A) → before a b ≡ true → before b c ≡ true → before a c ≡ true

-- of two items at most one comes before the other
abbrev pub IsOneWay : {A : Type 0} → (A → A → Bool) → Type 0
IsOneWay {A} before = (a b : A) → before a b ≡ true → before b a ≡ true → ⊥

-- ---- by pairs

-- what comes before the first of a rising list comes before all of it
pub all_before : {A : Type 0} (before : A → A → Bool) → IsTransitive before → (a b : A) (xs : List A) → before a b ≡ true → list_all (before b) xs ≡ true → list_all (before a) xs ≡ true
all_before before t a b [] h k = refl
all_before before t a b (x ∷ xs) h k =
    let parts = and_parts (before b x) (list_all (before b) xs) k in
    and_from (before a x) (list_all (before a) xs) (t a b x h parts.0) (all_before before t a b xs h parts.1)

-- each item of a rising list comes before each later one
pub rising_at : {A : Type 0} (before : A → A → Bool) (xs : List A) (i j : ℕ) (d : A) → is_rising_by before xs ≡ true → i < j → j < length xs → before (get_or xs i d) (get_or xs j d) ≡ true
rising_at before [] i j d up lt within = absurd (omega arith)
rising_at before (x ∷ xs) i zero d up lt within = absurd (omega arith)
rising_at before (x ∷ xs) zero (suc j) d up lt within = AllPass-from_list_all (before x) xs ((and_parts (list_all (before x) xs) (is_rising_by before xs) up).0) j d (omega arith)
rising_at before (x ∷ xs) (suc i) (suc j) d up lt within = rising_at before xs i j d ((and_parts (list_all (before x) xs) (is_rising_by before xs) up).1) (omega arith) (omega arith)

-- a list each of whose items comes before each later one rises
pub rising_from_pairs : {A : Type 0} (before : A → A → Bool) (xs : List A) → ((i j : ℕ) (d : A) → i < j → j < length xs → before (get_or xs i d) (get_or xs j d) ≡ true) → is_rising_by before xs ≡ true
rising_from_pairs before [] h = refl
rising_from_pairs before (x ∷ xs) h =
    and_from (list_all (before x) xs) (is_rising_by before xs)
    (list_all-from_AllPass (before x) xs (λ k d lt. h zero (suc k) d (omega arith) (omega arith)))
    (rising_from_pairs before xs (λ i j d a b. h (suc i) (suc j) d (omega arith) (omega arith)))

-- ---- by neighbours

-- a list whose neighbours rise does
pub rising_from_neighbours : {A : Type 0} (before : A → A → Bool) → IsTransitive before → (xs : List A) → ((k : ℕ) (d : A) → suc k < length xs → before (get_or xs k d) (get_or xs (suc k) d) ≡ true) → is_rising_by before xs ≡ true
rising_from_neighbours before t [] h = refl
rising_from_neighbours before t (x ∷ []) h = refl
rising_from_neighbours before t (x ∷ y ∷ ys) h =
    let rest : is_rising_by before (y ∷ ys) ≡ true = rising_from_neighbours before t (y ∷ ys) (λ k d lt. h (suc k) d (omega arith)) in
    let next : before x y ≡ true = h zero x (omega arith) in
    let parts = and_parts (list_all (before y) ys) (is_rising_by before ys) rest in
    and_from (list_all (before x) (y ∷ ys)) (is_rising_by before (y ∷ ys))
    (and_from (before x y) (list_all (before x) ys) next (all_before before t x y ys next parts.0)) rest

-- a list of which two neighbours don't rise doesn't
pub not_rising : {A : Type 0} (before : A → A → Bool) (xs : List A) (k : ℕ) (d : A) → suc k < length xs → before (get_or xs k d) (get_or xs (suc k) d) ≡ false → is_rising_by before xs ≡ false
not_rising before [] k d lt h = absurd (omega arith)
not_rising before (x ∷ xs) zero d lt h = and_left (list_all (before x) xs) (is_rising_by before xs) (list_all_at (before x) xs zero d (omega arith) h)
not_rising before (x ∷ xs) (suc k) d lt h = and_right (list_all (before x) xs) (is_rising_by before xs) (not_rising before xs k d (omega arith) h)

-- ---- parts, and one item more

-- an item between a rising list's items that come before it and those that come behind it
pub rising_insert : {A : Type 0} (before : A → A → Bool) (xs : List A) (b : A) (ys : List A) → is_rising_by before (xs ++ ys) ≡ true → list_all (λ (x : A). before x b) xs ≡ true → list_all (before b) ys ≡ true
    → is_rising_by before (xs ++ b ∷ ys) ≡ true
rising_insert before [] b ys up front behind = and_from (list_all (before b) ys) (is_rising_by before ys) behind up
rising_insert {A} before (x ∷ xs) b ys up front behind =
    let ups = and_parts (list_all (before x) (xs ++ ys)) (is_rising_by before (xs ++ ys)) up in
    let fronts = and_parts (before x b) (list_all (λ (z : A). before z b) xs) front in
    let halves = and_parts (list_all (before x) xs) (list_all (before x) ys) (sym (list_all-append (before x) xs ys) ∙ ups.0) in
    and_from (list_all (before x) (xs ++ b ∷ ys)) (is_rising_by before (xs ++ b ∷ ys))
    (list_all-append (before x) xs (b ∷ ys) ∙ and_from (list_all (before x) xs) (list_all (before x) (b ∷ ys)) halves.0 (and_from (before x b) (list_all (before x) ys) fronts.0 halves.1))
    (rising_insert before xs b ys ups.1 fronts.1 behind)

-- the parts of a rising list rise
pub rising_parts : {A : Type 0} (before : A → A → Bool) (xs ys : List A) → is_rising_by before (xs ++ ys) ≡ true → (is_rising_by before xs ≡ true) × (is_rising_by before ys ≡ true)
rising_parts before [] ys up = (refl, up)
rising_parts before (x ∷ xs) ys up =
    let ups = and_parts (list_all (before x) (xs ++ ys)) (is_rising_by before (xs ++ ys)) up in
    let halves = and_parts (list_all (before x) xs) (list_all (before x) ys) (sym (list_all-append (before x) xs ys) ∙ ups.0) in
    let rest = rising_parts before xs ys ups.1 in
    (and_from (list_all (before x) xs) (is_rising_by before xs) halves.0 rest.0, rest.1)

-- ---- one order

Has : {A : Type 0} → List A → A → Type 0
Has xs x = (k : ℕ) × (slice_get xs k ≡ Some x)

has : {A : Type 0} (xs : List A) (x : A) → Contains xs x → Has xs x
unfolding Has
has xs x h = (h.0, slice_get-get_or xs h.0 x h.1 ∙ ap Some h.2)

contains : {A : Type 0} (xs : List A) (x : A) → Has xs x → Contains xs x
unfolding Has
contains xs x h = (h.0, slice_get_within xs h.0 x h.1, get_or_from_slice_get xs h.0 x x h.1)

nothing : {A : Type 0} (x : A) → Has [] x → ⊥
unfolding Has
nothing x h = let e : None ≡ Some x = h.1 in cc

first : {A : Type 0} (x : A) (xs : List A) → Has (x ∷ xs) x
unfolding Has
first x xs = (zero, refl)

later : {A : Type 0} (x : A) (xs : List A) (z : A) → Has xs z → Has (x ∷ xs) z
unfolding Has
later x xs z h = (suc h.0, h.1)

-- what a list has is its first, or behind it
cases : {A : Type 0} (before : A → A → Bool) (x : A) (xs : List A) (z : A) → is_rising_by before (x ∷ xs) ≡ true → Has (x ∷ xs) z → (x ≡ z) ⊎ (Has xs z × (before x z ≡ true))
unfolding Has
cases before x xs z up (zero, e) = inl (let h : Some x ≡ Some z = e in cc)
cases before x xs z up (suc k, e) = inr ((k, e), list_all-at (before x) xs k z ((and_parts (list_all (before x) xs) (is_rising_by before xs) up).0) e)

heads : {A : Type 0} (before : A → A → Bool) → IsOneWay before → (x y : A) (xs ys : List A) → is_rising_by before (x ∷ xs) ≡ true → is_rising_by before (y ∷ ys) ≡ true → Has (y ∷ ys) x → Has (x ∷ xs) y → x ≡ y
heads before one x y xs ys ux uy f g =
    elim (cases before y ys x uy f) [
      | inl e ↦ sym e
      | inr low ↦
          elim (cases before x xs y ux g) [ inl e ↦ e | inr high ↦ absurd (one x y high.1 low.1) ]
    ]

strict : {A : Type 0} (before : A → A → Bool) (x : A) (xs : List A) (z : A) → is_rising_by before (x ∷ xs) ≡ true → Has xs z → x ≡ z → before x x ≡ true
unfolding Has
strict {A} before x xs z up h same =
    let low : before x z ≡ true = list_all-at (before x) xs h.0 z ((and_parts (list_all (before x) xs) (is_rising_by before xs) up).0) h.1 in
    subst (λ (w : A). before x w ≡ true) (sym same) low

above_first : {A : Type 0} (before : A → A → Bool) → IsOneWay before → (x y : A) (xs ys : List A) → is_rising_by before (x ∷ xs) ≡ true → is_rising_by before (y ∷ ys) ≡ true → x ≡ y
    → ((z : A) → Has (x ∷ xs) z → Has (y ∷ ys) z) → (z : A) → Has xs z → Has ys z
above_first before one x y xs ys ux uy same f z h =
    elim (cases before y ys z uy (f z (later x xs z h))) [
      | inr w ↦ w.0
      | inl e ↦
          let b : before x x ≡ true = strict before x xs z ux h (same ∙ e) in absurd (one x x b b)
    ]

unique : {A : Type 0} (before : A → A → Bool) → IsOneWay before → (xs ys : List A) → is_rising_by before xs ≡ true → is_rising_by before ys ≡ true
    → ((z : A) → Has xs z → Has ys z) → ((z : A) → Has ys z → Has xs z) → xs ≡ ys
unique before one [] [] ux uy f g = refl
unique before one [] (y ∷ ys) ux uy f g = absurd (nothing y (g y (first y ys)))
unique before one (x ∷ xs) [] ux uy f g = absurd (nothing x (f x (first x xs)))
unique before one (x ∷ xs) (y ∷ ys) ux uy f g =
    let same : x ≡ y = heads before one x y xs ys ux uy (f x (first x xs)) (g y (first y ys)) in
    let rest : xs ≡ ys = unique before one xs ys ((and_parts _ (is_rising_by before xs) ux).1) ((and_parts _ (is_rising_by before ys) uy).1)
    (above_first before one x y xs ys ux uy same f) (above_first before one y x ys xs uy ux (sym same) g) in
    cc

-- two rising lists with the same items are one
pub rising_once : {A : Type 0} (before : A → A → Bool) → IsOneWay before → (xs ys : List A) → is_rising_by before xs ≡ true → is_rising_by before ys ≡ true → IsPermutation xs ys → xs ≡ ys
rising_once before one xs ys ux uy p =
    unique before one xs ys ux uy (λ z h. has ys z (Contains-permutation xs ys z p (contains xs z h))) (λ z h. has xs z (Contains-permutation ys xs z (IsPermutation-sym xs ys p) (contains ys z h)))

-- two rising lists each of which has all that the other has are one
pub rising_same : {A : Type 0} (before : A → A → Bool) → IsOneWay before → (xs ys : List A) → is_rising_by before xs ≡ true → is_rising_by before ys ≡ true
    → ((z : A) → Contains xs z → Contains ys z) → ((z : A) → Contains ys z → Contains xs z) → xs ≡ ys
rising_same before one xs ys ux uy f g = unique before one xs ys ux uy (λ z h. has ys z (f z (contains xs z h))) (λ z h. has xs z (g z (contains ys z h)))
