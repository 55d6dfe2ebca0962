-- Sets of lanes and lists of flags.
use Rattle.std.proofs.Common.{◌≡◌, ℕ, ◌+◌, ◌<◌, ◌==◌, ◌||◌, ◌⊎◌, Bool, true, false, List, [], ◌∷◌, ◌++◌, map, length, get_or, take, refl, sym, ap, ◌∙◌, subst, inl, inr, arith}
use Rattle.std.proofs.lemmas.Bool.{eq-eqb}
use Rattle.std.proofs.lemmas.Bool.Decides.{eqb_tells}
use Rattle.std.proofs.lemmas.List.{get_or_append_left, get_or_past, get_or_push, get_or-map, length_push, length-map, length-take-le, map_more}
use Rattle.wdt_units.specs.declared.numbers.LaneSet.{LaneSet}
use Rattle.wdt_units.specs.LaneSets.{has_lane, no_lanes, only_lane, lanes_with}
use Rattle.wdt_units.proofs.LaneSetLaws.{in_none, in_only, in_with}
use Rattle.wdt_lanes.specs.LaneLists.{HasFlags, IsAmong}

three : (a b : ℕ) → (a < b) ⊎ ((a ≡ b) ⊎ (b < a))
three a b = search arith

apart : (a b : ℕ) → (a < b) ⊎ (b < a) → (a == b) ≡ false
apart a b h = elim (eqb_tells a b) [ inl e ↦ absurd (elim h [ inl lt ↦ omega (arith, lt, e.1) | inr gt ↦ omega (arith, gt, e.1) ]) | inr e ↦ e.0 ]

or_false : (a : Bool) → (a || false) ≡ a
or_false true = refl
or_false false = refl

or_true : (a : Bool) → (a || true) ≡ true
or_true true = refl
or_true false = refl

-- the flag of a lane, where those of the next lane are appended
below : (flags : List Bool) (flag : Bool) (k : ℕ) → k < length flags → get_or (flags ++ flag ∷ []) k false ≡ get_or flags k false
below flags flag k lt = get_or_append_left flags (flag ∷ []) false k lt

beyond : (flags : List Bool) (flag : Bool) (k : ℕ) → length flags < k → get_or (flags ++ flag ∷ []) k false ≡ get_or flags k false
beyond flags flag k gt = get_or_past (flags ++ flag ∷ []) k false (omega (arith, gt, length_push flags flag)) ∙ sym (get_or_past flags k false (omega (arith, gt)))

-- a lane with a flag is added
pub flag_added : (set : LaneSet) (lane : ℕ) (flags : List Bool) → length flags ≡ lane → HasFlags set flags → HasFlags (lanes_with set (only_lane lane)) (flags ++ true ∷ [])
flag_added set lane flags len has k =
    let new : has_lane (lanes_with set (only_lane lane)) k ≡ (get_or flags k false || (lane == k)) = in_with set (only_lane lane) k ∙ ap (λ b. has_lane set k || b) (in_only lane k) ∙ ap (λ b. b || (lane == k)) (has k) in
    let other : (lane == k) ≡ false → has_lane (lanes_with set (only_lane lane)) k ≡ get_or flags k false = λ e. new ∙ ap (λ b. get_or flags k false || b) e ∙ or_false (get_or flags k false) in
    elim (three k lane) [
      | inl lt ↦ other (apart lane k (inr lt)) ∙ sym (below flags true k (omega (arith, lt, len)))
      | inr rest ↦ elim rest [
        | inl e ↦ new ∙ ap (λ b. get_or flags k false || b) (eq-eqb lane k (sym e)) ∙ or_true (get_or flags k false) ∙ sym (get_or_push flags true false k (len ∙ sym e))
        | inr gt ↦ other (apart lane k (inl gt)) ∙ sym (beyond flags true k (omega (arith, gt, len)))
      ]
    ]

-- a lane without one isn't
pub flag_left : (set : LaneSet) (lane : ℕ) (flags : List Bool) → length flags ≡ lane → HasFlags set flags → HasFlags set (flags ++ false ∷ [])
flag_left set lane flags len has k =
    elim (three k lane) [
      | inl lt ↦ has k ∙ sym (below flags false k (omega (arith, lt, len)))
      | inr rest ↦ elim rest [
        | inl e ↦ has k ∙ get_or_past flags k false (omega (arith, len, e)) ∙ sym (get_or_push flags false false k (len ∙ sym e))
        | inr gt ↦ has k ∙ sym (beyond flags false k (omega (arith, gt, len)))
      ]
    ]

-- the same of a call's result
pub flag_of : (set one result : LaneSet) (lane : ℕ) (flag : Bool) → flag ≡ true → one ≡ only_lane lane → result ≡ lanes_with set one → (flags : List Bool) → length flags ≡ lane → HasFlags set flags → HasFlags result (flags ++ flag ∷ [])
flag_of set one result lane flag is o r flags len has =
    let P : Bool → Type 0 = λ b. HasFlags result (flags ++ b ∷ []) in
    let Q : LaneSet → Type 0 = λ s. HasFlags s (flags ++ true ∷ []) in
    subst P (sym is) (subst Q (sym (r ∙ ap (lanes_with set) o)) (flag_added set lane flags len has))

pub no_flag_of : (set : LaneSet) (lane : ℕ) (flag : Bool) → flag ≡ false → (flags : List Bool) → length flags ≡ lane → HasFlags set flags → HasFlags set (flags ++ flag ∷ [])
no_flag_of set lane flag is flags len has = let P : Bool → Type 0 = λ b. HasFlags set (flags ++ b ∷ []) in subst P (sym is) (flag_left set lane flags len has)

-- the flags of one more of a list
pub more_flags : {A : Type 0} (f : A → Bool) (seats : List A) (n lane : ℕ) (seat : A) (set result : LaneSet) → n < length seats → seat ≡ get_or seats n seat → n ≡ lane
    → ((flags : List Bool) → length flags ≡ lane → HasFlags set flags → HasFlags result (flags ++ f seat ∷ [])) → HasFlags set (map f (take n seats)) → HasFlags result (map f (take (n + 1) seats))
more_flags f seats n lane seat set result lt read same call has =
    let P : List Bool → Type 0 = λ w. HasFlags result w in
    let long : length (map f (take n seats)) ≡ lane = length-map (take n seats) f ∙ length-take-le n seats (omega (arith, lt)) ∙ same in
    let one : map f (take n seats) ++ f seat ∷ [] ≡ map f (take (n + 1) seats) = ap (λ s. map f (take n seats) ++ f s ∷ []) read ∙ sym (map_more f seats n seat lt) in
    subst P one (call (map f (take n seats)) long has)

-- the empty set is that of no flags
pub no_flags : HasFlags no_lanes []
no_flags k = in_none k

-- a flagged lane is one of the lanes
pub among : (set : LaneSet) (flags : List Bool) (lanes : ℕ) → length flags ≡ lanes → HasFlags set flags → IsAmong lanes set
among set flags lanes len has lane is =
    elim (three lane lanes) [
      | inl lt ↦ lt
      | inr rest ↦ absurd (elim rest [
        | inl e ↦ let no : has_lane set lane ≡ false = has lane ∙ get_or_past flags lane false (omega (arith, len, e)) in cc
        | inr gt ↦ let no : has_lane set lane ≡ false = has lane ∙ get_or_past flags lane false (omega (arith, len, gt)) in cc
      ])
    ]

-- the empty set has no lane
pub none_among : (lanes : ℕ) → IsAmong lanes no_lanes
none_among lanes lane is = let no : has_lane no_lanes lane ≡ false = in_none lane in cc

-- whether a lane is in the set is its seat's flag
pub flag_at : {A : Type 0} (f : A → Bool) (set : LaneSet) (seats : List A) → HasFlags set (map f seats) → (lane : ℕ) (d : A) → lane < length seats → has_lane set lane ≡ f (get_or seats lane d)
flag_at f set seats has lane d lt = has lane ∙ get_or-map f seats lane d false lt
