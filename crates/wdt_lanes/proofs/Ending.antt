-- What the lanes leave of their seats, said of the lists that come back.
use Rattle.std.proofs.Common.{◌≡◌, ℕ, zero, suc, ◌+◌, ◌<◌, Bool, false, List, [], ◌∷◌, ◌++◌, map, take, drop, length, get_or, Option, Some, None, refl, sym, ap, ◌∙◌, subst, arith}
use Rattle.std.specs.Prelude.{IfSome}
use Rattle.std.proofs.lemmas.List.{get_or-map, length-map, take_at}
use Rattle.wdt_units.specs.declared.numbers.LaneSet.{LaneSet}
use Rattle.wdt_units.specs.LaneSets.{has_lane, no_lanes}
use Rattle.wdt_units.proofs.LaneSetLaws.{in_none}
use Rattle.wdt_gate.specs.Told.{upto}
use Rattle.wdt_lanes.specs.declared.seats.Seat.{Seat}
use Rattle.wdt_lanes.specs.Held.{RoseFor}
use Rattle.wdt_lanes.specs.LaneLists.{EachLane, HasFlags, IsAmong}
use Rattle.wdt_lanes.specs.Seats.{RoseAtRest}
use Rattle.wdt_lanes.proofs.Flags.{among, flag_at}
use Rattle.wdt_lanes.proofs.Seating.{each_of}

-- ---- lists

pub length-upto : (first count : ℕ) → length (upto first count) ≡ count
length-upto first zero = refl
length-upto first (suc count) = ap suc (length-upto (first + 1) count)

-- there are as many as their numbers count
pub counted : {P : Type 0} (lane : P → ℕ) (passes : List P) (lanes : ℕ) → map lane passes ≡ upto 0 lanes → length passes ≡ lanes
counted lane passes lanes all = sym (length-map passes lane) ∙ ap length all ∙ length-upto 0 lanes

-- a list that was lent as a whole
pub whole : {A : Type 0} (count : ℕ) (new old : List A) → length new ≡ count → take count (new ++ drop (length new) old) ≡ new
whole count new old same = take_at new (drop (length new) old) count same

-- numbers that stayed one by one stayed as a list
pub same_numbers : {P : Type 0} (lane : P → ℕ) (old new : List P) → length new ≡ length old → ((k : ℕ) (d : P) → k < length old → lane (get_or new k d) ≡ lane (get_or old k d)) → map lane new ≡ map lane old
same_numbers lane [] [] same h = refl
same_numbers lane [] (y ∷ ys) same h = absurd (omega (arith, same))
same_numbers lane (x ∷ xs) [] same h = absurd (omega (arith, same))
same_numbers lane (x ∷ xs) (y ∷ ys) same h = ap (λ n. n ∷ map lane ys) (h zero x (omega arith)) ∙ ap (λ w. lane x ∷ w) (same_numbers lane xs ys (omega (arith, same)) (λ k d lt. h (suc k) d (omega (arith, lt))))

-- what is said of all that was handed in is said of each seat
pub seat_has : {A B : Type 0} (P : B → Type 0) (f : A → B) (olds : List A) (old : List B) → map f olds ≡ old → ((k : ℕ) (d : B) → k < length old → P (get_or old k d)) → (k : ℕ) (d : A) → k < length olds → P (f (get_or olds k d))
seat_has {A} {B} P f olds old e h k d lt =
    let within : k < length old = omega (arith, lt, ap length e, length-map olds f) in
    subst P (ap (λ (w : List B). get_or w k (f d)) (sym e) ∙ get_or-map f olds k d (f d) lt) (h k (f d) within)

-- the same where a run is told
pub seat_tells : {R A B : Type 0} (run : Option R) (P : R → B → Type 0) (f : A → B) (olds : List A) (old : List B) → map f olds ≡ old → IfSome run (λ r. (k : ℕ) (d : B) → k < length old → P r (get_or old k d))
    → (k : ℕ) (d : A) → k < length olds → IfSome run (λ r. P r (f (get_or olds k d)))
seat_tells None P f olds old e h k d lt = tt
seat_tells (Some r) P f olds old e h k d lt = seat_has (P r) f olds old e h k d lt

-- ---- what comes back

pub pass_lanes : {P S C : Type 0} (R : ℕ → P → P → Type 0) (olds news : List (Seat P S C)) (old new : List P) → map (λ s. s.pass) olds ≡ old → new ≡ map (λ s. s.pass) news → length news ≡ length olds
    → ((k : ℕ) (d : Seat P S C) → k < length olds → R k (get_or olds k d).pass (get_or news k d).pass) → EachLane R old new
pass_lanes R olds news old new e n same h = each_of R (λ s. s.pass) olds news old new e n same h

pub source_lanes : {P S C : Type 0} (R : ℕ → S → S → Type 0) (olds news : List (Seat P S C)) (old new : List S) → map (λ s. s.source) olds ≡ old → new ≡ map (λ s. s.source) news → length news ≡ length olds
    → ((k : ℕ) (d : Seat P S C) → k < length olds → R k (get_or olds k d).source (get_or news k d).source) → EachLane R old new
source_lanes R olds news old new e n same h = each_of R (λ s. s.source) olds news old new e n same h

pub dialer_lanes : {P S C : Type 0} (R : ℕ → C → C → Type 0) (olds news : List (Seat P S C)) (old new : List C) → map (λ s. s.dialer) olds ≡ old → new ≡ map (λ s. s.dialer) news → length news ≡ length olds
    → ((k : ℕ) (d : Seat P S C) → k < length olds → R k (get_or olds k d).dialer (get_or news k d).dialer) → EachLane R old new
dialer_lanes R olds news old new e n same h = each_of R (λ s. s.dialer) olds news old new e n same h

-- there is a seat for each lane
pub seat_count : {P S C : Type 0} (lane : P → ℕ) (olds : List (Seat P S C)) (passes : List P) (lanes : ℕ) → map (λ s. s.pass) olds ≡ passes → map lane passes ≡ upto 0 lanes → length olds ≡ lanes
seat_count lane olds passes lanes e all = sym (length-map olds (λ s. s.pass)) ∙ ap length e ∙ counted lane passes lanes all

-- whether a lane is in the set is the flag of its seat
pub flag_in : {A : Type 0} (f : A → Bool) (set : LaneSet) (shown news olds : List A) → shown ≡ news → length news ≡ length olds → HasFlags set (map f shown) → (k : ℕ) (d : A) → k < length olds → has_lane set k ≡ f (get_or news k d)
flag_in {A} f set shown news olds e same has k d lt = let P : List A → Type 0 = λ w. HasFlags set (map f w) in flag_at f set news (subst P e has) k d (omega (arith, lt, same))

pub among_in : {A : Type 0} (f : A → Bool) (set : LaneSet) (shown news olds : List A) (lanes : ℕ) → shown ≡ news → length news ≡ length olds → length olds ≡ lanes → HasFlags set (map f shown) → IsAmong lanes set
among_in f set shown news olds lanes e same len has = among set (map f shown) lanes (length-map shown f ∙ ap length e ∙ same ∙ len) has

-- a count that rose for a seat's flag rose for its lane in the set
pub rose_in : (set : LaneSet) (k : ℕ) (flag : Bool) (a b : ℕ) → has_lane set k ≡ flag → RoseFor flag a b → RoseFor (has_lane set k) a b
rose_in set k flag a b e r = let P : Bool → Type 0 = λ f. RoseFor f a b in subst P (sym e) r

-- where no lane ran no count rose, and none is said to have
pub rested : {C : Type 0} (R : ℕ → C → C → Type 0) (count : C → ℕ) (set : LaneSet) (olds lent news back : List C) → lent ≡ olds → back ≡ news → set ≡ no_lanes → EachLane R lent news → ((k : ℕ) (o n : C) → R k o n → count n ≡ count o)
    → EachLane (λ lane o n. RoseAtRest (has_lane set lane) count o n) olds back
rested {C} R count set olds lent news back e b none each same =
    let stays : (k : ℕ) (o n : C) → R k o n → RoseAtRest (has_lane set k) count o n = λ k o n r. record {
      later = omega (arith, same k o n r);
      rose = λ is. let no : has_lane set k ≡ false = ap (λ (s : LaneSet). has_lane s k) none ∙ in_none k in cc;
    } in
    record {
      same = ap length b ∙ each.same ∙ ap length e;
      at = λ k d lt.
          let within : k < length lent = omega (arith, lt, ap length e) in
          let P : List C → Type 0 = λ w. RoseAtRest (has_lane set k) count (get_or w k d) (get_or back k d) in
          let Q : List C → Type 0 = λ w. RoseAtRest (has_lane set k) count (get_or lent k d) (get_or w k d) in
          subst P e (subst Q (sym b) (stays k (get_or lent k d) (get_or news k d) (each.at k d within)));
    }
