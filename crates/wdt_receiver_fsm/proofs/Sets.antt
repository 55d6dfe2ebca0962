-- The untold lanes of a funnel as a set.
use Rattle.std.proofs.Common.{◌≡◌, ◌≢◌, ◌⊎◌, inl, inr, ℕ, zero, suc, ◌+◌, ◌<◌, ◌≤◌, ◌^◌, ◌==◌, ◌&&◌, ◌||◌, not, nat_lt, Bool, true, false, List, [], ◌∷◌, ◌++◌, length, length-append, filter, map, if◌then◌else◌, append-nil, add-one, refl, sym, ap, ◌∙◌, arith}
use Rattle.std.specs.Int.{bit_at}
use Rattle.std.proofs.lemmas.Bool.{eq-eqb, ne_eqb}
use Rattle.std.proofs.lemmas.Bool.Decides.{nat_tests}
use Rattle.std.proofs.lemmas.List.{map-append}
use Rattle.std.proofs.lemmas.List.Elements.{filter-append}
use Rattle.std.proofs.lemmas.Nat.Bits.{bit_at-lt, same_from_bits_below}
use Rattle.wdt_units.specs.declared.limits.TheConstants.{MAX_LANES}
use Rattle.wdt_units.specs.declared.numbers.LaneSet.{LaneSet}
use Rattle.wdt_units.specs.LaneSets.{has_lane, only_lane}
use Rattle.wdt_units.proofs.LaneSetLaws.{in_none, in_only, in_with, only_fits, with_fits, without_fits}
use Rattle.wdt_codec.specs.declared.frames.Mark.{Mark}
use Rattle.wdt_funnel.specs.Barrier.{Barrier, after, barrier_from, barrier_of, no_barrier, untold}
use Rattle.wdt_funnel.specs.Happenings.{Happening, Took, Dropped, Idled, Told, Closed, AreOn, is_closed}
use Rattle.wdt_funnel.proofs.ForCallers as barriers
use Rattle.wdt_receiver_fsm.specs.declared.events.RecvEvent.{RecvEvent}
use Rattle.wdt_receiver_fsm.specs.declared.events.RecvEvent.TheVariants as events
use Rattle.wdt_receiver_fsm.specs.PlainReceiver.{mark_of}
use Rattle.wdt_receiver_fsm.specs.Ready as words
use Rattle.wdt_receiver_fsm.specs.ReceiverHistory.{past_of}
use Rattle.wdt_receiver_fsm.specs.Sets.{has, numbers, set_of}
use Rattle.wdt_receiver_fsm.specs.Happened.{happenings_of}
use Rattle.wdt_receiver_fsm.specs.Kept.{AreWithin}
use Rattle.wdt_receiver_fsm.proofs.Words.{has_filter, is_below, says_of, untold_of}

-- ---- sets of the first sixteen lanes

same_bit : (a b : ℕ) → a < 2 → b < 2 → (a == 1) ≡ (b == 1) → a ≡ b
same_bit a b p q h = grind (arith, nat_tests)

same_set : (a b : LaneSet) → a.0 < 2 ^ 16 → b.0 < 2 ^ 16 → ((k : ℕ) → k < 16 → has_lane a k ≡ has_lane b k) → a ≡ b
same_set a b p q same =
    ap (λ (n : ℕ). let it : LaneSet = record { 0 = n } in it)
    (same_from_bits_below 16 a.0 b.0 p q (λ k lt. same_bit (bit_at a.0 k) (bit_at b.0 k) (bit_at-lt a.0 k) (bit_at-lt b.0 k) (same k lt)))

has_set : (xs : List ℕ) (k : ℕ) → has_lane (set_of xs) k ≡ has xs k
has_set [] k = in_none k
has_set (x ∷ xs) k = in_with (only_lane x) (set_of xs) k ∙ ap (λ (b : Bool). b || has_lane (set_of xs) k) (in_only x k) ∙ ap (λ (b : Bool). x == k || b) (has_set xs k)

set_fits : (xs : List ℕ) → ((k : ℕ) → has xs k ≡ true → k < 16) → (set_of xs).0 < 2 ^ 16
set_fits [] below = omega arith
set_fits (x ∷ xs) below =
    with_fits 16 (only_lane x) (set_of xs) (only_fits 16 x (below x (ap (λ (b : Bool). b || has xs x) (eq-eqb x x refl)))) (set_fits xs (λ k h. below k (behind (x == k) (has xs k) h)))
  where
    behind : (a b : Bool) → b ≡ true → (a || b) ≡ true
    behind true b h = refl
    behind false b h = h

from_below : (k n : ℕ) → nat_lt k n ≡ true → k < n
from_below k n h = grind (arith, nat_tests)

back : (a b : Bool) → (a && b) ≡ true → b ≡ true
back true b h = h
back false b h = cc

some_fit : (f : ℕ → Bool) (n : ℕ) → n ≤ 16 → (set_of (filter f (numbers n))).0 < 2 ^ 16
some_fit f n few = set_fits (filter f (numbers n)) (λ k h. let lt : k < n = from_below k n (back (f k) (nat_lt k n) (sym (has_filter f n k) ∙ h)) in omega (arith, lt, few))

-- a set that is made of those of the first n that pass has those
pub has_some : (f : ℕ → Bool) (n k : ℕ) → k < n → has_lane (set_of (filter f (numbers n))) k ≡ f k
has_some f n k lt = has_set (filter f (numbers n)) k ∙ has_filter f n k ∙ and_true (f k) (nat_lt k n) (is_below k n lt)
  where
    and_true : (a b : Bool) → b ≡ true → (a && b) ≡ a
    and_true true b e = e
    and_true false b e = refl

-- ---- what happened on the lanes

-- what entries are for the finish happens on their lanes
pub on_of : (n : ℕ) (g : List RecvEvent) → AreWithin n g → AreOn n (happenings_of g)
on_of n [] w = tt
on_of n (events.Take k conn ∷ g) w = (w.0, on_of n g w.1)
on_of n (events.Dropped k ∷ g) w = (w.0, on_of n g w.1)
on_of n (events.Idle k ∷ g) w = (w.0, on_of n g w.1)
on_of n (events.Told k set ∷ g) w = (w.0, on_of n g w.1)
on_of n (events.Close k ∷ g) w = (w.0, on_of n g w.1)
on_of n (events.NoLink k ∷ g) w = on_of n g w.1
on_of n (events.Met k settings ∷ g) w = on_of n g w.1
on_of n (events.Sized k files bytes ∷ g) w = on_of n g w.1
on_of n (events.Begin k b ∷ g) w = on_of n g w.1
on_of n (events.Land k ∷ g) w = on_of n g w.1
on_of n (events.Finish ∷ g) w = on_of n g w.1
on_of n (events.Acked k ∷ g) w = on_of n g w.1
on_of n (events.Quit k ∷ g) w = on_of n g w.1
on_of n (events.Abort k code ∷ g) w = on_of n g w.1
on_of n (events.Peer k kind ∷ g) w = on_of n g w.1

closed_from : (n : ℕ) (b : Barrier) (hs : List Happening) → n ≤ 16 → AreOn n hs → b.closed.0 < 2 ^ 16 → (barrier_from b hs).closed.0 < 2 ^ 16
closed_from n b [] few on fits = fits
closed_from n b (Took k ∷ hs) few on fits = closed_from n (after b (Took k)) hs few on.1 fits
closed_from n b (Dropped k ∷ hs) few on fits = closed_from n (after b (Dropped k)) hs few on.1 fits
closed_from n b (Idled k ∷ hs) few on fits = closed_from n (after b (Idled k)) hs few on.1 fits
closed_from n b (Told k set ∷ hs) few on fits = closed_from n (after b (Told k set)) hs few on.1 fits
closed_from n b (Closed k ∷ hs) few on fits =
    closed_from n (after b (Closed k)) hs few on.1 (with_fits 16 b.closed (only_lane k) fits (only_fits 16 k (omega (arith, few, on.0))))

closed_fits : (n : ℕ) (hs : List Happening) → n ≤ 16 → AreOn n hs → (barrier_of n hs).closed.0 < 2 ^ 16
unfolding barrier_of
closed_fits n hs few on = closed_from n (no_barrier n) hs few on (omega arith)

-- ---- the untold lanes

-- no lane beyond those that there are is closed
closed_beyond : (n : ℕ) (hs : List Happening) (k : ℕ) → n ≤ k → AreOn n hs → is_closed hs k ≡ false
closed_beyond n [] k le on = refl
closed_beyond n (Took j ∷ hs) k le on = closed_beyond n hs k le on.1
closed_beyond n (Dropped j ∷ hs) k le on = closed_beyond n hs k le on.1
closed_beyond n (Idled j ∷ hs) k le on = closed_beyond n hs k le on.1
closed_beyond n (Told j set ∷ hs) k le on = closed_beyond n hs k le on.1
closed_beyond n (Closed j ∷ hs) k le on = ap (λ (b : Bool). b || is_closed hs k) (ne_eqb j k (λ e. omega (arith, e, on.0, le))) ∙ closed_beyond n hs k le on.1

-- nor untold
untold_beyond : (n : ℕ) (g : List RecvEvent) → AreWithin n g → (k l : ℕ) → n ≤ k → words.is_untold g l k ≡ false
untold_beyond n g within k l le =
    ap (λ (b : Bool). b && not (words.is_confirmed g k) && not (has (past_of g l).told k)) (sym ((says_of g).closed k) ∙ closed_beyond n (happenings_of g) k le (on_of n g within))

pub untold_set : (n : ℕ) (g : List RecvEvent) (l : ℕ) → n ≤ MAX_LANES → AreWithin n g → untold (barrier_of n (happenings_of g)) l ≡ set_of (words.untold n g l)
untold_set n g l few within =
    same_set (untold (barrier_of n (happenings_of g)) l) (set_of (words.untold n g l))
    (without_fits 16 _ _ (without_fits 16 _ _ (closed_fits n (happenings_of g) few (on_of n g within))))
    (some_fit (words.is_untold g l) n few) each
  where
    split : (k : ℕ) → (k < n) ⊎ (n ≤ k)
    split k = search arith

    not_below : (k : ℕ) → n ≤ k → nat_lt k n ≡ false
    not_below k h = grind (arith, nat_tests)

    none : (a b : Bool) → b ≡ false → (a && b) ≡ false
    none true b e = e
    none false b e = refl

    each : (k : ℕ) → k < 16 → has_lane (untold (barrier_of n (happenings_of g)) l) k ≡ has_lane (set_of (words.untold n g l)) k
    each k lt =
        barriers.untold_of (happenings_of g) (barrier_of n (happenings_of g)) l k (barriers.says_of n (happenings_of g) few (on_of n g within)) ∙ untold_of g l k lt
        ∙ elim (split k) [
          | inl less ↦ sym (has_some (words.is_untold g l) n k less)
          | inr more ↦ untold_beyond n g within k l more ∙ sym (has_set (words.untold n g l) k ∙ has_filter (words.is_untold g l) n k ∙ none (words.is_untold g l k) (nat_lt k n) (not_below k more))
        ]

-- ---- how many lanes pass

at_most : (b : Bool) (k : ℕ) → length (if b then k ∷ [] else []) ≤ 1
at_most true k = omega arith
at_most false k = omega arith

none_of : (b : Bool) (k : ℕ) → b ≡ false → length (if b then k ∷ [] else []) ≡ 0
none_of true k e = cc
none_of false k e = refl

parts : (p : ℕ → Bool) (k : ℕ) → length (filter p (numbers (suc k))) ≡ length (filter p (numbers k)) + length (if p k then k ∷ [] else [])
parts p k = ap (λ (xs : List ℕ). length xs) (filter-append p (numbers k) (k ∷ [])) ∙ length-append (filter p (numbers k)) (filter p (k ∷ []))

few_of : (p : ℕ → Bool) (k : ℕ) → length (filter p (numbers k)) ≤ k
few_of p zero = omega arith
few_of p (suc k) = omega (arith, parts p k, few_of p k, at_most (p k) k)

-- of the first k numbers fewer pass, where one doesn't
fewer_of : (p : ℕ → Bool) (k l : ℕ) → l < k → p l ≡ false → length (filter p (numbers k)) < k
fewer_of p zero l lt none = absurd (omega (arith, lt))
fewer_of p (suc k) l lt none = go (last_or_less l k lt) (λ less. fewer_of p k l less none)
  where
    last_or_less : (l k : ℕ) → l < suc k → (l ≡ k) ⊎ (l < k)
    last_or_less l k lt = search arith

    go : (l ≡ k) ⊎ (l < k) → (l < k → length (filter p (numbers k)) < k) → length (filter p (numbers (suc k))) < suc k
    go (inl e) before = omega (arith, parts p k, few_of p k, none_of (p k) k (ap p (sym e) ∙ none))
    go (inr less) before = omega (arith, parts p k, before less, at_most (p k) k)

-- a lane that is open tells of fewer than all others, as long as one more is untold
pub few_untold : (n : ℕ) (g : List RecvEvent) (l k : ℕ) → n ≤ MAX_LANES → l < n → k < n → words.is_closed g l ≡ false → words.is_untold g l k ≡ true
    → length (filter (words.is_untold g l) (numbers k)) < 15
few_untold n g l k few lt in_range still_open told = elim (split l k) [
  | inl less ↦ omega (arith, fewer_of (words.is_untold g l) k l less not_own, in_range, few)
  | inr more ↦ omega (arith, few_of (words.is_untold g l) k, apart, more, lt, few)
]
  where
    split : (a b : ℕ) → (a < b) ⊎ (b ≤ a)
    split a b = search arith

    not_own : words.is_untold g l l ≡ false
    not_own = ap (λ (b : Bool). b && not (words.is_confirmed g l) && not (has (past_of g l).told l)) still_open

    apart : k ≢ l
    apart e = differ (sym told ∙ ap (words.is_untold g l) e ∙ not_own)
      where
        differ : true ≡ false → ⊥
        differ h = cc

-- ---- marks of the untold lanes

-- one number more
more : (p : ℕ → Bool) (k : ℕ) (b : Bool) → p k ≡ b → filter p (numbers (k + 1)) ≡ filter p (numbers k) ++ (if b then k ∷ [] else [])
more p k b is =
    ap (λ (n : ℕ). filter p (numbers n)) (add-one k) ∙ filter-append p (numbers k) (k ∷ []) ∙ ap (λ (x : Bool). filter p (numbers k) ++ (if x then k ∷ [] else [])) is

pub mark_is : (g : List RecvEvent) (k count : ℕ) → count ≡ length (past_of g k).landed → (let m : Mark = record { lane = record { 0 = k }; count = count } in m) ≡ mark_of g k
unfolding mark_of
mark_is g k count e = ap (λ (n : ℕ). let m : Mark = record { lane = record { 0 = k }; count = n } in m) e

pub marks_more : (g : List RecvEvent) (p : ℕ → Bool) (k : ℕ) (m : Mark) (marks : List Mark) → p k ≡ true → m ≡ mark_of g k → marks ≡ map (mark_of g) (filter p (numbers k))
    → marks ++ m ∷ [] ≡ map (mark_of g) (filter p (numbers (k + 1)))
marks_more g p k m marks passes is are =
    ap (λ (xs : List Mark). xs ++ m ∷ []) are ∙ ap (λ (x : Mark). map (mark_of g) (filter p (numbers k)) ++ x ∷ []) is ∙ sym (map-append (mark_of g) (filter p (numbers k)) (k ∷ []))
    ∙ ap (λ (xs : List ℕ). map (mark_of g) xs) (sym (more p k true passes))

pub marks_same : (g : List RecvEvent) (p : ℕ → Bool) (k : ℕ) (marks : List Mark) → p k ≡ false → marks ≡ map (mark_of g) (filter p (numbers k)) → marks ≡ map (mark_of g) (filter p (numbers (k + 1)))
marks_same g p k marks fails are = are ∙ ap (λ (xs : List ℕ). map (mark_of g) xs) (sym (more p k false fails ∙ append-nil (filter p (numbers k))))

-- a lane that is in the set of the untold ones is untold
pub told_by : (set : LaneSet) (n : ℕ) (g : List RecvEvent) (l k : ℕ) (b : Bool) → k < n → set ≡ set_of (words.untold n g l) → has_lane set k ≡ b → words.is_untold g l k ≡ b
told_by set n g l k b lt is has = sym (has_some (words.is_untold g l) n k lt) ∙ ap (λ (s : LaneSet). has_lane s k) (sym is) ∙ has
