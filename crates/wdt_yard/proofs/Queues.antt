-- The blocks that wait are the planned ones that stand in no lane's list.
use Rattle.std.proofs.Common.{◌≡◌, ◌⊎◌, ℕ, ◌≤◌, Bool, true, false, not, ◌||◌, List, [], ◌∷◌, length, None, Some, if◌then◌else◌, refl, sym, ap, ◌∙◌, inl, inr, arith}
use Rattle.std.specs.List.{filter, list_all, list_any}
use Rattle.std.proofs.lemmas.Bool.{and_from, and_parts, or_parts, false≢true}
use Rattle.std.proofs.lemmas.List.Sums.{sum_by-cons}
use Rattle.std.proofs.lemmas.Option.{same_Some}
use Rattle.wdt_units.specs.declared.blocks.Block.{Block}
use Rattle.wdt_claims.specs.Blocks.{precedes, are_rising, is_same, count_of}
use Rattle.wdt_claims.specs.LaneWords.{Claims}
use Rattle.wdt_claims.proofs.Shared.{same_itself, count_of-cons, one_if-true, rising_once, rising_distinct, absent}
use Rattle.wdt_claims.specs.Claimed.{count_in, count_kept}
use Rattle.wdt_claims.specs.Places.{is_queued, keeps}
use Rattle.wdt_sender_fsm.specs.declared.events.SendEvent.{SendEvent}
use Rattle.wdt_sender_fsm.specs.Places.{AreShared, least_of, queue_of, queued, claims_of, planned_now}
use Rattle.wdt_sender_fsm.proofs.Shared.{present, kept_count, dropped_count, filter_all}

-- ---- what rises

rising_go : (p : Block → Bool) (x : Block) (xs : List Block) (t : Bool) → list_all (precedes x) xs ≡ true → are_rising (filter p xs) ≡ true → p x ≡ t → are_rising (filter p (x ∷ xs)) ≡ true
rising_go p x xs true before rest e = rw e (and_from (list_all (precedes x) (filter p xs)) (are_rising (filter p xs)) (filter_all p (precedes x) xs before) rest)
rising_go p x xs false before rest e = rw e rest

pub filter_rising : (p : Block → Bool) (xs : List Block) → are_rising xs ≡ true → are_rising (filter p xs) ≡ true
filter_rising p [] up = refl
filter_rising p (x ∷ xs) up =
    let parts = and_parts (list_all (precedes x) xs) (are_rising xs) up in
    rising_go p x xs (p x) parts.0 (filter_rising p xs parts.1) refl

pub rising_rest : (x : Block) (xs : List Block) → are_rising (x ∷ xs) ≡ true → are_rising xs ≡ true
rising_rest x xs up = (and_parts (list_all (precedes x) xs) (are_rising xs) up).1

-- ---- blocks in lanes' lists

either : (a b : Bool) → (a || b) ≡ true → (a ≡ true) ⊎ (b ≡ true)
either true b e = inl refl
either false b e = inr e

in_some : (b : Block) (lanes : List Claims) → list_any (keeps b) lanes ≡ true → 1 ≤ count_kept b lanes
unfolding count_kept
in_some b [] e = absurd (false≢true e)
in_some b (s ∷ lanes) e =
    elim (either (keeps b s) (list_any (keeps b) lanes) e) [
      | inl k ↦ omega (arith, sum_by-cons (count_in b) s lanes, present b s.kept k)
      | inr r ↦ omega (arith, sum_by-cons (count_in b) s lanes, in_some b lanes r)
    ]

in_none : (b : Block) (lanes : List Claims) → list_any (keeps b) lanes ≡ false → count_kept b lanes ≡ 0
unfolding count_kept
in_none b [] e = refl
in_none b (s ∷ lanes) e =
    let n = or_parts (keeps b s) (list_any (keeps b) lanes) e in
    omega (arith, sum_by-cons (count_in b) s lanes, absent b s.kept n.0, in_none b lanes n.1)

-- ---- the queue

pub exact : (planned waiting : List Block) (lanes : List Claims) → are_rising planned ≡ true → are_rising waiting ≡ true → AreShared planned waiting lanes → waiting ≡ queue_of planned lanes
exact planned waiting lanes rises up shared =
    rising_once waiting (queue_of planned lanes) up (filter_rising (is_queued lanes) planned rises) (λ b. same b (list_any (keeps b) lanes) refl)
  where
    same : (b : Block) (t : Bool) → list_any (keeps b) lanes ≡ t → count_of b waiting ≡ count_of b (queue_of planned lanes)
    same b true e = omega (arith, shared b, rising_distinct planned rises b, in_some b lanes e, dropped_count (is_queued lanes) b planned (ap not e))
    same b false e = omega (arith, shared b, in_none b lanes e, kept_count (is_queued lanes) b planned (ap not e))

pub queue_is : (n : ℕ) (planned waiting : List Block) (lanes : List Claims) (h : List SendEvent) → lanes ≡ claims_of n h → are_rising planned ≡ true → are_rising waiting ≡ true → AreShared planned waiting lanes → waiting ≡ queued n planned h
unfolding planned_now
queue_is n planned waiting lanes h e rises up shared = exact planned waiting lanes rises up shared ∙ ap (queue_of planned) e

-- lists that have no block are empty
pub nothing_in : (xs : List Block) → ((b : Block) → count_of b xs ≡ 0) → length xs ≡ 0
nothing_in [] none = refl
nothing_in (x ∷ xs) none = absurd (omega (arith, none x, count_of-cons x x xs, one_if-true x x (same_itself x)))

-- the least of the planned blocks that wait is planned
least_go : (p : Block → Bool) (x b : Block) (xs : List Block) (t : Bool) → (least_of (filter p xs) ≡ Some b → 1 ≤ count_of b xs) → p x ≡ t → least_of (filter p (x ∷ xs)) ≡ Some b → 1 ≤ count_of b (x ∷ xs)
least_go p x b xs true rest e is =
    let here : Some x ≡ Some b = sym (ap (λ t. least_of (if t then x ∷ filter p xs else filter p xs)) e) ∙ is in
    omega (arith, count_of-cons b x xs, one_if-true b x (ap (is_same b) (same_Some x b here) ∙ same_itself b))
least_go p x b xs false rest e is =
    let later : least_of (filter p xs) ≡ Some b = sym (ap (λ t. least_of (if t then x ∷ filter p xs else filter p xs)) e) ∙ is in
    omega (arith, count_of-cons b x xs, rest later)

pub least_planned : (p : Block → Bool) (xs : List Block) (b : Block) → least_of (filter p xs) ≡ Some b → 1 ≤ count_of b xs
least_planned p [] b is = cc
least_planned p (x ∷ xs) b is = least_go p x b xs (p x) (least_planned p xs b) refl is

pub least_of_queued : (n : ℕ) (planned : List Block) (h : List SendEvent) (b : Block) → least_of (queued n planned h) ≡ Some b → 1 ≤ count_of b planned
unfolding planned_now
least_of_queued n planned h b is = least_planned (is_queued (claims_of n h)) planned b is

-- a list without a least block is empty
pub no_least : (xs : List Block) → least_of xs ≡ None → xs ≡ []
no_least [] e = refl
no_least (x ∷ xs) e = cc
