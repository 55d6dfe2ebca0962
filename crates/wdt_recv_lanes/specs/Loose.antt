-- A legal history of a receiver has at most one entry without a lane: the finish.
use Rattle.std.specs.Prelude.{◌≡◌, ℕ, ◌+◌, ◌≤◌, Bool, true, false, List, [], ◌∷◌, ◌++◌}
use Rattle.std.proofs.Common.{ap, subst, arith}
use Rattle.wdt_units.specs.Lanes.{loose, one_if_none}
use Rattle.wdt_receiver_fsm.specs.declared.events.RecvEvent.{RecvEvent}
use Rattle.wdt_receiver_fsm.specs.declared.events.RecvEvent.TheVariants as events
use Rattle.wdt_receiver_fsm.specs.Legal.{IsAllowed, IsLegal, Terms, legal_from}
use Rattle.wdt_receiver_fsm.specs.ReceiverHistory.{EndPast, end_of, end_of-append, has_finish_after, lane_of}
use Rattle.wdt_recv_lanes.specs.Turns.{IsLegalOfSome}

-- 1 once the finish has come
abbrev one_if : Bool → ℕ
one_if true = 1
one_if false = 0

few_one : (b : Bool) → one_if b ≤ 1
few_one true = omega arith
few_one false = omega arith

-- the finish comes where it hasn't
abbrev IsFirst : RecvEvent → Bool → Type 0
IsFirst events.Finish has_finish = has_finish ≡ false
IsFirst e has_finish = Unit {0}

first : (t : Terms) (g : List RecvEvent) (e : RecvEvent) → IsAllowed t g e → IsFirst e (end_of g).has_finish
first t g events.Finish a = a.fits.first
first t g e a = tt

-- one more entry
one_more : (e : RecvEvent) (before : Bool) (n : ℕ) → IsFirst e before → n + one_if (has_finish_after before e) ≤ 1 → one_if_none (lane_of e) + n + one_if before ≤ 1
one_more events.Finish before n is few = let none : one_if before ≡ 0 = ap one_if is in omega (arith, none, few)
one_more (events.Take k c) before n is few = omega (arith, few)
one_more (events.NoLink k) before n is few = omega (arith, few)
one_more (events.Met k settings) before n is few = omega (arith, few)
one_more (events.Sized k files bytes) before n is few = omega (arith, few)
one_more (events.Begin k b) before n is few = omega (arith, few)
one_more (events.Land k) before n is few = omega (arith, few)
one_more (events.Dropped k) before n is few = omega (arith, few)
one_more (events.Idle k) before n is few = omega (arith, few)
one_more (events.Told k q) before n is few = omega (arith, few)
one_more (events.Close k) before n is few = omega (arith, few)
one_more (events.Acked k) before n is few = omega (arith, few)
one_more (events.Quit k) before n is few = omega (arith, few)
one_more (events.Abort k code) before n is few = omega (arith, few)
one_more (events.Peer k kind) before n is few = omega (arith, few)

few_from : (t : Terms) (before g : List RecvEvent) → legal_from t before g → loose lane_of g + one_if (end_of before).has_finish ≤ 1
few_from t before [] legal = omega (arith, few_one (end_of before).has_finish)
few_from t before (e ∷ es) legal =
    let behind = ap (λ (p : EndPast). p.has_finish) (end_of-append before (e ∷ [])) in
    one_more e (end_of before).has_finish (loose lane_of es) (first t before e legal.0)
    (subst (λ (b : Bool). loose lane_of es + one_if b ≤ 1) behind (few_from t (before ++ e ∷ []) es legal.1))

few_legal : (t : Terms) (h : List RecvEvent) → IsLegal t h → loose lane_of h ≤ 1
unfolding IsLegal
few_legal t h legal = omega (arith, few_from t [] h legal)

-- at most one entry has no lane
pub few_loose : (h : List RecvEvent) → IsLegalOfSome h → loose lane_of h ≤ 1
few_loose h is = few_legal is.terms h is.legal
