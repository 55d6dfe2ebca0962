-- What a receiver may do again: no entry gives back any of it but that of a connection, which pays for what it gives back.
use Rattle.std.proofs.Common.{◌≡◌, ◌⊎◌, inl, inr, ℕ, zero, suc, ◌+◌, ◌-◌, ◌*◌, ◌<◌, ◌≤◌, ◌==◌, ◌||◌, not, Bool, true, false, if◌then◌else◌, List, [], ◌∷◌, ◌++◌, subst, sym, ap, ◌∙◌, refl, arith, eq-eqb, eqb-true}
use Rattle.std.specs.List.{list_any}
use Rattle.std.proofs.lemmas.Bool.{both_ways, or_parts}
use Rattle.std.proofs.lemmas.List.Folds.{list_any-append}
use Rattle.wdt_units.specs.declared.limits.TheConstants.{MAX_CONNECTIONS, MAX_TRIES}
use Rattle.wdt_units.specs.declared.numbers.Conn.{Conn}
use Rattle.wdt_units.specs.declared.numbers.Lane.{Lane}
use Rattle.wdt_units.specs.declared.numbers.LaneSet.{LaneSet}
use Rattle.wdt_receiver_fsm.specs.declared.events.RecvEvent.{RecvEvent}
use Rattle.wdt_receiver_fsm.specs.declared.events.RecvEvent.TheVariants as events
use Rattle.wdt_receiver_fsm.specs.ReceiverHistory.{RecvPast, past_after, past_from}
use Rattle.wdt_receiver_fsm.specs.Sets.{has, lanes_of}
use Rattle.wdt_pact.specs.Measure.{one_if, sum_to}
use Rattle.wdt_pact.proofs.Falls.{sum_to_le}
use Rattle.wdt_pact.proofs.Sums.{sum_more}

-- how many of n lanes aren't told of
abbrev pub untold_count : ℕ → List ℕ → ℕ
untold_count n told = sum_to n (λ q. one_if (not (has told q)))

-- what a lane of the receiver, of n, may do again
abbrev pub recv_high : ℕ → RecvPast → ℕ
recv_high n p = (n + 1) * (MAX_CONNECTIONS - p.takes) + (MAX_TRIES - p.failed_tries) + untold_count n p.told

-- ---- lanes that were told of

none_more : (told more : List ℕ) (q : ℕ) → one_if (not (has (told ++ more) q)) ≤ one_if (not (has told q))
none_more told more q =
    let e : one_if (not (has (told ++ more) q)) ≡ one_if (not (has told q || has more q)) = ap (λ (b : Bool). one_if (not b)) (list_any-append (λ (k : ℕ). k == q) told more) in
    let a = go (has told q) (has more q) in omega (arith, e, a) where
      go : (b c : Bool) → one_if (not (b || c)) ≤ one_if (not b)
      go true c = omega arith
      go false true = omega arith
      go false false = omega arith

untold_less : (n : ℕ) (told more : List ℕ) → untold_count n (told ++ more) ≤ untold_count n told
untold_less n told more = sum_to_le n (λ q. one_if (not (has (told ++ more) q))) (λ q. one_if (not (has told q))) (λ q small. none_more told more q)

untold_most : (n : ℕ) (told : List ℕ) → untold_count n told ≤ n
untold_most zero told = omega arith
untold_most (suc n) told = let a = untold_most n told in let b = one_most (has told n) in omega (arith, a, b) where
  one_most : (b : Bool) → one_if (not b) ≤ 1
  one_most true = omega arith
  one_most false = omega arith

-- ---- entries

-- it tells of a connection that was taken
abbrev pub is_taking : RecvEvent → Bool
is_taking (events.Take k c) = true
is_taking e = false

same_less : (a : ℕ) → a ≤ a
same_less a = omega arith

entry_high : (n k : ℕ) (p : RecvPast) (e : RecvEvent) → is_taking e ≡ false → recv_high n (past_after k p e) ≤ recv_high n p
entry_high n k p (events.Take j c) x = cc
entry_high n k p (events.NoLink j) x = go (j.0 == k) ((n + 1) * (MAX_CONNECTIONS - p.takes)) (untold_count n p.told) where
  go : (b : Bool) (a c : ℕ) → a + (MAX_TRIES - (if b then p.failed_tries + 1 else p.failed_tries)) + c ≤ a + (MAX_TRIES - p.failed_tries) + c
  go true a c = omega arith
  go false a c = omega arith
entry_high n k p (events.Told j set) x = go (j.0 == k) ((n + 1) * (MAX_CONNECTIONS - p.takes)) where
  go : (b : Bool) (a : ℕ) → a + (MAX_TRIES - p.failed_tries) + untold_count n (if b then p.told ++ lanes_of set else p.told) ≤ a + (MAX_TRIES - p.failed_tries) + untold_count n p.told
  go true a = omega (arith, untold_less n p.told (lanes_of set))
  go false a = omega arith
entry_high n k p (events.Met j s) x = same_less (recv_high n p)
entry_high n k p (events.Sized j files bytes) x = same_less (recv_high n p)
entry_high n k p (events.Begin j b) x = same_less (recv_high n p)
entry_high n k p (events.Land j) x = same_less (recv_high n p)
entry_high n k p (events.Dropped j) x = same_less (recv_high n p)
entry_high n k p (events.Idle j) x = same_less (recv_high n p)
entry_high n k p (events.Close j) x = same_less (recv_high n p)
entry_high n k p events.Finish x = same_less (recv_high n p)
entry_high n k p (events.Acked j) x = same_less (recv_high n p)
entry_high n k p (events.Quit j) x = same_less (recv_high n p)
entry_high n k p (events.Abort j code) x = same_less (recv_high n p)
entry_high n k p (events.Peer j kind) x = same_less (recv_high n p)

pub all_high : (n k : ℕ) (p : RecvPast) (es : List RecvEvent) → list_any is_taking es ≡ false → recv_high n (past_from k p es) ≤ recv_high n p
all_high n k p [] x = same_less (recv_high n p)
all_high n k p (e ∷ es) x = let y = or_parts (is_taking e) (list_any is_taking es) x in omega (arith, entry_high n k p e y.0, all_high n k (past_after k p e) es y.1)

-- ---- entries that pay

-- what a lane may do again that took a connection, or another one
abbrev taken_high : ℕ → RecvPast → Bool → ℕ
taken_high n p b = (n + 1) * (MAX_CONNECTIONS - (if b then p.takes + 1 else p.takes)) + (MAX_TRIES - p.failed_tries) + untold_count n (if b then [] else p.told)

-- a connection is taken: the lane has one fewer, for which it may tell of each lane once more
pub taken_pays : (n k : ℕ) (p : RecvPast) (j : Lane) (c : Conn) → (j.0 ≡ k → p.takes < MAX_CONNECTIONS) → (recv_high n (past_after k p (events.Take j c)) ≤ recv_high n p) × (j.0 ≡ k → recv_high n (past_after k p (events.Take j c)) + 1 ≤ recv_high n p)
taken_pays n k p j c few = go (j.0 == k) refl where
  strictly : p.takes < MAX_CONNECTIONS → (n + 1) * (MAX_CONNECTIONS - (p.takes + 1)) + (MAX_TRIES - p.failed_tries) + untold_count n [] + 1 ≤ recv_high n p
  strictly small =
      let rest : ℕ = MAX_CONNECTIONS - (p.takes + 1) in
      let e : MAX_CONNECTIONS - p.takes ≡ rest + 1 = omega (arith, small) in
      let m : (n + 1) * (rest + 1) ≡ (n + 1) * rest + (n + 1) = grind arith in
      let whole : (n + 1) * (MAX_CONNECTIONS - p.takes) ≡ (n + 1) * rest + (n + 1) = ap (λ (x : ℕ). (n + 1) * x) e ∙ m in
      omega (arith, whole, untold_most n [])

  go : (b : Bool) → (j.0 == k) ≡ b → (taken_high n p b ≤ recv_high n p) × (j.0 ≡ k → taken_high n p b + 1 ≤ recv_high n p)
  go true is = let a = strictly (few (eqb-true j.0 k is)) in (omega (arith, a), λ e. a)
  go false is = (same_less (recv_high n p), λ e. absurd (both_ways (j.0 == k) is (eq-eqb j.0 k e)))

-- a try fails
pub tried_pays : (n : ℕ) (p : RecvPast) (j : Lane) → p.failed_tries < MAX_TRIES → recv_high n (past_after j.0 p (events.NoLink j)) + 1 ≤ recv_high n p
tried_pays n p j few = go (j.0 == j.0) (eq-eqb j.0 j.0 refl) ((n + 1) * (MAX_CONNECTIONS - p.takes)) (untold_count n p.told) where
  go : (b : Bool) → b ≡ true → (a c : ℕ) → a + (MAX_TRIES - (if b then p.failed_tries + 1 else p.failed_tries)) + c + 1 ≤ a + (MAX_TRIES - p.failed_tries) + c
  go true is a c = omega (arith, few)
  go false is a c = cc

-- a lane is told of for the first time
pub told_pays : (n : ℕ) (p : RecvPast) (j : Lane) (set : LaneSet) (q : ℕ) → q < n → has p.told q ≡ false → has (lanes_of set) q ≡ true → recv_high n (past_after j.0 p (events.Told j set)) + 1 ≤ recv_high n p
told_pays n p j set q small was is = go (j.0 == j.0) (eq-eqb j.0 j.0 refl) ((n + 1) * (MAX_CONNECTIONS - p.takes)) where
  before : one_if (not (has p.told q)) ≡ 1
  before = ap (λ (b : Bool). one_if (not b)) was

  after : one_if (not (has (p.told ++ lanes_of set) q)) ≡ 0
  after = ap (λ (b : Bool). one_if (not b)) (list_any-append (λ (k : ℕ). k == q) p.told (lanes_of set)) ∙ (ap (λ (b : Bool). one_if (not (has p.told q || b))) is ∙ any (has p.told q)) where
    any : (b : Bool) → one_if (not (b || true)) ≡ 0
    any true = refl
    any false = refl

  fewer : untold_count n (p.told ++ lanes_of set) + 1 ≤ untold_count n p.told
  fewer = sum_more n q (λ k. one_if (not (has p.told k))) (λ k. one_if (not (has (p.told ++ lanes_of set) k))) 1 small (λ k less. none_more p.told (lanes_of set) k) (omega (arith, before, after))

  go : (b : Bool) → b ≡ true → (a : ℕ) → a + (MAX_TRIES - p.failed_tries) + untold_count n (if b then p.told ++ lanes_of set else p.told) + 1 ≤ a + (MAX_TRIES - p.failed_tries) + untold_count n p.told
  go true x a = omega (arith, fewer)
  go false x a = cc
