-- What a sender may do again: no entry gives back any of it but that of a connection, which pays for what it gives back.
use Rattle.std.proofs.Common.{◌≡◌, ◌≢◌, ◌⊎◌, inl, inr, ℕ, zero, suc, ◌+◌, ◌-◌, ◌*◌, ◌<◌, ◌≤◌, ◌==◌, ◌||◌, ◌&&◌, not, Bool, true, false, if◌then◌else◌, List, [], ◌∷◌, ◌++◌, length, is_some, sum_by, Option, Some, None, subst, sym, ap, ◌∙◌, refl, arith, eq-eqb, eqb-true}
use Rattle.std.specs.List.{list_any}
use Rattle.std.proofs.lemmas.Bool.{both_ways, cases_eq, or_parts}
use Rattle.wdt_units.specs.declared.blocks.Block.{Block}
use Rattle.wdt_units.specs.declared.limits.TheConstants.{MAX_CONNECTIONS, MAX_TRIES}
use Rattle.wdt_units.specs.declared.numbers.Conn.{Conn}
use Rattle.wdt_units.specs.declared.numbers.Lane.{Lane}
use Rattle.wdt_claims.specs.LaneWords.{Claims, claimed, cut_to, finished, sent}
use Rattle.wdt_codec.specs.declared.frames.Mark.{Mark}
use Rattle.wdt_sender_fsm.specs.declared.events.SendEvent.{SendEvent}
use Rattle.wdt_sender_fsm.specs.declared.events.SendEvent.TheVariants as events
use Rattle.wdt_sender_fsm.specs.PlainSender.{PlainSender, past_at}
use Rattle.wdt_sender_fsm.specs.SenderHistory.{LanePast, close_by, past_after, past_from}
use Rattle.wdt_sender_fsm.specs.Turn.{global, globals}
use Rattle.wdt_pact.specs.Measure.{one_if, sum_to}

-- what a lane of the sender may do again with connections, and whether it isn't closed
abbrev pub link_high : LanePast → ℕ
link_high p = 2 * (MAX_CONNECTIONS - p.connections) + (MAX_TRIES - p.failed_tries) + one_if (not p.is_greeted)

abbrev pub open_high : LanePast → ℕ
open_high p = one_if (not (is_some p.claims.closed))

abbrev pub send_high : LanePast → ℕ
send_high p = link_high p + open_high p

-- ---- entries

-- it tells of a connection that was made
abbrev pub is_linking : SendEvent → Bool
is_linking (events.Linked k c) = true
is_linking e = false

entry_link : (k : ℕ) (p : LanePast) (e : SendEvent) → is_linking e ≡ false → link_high (past_after k p e) ≤ link_high p
entry_link k p (events.Linked j c) x = cc
entry_link k p (events.NoLink j) x = go (j.0 == k) where
  go : (b : Bool) → 2 * (MAX_CONNECTIONS - p.connections) + (MAX_TRIES - (if b then p.failed_tries + 1 else p.failed_tries)) + one_if (not p.is_greeted) ≤ link_high p
  go true = omega arith
  go false = omega arith
entry_link k p (events.Greet j n) x = go (j.0 == k) where
  go : (b : Bool) → 2 * (MAX_CONNECTIONS - p.connections) + (MAX_TRIES - p.failed_tries) + one_if (not (if b then true else p.is_greeted)) ≤ link_high p
  go true = omega arith
  go false = omega arith
entry_link k p (events.Lost j) x = omega arith
entry_link k p (events.Chunks j) x = omega arith
entry_link k p (events.Claim j b) x = omega arith
entry_link k p (events.Sent j) x = omega arith
entry_link k p (events.Done j) x = omega arith
entry_link k p (events.Global j c n) x = omega arith
entry_link k p (events.Finish j) x = omega arith
entry_link k p (events.Acked j) x = omega arith
entry_link k p (events.Quit j) x = omega arith
entry_link k p (events.Abort j code) x = omega arith
entry_link k p (events.Peer j kind) x = omega arith

closes : (o : Option ℕ) (n : ℕ) (c : Claims) → c.closed ≡ o → one_if (not (is_some (close_by o n c).closed)) ≤ one_if (not (is_some c.closed))
closes None n c is = omega arith
closes (Some m) n c is = omega arith

entry_open : (k : ℕ) (p : LanePast) (e : SendEvent) → open_high (past_after k p e) ≤ open_high p
entry_open k p (events.Global j c n) = go (c.0 == k) where
  go : (b : Bool) → one_if (not (is_some (if b then close_by p.claims.closed n p.claims else p.claims).closed)) ≤ open_high p
  go true = closes p.claims.closed n p.claims refl
  go false = omega arith
entry_open k p (events.Greet j n) = go (j.0 == k) where
  go : (b : Bool) → one_if (not (is_some (if b then cut_to n 0 p.claims else p.claims).closed)) ≤ open_high p
  go true = omega arith
  go false = omega arith
entry_open k p (events.Claim j x) = go (j.0 == k) where
  go : (b : Bool) → one_if (not (is_some (if b then claimed x p.claims else p.claims).closed)) ≤ open_high p
  go true = omega arith
  go false = omega arith
entry_open k p (events.Sent j) = go (j.0 == k) where
  go : (b : Bool) → one_if (not (is_some (if b then sent p.claims else p.claims).closed)) ≤ open_high p
  go true = omega arith
  go false = omega arith
entry_open k p (events.Finish j) = omega arith
entry_open k p (events.Linked j c) = omega arith
entry_open k p (events.NoLink j) = omega arith
entry_open k p (events.Lost j) = omega arith
entry_open k p (events.Chunks j) = omega arith
entry_open k p (events.Done j) = omega arith
entry_open k p (events.Acked j) = omega arith
entry_open k p (events.Quit j) = omega arith
entry_open k p (events.Abort j code) = omega arith
entry_open k p (events.Peer j kind) = omega arith

pub all_link : (k : ℕ) (p : LanePast) (es : List SendEvent) → list_any is_linking es ≡ false → link_high (past_from k p es) ≤ link_high p
all_link k p [] x = omega arith
all_link k p (e ∷ es) x =
    let y = or_parts (is_linking e) (list_any is_linking es) x in
    omega (arith, entry_link k p e y.0, all_link k (past_after k p e) es y.1)

pub all_open : (k : ℕ) (p : LanePast) (es : List SendEvent) → open_high (past_from k p es) ≤ open_high p
all_open k p [] = omega arith
all_open k p (e ∷ es) = omega (arith, entry_open k p e, all_open k (past_after k p e) es)

-- ---- entries that pay

-- what a lane may do again that made a connection, or another one
abbrev linked_high : LanePast → Bool → ℕ
linked_high p b = 2 * (MAX_CONNECTIONS - (if b then p.connections + 1 else p.connections)) + (MAX_TRIES - p.failed_tries) + one_if (not (if b then false else p.is_greeted)) + open_high p

-- a connection is made: the lane has one fewer, for which it may be told its count once more
pub linked_pays : (k : ℕ) (p : LanePast) (j : Lane) (c : Conn) → (j.0 ≡ k → p.connections < MAX_CONNECTIONS) → (send_high (past_after k p (events.Linked j c)) ≤ send_high p) × (j.0 ≡ k → send_high (past_after k p (events.Linked j c)) + 1 ≤ send_high p)
linked_pays k p j c few = go (j.0 == k) refl where
  go : (b : Bool) → (j.0 == k) ≡ b → (linked_high p b ≤ send_high p) × (j.0 ≡ k → linked_high p b + 1 ≤ send_high p)
  go true is = let a = few (eqb-true j.0 k is) in (omega (arith, a), λ e. omega (arith, a))
  go false is = (omega arith, λ e. absurd (both_ways (j.0 == k) is (eq-eqb j.0 k e)))

-- a try fails
pub tried_pays : (p : LanePast) (j : Lane) → p.failed_tries < MAX_TRIES → send_high (past_after j.0 p (events.NoLink j)) + 1 ≤ send_high p
tried_pays p j few = go (j.0 == j.0) (eq-eqb j.0 j.0 refl) where
  go : (b : Bool) → b ≡ true → 2 * (MAX_CONNECTIONS - p.connections) + (MAX_TRIES - (if b then p.failed_tries + 1 else p.failed_tries)) + one_if (not p.is_greeted) + open_high p + 1 ≤ send_high p
  go true is = omega (arith, few)
  go false is = cc

-- the lane is told its count
pub greeted_pays : (p : LanePast) (j : Lane) (n : ℕ) → p.is_greeted ≡ false → send_high (past_after j.0 p (events.Greet j n)) + 1 ≤ send_high p
greeted_pays p j n none =
    let a = entry_open j.0 p (events.Greet j n) in
    let b : one_if (not p.is_greeted) ≡ 1 = ap (λ (x : Bool). one_if (not x)) none in
    let c : one_if (not (if j.0 == j.0 then true else p.is_greeted)) ≡ 0 = ap (λ (x : Bool). one_if (not (if x then true else p.is_greeted))) (eq-eqb j.0 j.0 refl) in
    omega (arith, a, b, c)

-- ---- marks

pub quiet_marks : (l : Lane) (ms : List Mark) → list_any is_linking (globals l ms) ≡ false
quiet_marks l [] = refl
quiet_marks l (m ∷ ms) = quiet_marks l ms

-- a lane that was closed keeps its claims
closed_same : (k : ℕ) (p : LanePast) (l : Lane) (ms : List Mark) (c : ℕ) → p.claims.closed ≡ Some c → (past_from k p (globals l ms)).claims ≡ p.claims
closed_same k p l [] c is = refl
closed_same k p l (m ∷ ms) c is = closed_same k (past_after k p (global l m)) l ms c (ap (λ (x : Claims). x.closed) here ∙ is) ∙ here where
  go : (b : Bool) → (if b then close_by p.claims.closed m.count p.claims else p.claims) ≡ p.claims
  go true = ap (λ (o : Option ℕ). close_by o m.count p.claims) is
  go false = refl

  here : (past_after k p (global l m)).claims ≡ p.claims
  here = go (m.lane.0 == k)

-- and one that isn't closed by them keeps its blocks
pub open_same : (k : ℕ) (p : LanePast) (l : Lane) (ms : List Mark) → is_some (past_from k p (globals l ms)).claims.closed ≡ false → (past_from k p (globals l ms)).claims.kept ≡ p.claims.kept
open_same k p l [] none = refl
open_same k p l (m ∷ ms) none = go (m.lane.0 == k) refl (open_same k (past_after k p (global l m)) l ms none) where
  more : LanePast
  more = past_after k p (global l m)

  first : (o : Option ℕ) → p.claims.closed ≡ o → (m.lane.0 == k) ≡ true → (past_from k p (globals l (m ∷ ms))).claims.kept ≡ p.claims.kept
  first (Some c) is here = ap (λ (x : Claims). x.kept) (closed_same k p l (m ∷ ms) c is)
  first None is here =
      let closes : more.claims.closed ≡ Some m.count = ap (λ (b : Bool). (if b then close_by p.claims.closed m.count p.claims else p.claims).closed) here ∙ ap (λ (o : Option ℕ). (close_by o m.count p.claims).closed) is in
      absurd (both_ways (is_some (past_from k more (globals l ms)).claims.closed) none (ap (λ (x : Claims). is_some x.closed) (closed_same k more l ms m.count closes) ∙ ap is_some closes))

  go : (b : Bool) → (m.lane.0 == k) ≡ b → (past_from k more (globals l ms)).claims.kept ≡ more.claims.kept → (past_from k p (globals l (m ∷ ms))).claims.kept ≡ p.claims.kept
  go true here later = first p.claims.closed refl here
  go false here later = later ∙ ap (λ (b : Bool). (if b then close_by p.claims.closed m.count p.claims else p.claims).kept) here

-- the same of one that was closed before
pub shut_same : (k : ℕ) (p : LanePast) (l : Lane) (ms : List Mark) → is_some p.claims.closed ≡ true → (past_from k p (globals l ms)).claims.kept ≡ p.claims.kept
shut_same k p l ms some = go p.claims.closed refl some where
  go : (o : Option ℕ) → p.claims.closed ≡ o → is_some o ≡ true → (past_from k p (globals l ms)).claims.kept ≡ p.claims.kept
  go None is e = cc
  go (Some c) is e = ap (λ (x : Claims). x.kept) (closed_same k p l ms c is)

-- ---- a search

-- one of the numbers below n passes, or none does
pub any_below : (n : ℕ) (q : ℕ → Bool) → ((k : ℕ) × (k < n) × (q k ≡ true)) ⊎ ((k : ℕ) → k < n → q k ≡ false)
any_below zero q = inr (λ k small. absurd (omega (arith, small)))
any_below (suc n) q = go (q n) refl (any_below n q) where
  same : (k : ℕ) → k < suc n → (k ≡ n) ⊎ (k < n)
  same k small = elim (cases_eq k n) [ inl e ↦ inl e | inr ne ↦ inr (omega (arith, small, ne)) ]

  go : (b : Bool) → q n ≡ b → ((k : ℕ) × (k < n) × (q k ≡ true)) ⊎ ((k : ℕ) → k < n → q k ≡ false) → ((k : ℕ) × (k < suc n) × (q k ≡ true)) ⊎ ((k : ℕ) → k < suc n → q k ≡ false)
  go true is x = inl (n, omega arith, is)
  go false is (inl (k, small, e)) = inl (k, omega (arith, small), e)
  go false is (inr none) = inr (λ k small. elim (same k small) [ inl e ↦ ap q e ∙ is | inr less ↦ none k less ])
