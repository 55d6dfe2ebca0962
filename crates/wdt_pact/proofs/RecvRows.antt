-- What a row of the receiver's table needs of its lane, and one wrapper for the rows that know no more files.
use Rattle.std.proofs.Common.{◌≡◌, ◌≢◌, inl, inr, ℕ, zero, suc, ◌<◌, List, ◌++◌, length, Bool, true, false, if◌then◌else◌, Option, Some, None, subst, sym, ap, ◌∙◌, refl}
use Rattle.std.proofs.lemmas.Bool.{cases_eq}
use Rattle.wdt_logfmt.specs.View.{NamedFile}
use Rattle.wdt_sender_fsm.specs.Rules.{is_failure}
use Rattle.wdt_receiver_fsm.specs.declared.acts.RecvAct.{RecvAct}
use Rattle.wdt_receiver_fsm.specs.declared.events.RecvEvent.{RecvEvent}
use Rattle.wdt_receiver_fsm.specs.declared.states.RecvLane.{RecvLane}
use Rattle.wdt_receiver_fsm.specs.declared.states.RecvState.{RecvState}
use Rattle.wdt_receiver_fsm.specs.Plan.{EndsIn, Plan, calls, ends}
use Rattle.wdt_receiver_fsm.specs.PlainReceiver.{PlainReceiver, has_finish, have_now, lane_at, past_at, state_at}
use Rattle.wdt_receiver_fsm.specs.Receiver.{Fares, IsReceiver}
use Rattle.wdt_receiver_fsm.specs.ReceiverHistory.{EndPast, RecvPast, end_from, end_of, end_of-append, past_from, past_of, past_of-append}
use Rattle.wdt_receiver_fsm.specs.Turn.{Put, Step, turn_plan}
use Rattle.wdt_pact.specs.Pairs.{RecvHold, recv_gets}
use Rattle.wdt_pact.specs.World.{PlainWorld, ended, number, pair_at, recv_steps, recv_steps_by, recv_turn, recv_turned}
use Rattle.wdt_pact.specs.Conversation.{Conversation, Converses, Grows, IsNamed, Receiving, closed_by, common, receiving, receiving_of, sending}
use Rattle.wdt_pact.proofs.Grows.{recv_turn_keeps, converses_on}
use Rattle.wdt_pact.proofs.Promised.{ReceiverKeeps}

-- a lane stands as its state says
pub recv_fares : (w : PlainWorld) (l : ℕ) (st : RecvState) → Conversation w → l < length w.pairs → state_at w.receiver l ≡ st → Fares (is_failure w.receiver.answer) st (lane_at w.receiver l) (past_at w.receiver l) (end_of w.receiver.history)
recv_fares w l st c within here =
    subst (λ (x : RecvState). Fares (is_failure w.receiver.answer) x (lane_at w.receiver l) (past_at w.receiver l) (end_of w.receiver.history)) here
    (c.receiver.lanes l (subst (λ (n : ℕ). l < n) (sym c.recv_lanes) within))

-- what a plan ends in is one of its ends
pub ends_in : {S : Type 0} (plan : Plan S) (broken : Option ℕ) → EndsIn (Unit {0}) plan (ended plan broken)
ends_in (ends s) broken = refl
ends_in (calls f s next) None = inr (ends_in next None)
ends_in (calls f s next) (Some zero) = inl (tt, refl)
ends_in (calls f s next) (Some (suc n)) = inr (ends_in next (Some n))

-- what the destination had doesn't hang on what happens
pub have_stays : (opening : List NamedFile) (g h : List RecvEvent) → have_now opening g ≡ have_now opening h
unfolding have_now
have_stays opening g h = refl

-- a receiver behind these entries of a lane, which stands so: the others stand as they did, and no more files are known
pub record Behind (r t : PlainReceiver) (l : ℕ) (lane : RecvLane) (es : List RecvEvent) : Type 0 where
  pub opening : t.opening ≡ r.opening
  pub known : t.known ≡ r.known
  pub history : t.history ≡ r.history ++ es
  pub lanes : length t.lanes ≡ length r.lanes
  pub own : lane_at t l ≡ lane
  pub others : (j : ℕ) → j ≢ l → lane_at t j ≡ lane_at r j

module _ (r t : PlainReceiver) (l : ℕ) (lane : RecvLane) (es : List RecvEvent) (b : Behind r t l lane es) where
  past_behind : (k : ℕ) → past_at t k ≡ past_from k (past_at r k) es
  past_behind k = ap (λ (g : List RecvEvent). past_of g k) b.history ∙ past_of-append r.history es k

  end_behind : end_of t.history ≡ end_from (end_of r.history) es
  end_behind = ap end_of b.history ∙ end_of-append r.history es

  pub own_behind : receiving t l ≡ receiving_of r.known lane (past_from l (past_at r l) es)
  own_behind =
      ap (λ (x : _). receiving_of x (lane_at t l) (past_at t l)) b.known
      ∙ (ap (λ (x : RecvLane). receiving_of r.known x (past_at t l)) b.own
      ∙ ap (receiving_of r.known lane) (past_behind l))

  pub other_behind : (k : ℕ) → k ≢ l → past_from k (past_at r k) es ≡ past_at r k → receiving t k ≡ receiving r k
  other_behind k ne quiet =
      ap (λ (x : _). receiving_of x (lane_at t k) (past_at t k)) b.known
      ∙ (ap (λ (x : RecvLane). receiving_of r.known x (past_at t k)) (b.others k ne)
      ∙ ap (receiving_of r.known (lane_at r k)) (past_behind k ∙ quiet))

  -- what is common has grown, where the lane wasn't closed and the finish doesn't come
  pub grows_behind : (end_from (end_of r.history) es).has_finish ≡ has_finish r → ((k : ℕ) → k ≢ l → past_from k (past_at r k) es ≡ past_at r k) → (past_at r l).is_closed ≡ false → Grows (common r) (common t)
  grows_behind finish quiet opens =
      record {
        have = ap (λ (x : List NamedFile). have_now x t.history) b.opening ∙ have_stays r.opening t.history r.history;
        finish = ap (λ (x : EndPast). x.has_finish) end_behind ∙ finish;
        closed = λ k n e. elim (cases_eq k l) [
          | inl same ↦ absurd (closed_none (past_at r l).is_closed (length (past_at r l).landed) n opens (subst (λ (i : ℕ). closed_by (past_at r i) ≡ Some n) same e))
          | inr ne ↦ ap closed_by (past_behind k ∙ quiet k ne) ∙ e
        ];
      } where
        closed_none : (b : Bool) (m n : ℕ) → b ≡ false → (if b then Some m else None) ≡ Some n → ⊥
        closed_none true m n o e = cc
        closed_none false m n o e = cc

-- the lane's side in a state
abbrev pub recv_stands_in : PlainReceiver → ℕ → RecvState → Receiving
recv_stands_in r l st = receiving_of r.known (record (lane_at r l) { state = st }) (past_at r l)

-- the lane's part, with its state and what it holds written out
pub recv_row_at : (w : PlainWorld) (l : ℕ) (st : RecvState) (held : RecvHold) → Conversation w → l < length w.pairs → state_at w.receiver l ≡ st → (pair_at w l).recv ≡ held
    → Converses (common w.receiver) l (sending w.sender l) (recv_stands_in w.receiver l st) (record (pair_at w l) { recv = held })
recv_row_at w l st held c within here holds =
    subst (λ (x : RecvState). Converses (common w.receiver) l (sending w.sender l) (recv_stands_in w.receiver l x) (record (pair_at w l) { recv = held })) here
    (subst (λ (x : RecvHold). Converses (common w.receiver) l (sending w.sender l) (receiving w.receiver l) (record (pair_at w l) { recv = x })) holds (c.lanes l within))

pub recv_entry_keeps : ReceiverKeeps → (w : PlainWorld) (l : ℕ) (broken : Option ℕ) (st : RecvState) (held : RecvHold) (put : Put) (es : List RecvEvent) (act : RecvAct) (t : PlainReceiver) (new : RecvLane)
    → Conversation w → l < length w.pairs → state_at w.receiver l ≡ st → (pair_at w l).recv ≡ held
    → recv_steps_by w l broken held ≡ recv_turned w l (recv_turn w.receiver l put broken)
    → recv_turn w.receiver l put broken ≡ (act, t)
    → Behind w.receiver t l new es
    → (end_from (end_of w.receiver.history) es).has_finish ≡ has_finish w.receiver → (past_at w.receiver l).is_closed ≡ false
    → ((k : ℕ) (p : RecvPast) → k ≢ l → past_from k p es ≡ p)
    → IsNamed w.receiver.known (past_from l (past_at w.receiver l) es)
    → (Converses (common w.receiver) l (sending w.sender l) (recv_stands_in w.receiver l st) (record (pair_at w l) { recv = held })
    → Converses (common w.receiver) l (sending w.sender l) (receiving_of w.receiver.known new (past_from l (past_at w.receiver l) es)) (recv_gets (pair_at w l) act))
    → Conversation (recv_steps w l broken)
recv_entry_keeps keeps w l broken st held put es act t new c within here holds steps is b finish opens quiet named own =
    subst (λ (x : RecvHold). Conversation (recv_steps_by w l broken x)) (sym holds)
    (subst Conversation (sym steps)
    (subst (λ (x : Step). Conversation (recv_turned w l x)) (sym is)
    (recv_turn_keeps w l act t c within
    (subst (λ (x : Step). IsReceiver x.1) is (keeps w.receiver (number l) put (recv_turn w.receiver l put broken) c.receiver below (ends_in (turn_plan w.receiver (number l) put) broken)))
    b.lanes grows
    (λ k small. elim (cases_eq k l) [
      | inl same ↦ subst (λ (i : ℕ). IsNamed t.known (past_at t i)) (sym same) (subst (λ (x : _). IsNamed x (past_at t l)) (sym b.known) (subst (λ (x : RecvPast). IsNamed w.receiver.known x) (sym (past_behind w.receiver t l new es b l)) named))
      | inr ne ↦ subst (λ (x : _). IsNamed x (past_at t k)) (sym b.known) (subst (λ (x : RecvPast). IsNamed w.receiver.known x) (sym (past_behind w.receiver t l new es b k ∙ quiet k (past_at w.receiver k) ne)) (c.named k small))
    ])
    (λ k small ne. other_behind w.receiver t l new es b k ne (quiet k (past_at w.receiver k) ne))
    (subst (λ (x : Receiving). Converses (common t) l (sending w.sender l) x (recv_gets (pair_at w l) act)) (sym (own_behind w.receiver t l new es b))
    (converses_on (common w.receiver) (common t) l (sending w.sender l) (receiving_of w.receiver.known new (past_from l (past_at w.receiver l) es)) (recv_gets (pair_at w l) act) grows
    (own (recv_row_at w l st held c within here holds))))))) where
      below : l < length w.receiver.lanes
      below = subst (λ (n : ℕ). l < n) (sym c.recv_lanes) within

      grows : Grows (common w.receiver) (common t)
      grows = grows_behind w.receiver t l new es b finish (λ k ne. quiet k (past_at w.receiver k) ne) opens
