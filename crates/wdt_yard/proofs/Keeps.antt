-- What a journal keeps, behind each entry.
use Rattle.std.proofs.Common.{◌≡◌, ◌≢◌, ℕ, ◌+◌, ◌<◌, ◌==◌, Bool, true, List, [], ◌∷◌, ◌++◌, length, set, drop, map, Option, Some, None, Result, Ok, Err, OnOk, IfOk, IsSome, is_some, if◌then◌else◌, refl, sym, ap, ◌∙◌, subst, arith}
use Rattle.std.specs.Result.{result_err}
use Rattle.std.proofs.lemmas.Bool.{eq-eqb, ne_eqb}
use Rattle.std.proofs.lemmas.List.{length-set, length_push, set-get_or}
use Rattle.wdt_units.specs.declared.blocks.Block.{Block}
use Rattle.wdt_units.specs.declared.numbers.Conn.{Conn}
use Rattle.wdt_units.specs.declared.numbers.Lane.{Lane}
use Rattle.wdt_claims.specs.Blocks.{are_rising, count_of, HaveSameBlocks}
use Rattle.wdt_claims.specs.LaneWords.{Claims, no_claims, claimed, sent, cut_to, closed_at, finished}
use Rattle.wdt_claims.proofs.Shared.{count_of-cons, count_of-nil, count_of-push, one_if-true, rising_distinct, same_itself}
use Rattle.wdt_queue.specs.Waiting.{Waiting}
use Rattle.wdt_claims.specs.declared.check.CheckFail.{CheckFail}
use Rattle.wdt_claims.specs.Checks.{fault_of, goes_back, back_by}
use Rattle.wdt_claims.specs.Claimed.{count_kept, lane_at, with_lane}
use Rattle.wdt_history.specs.Slots.{Book}
use Rattle.wdt_history.proofs.Keeps.{count_kept-finished, count_kept-with}
use Rattle.wdt_sender_fsm.specs.declared.events.SendEvent.{SendEvent}
use Rattle.wdt_sender_fsm.specs.declared.events.SendEvent.TheVariants as events
use Rattle.wdt_sender_fsm.specs.Faults.{count_fault}
use Rattle.wdt_sender_fsm.specs.Places.{AreShared, claims_of}
use Rattle.wdt_sender_fsm.specs.SenderHistory.{LanePast, past_of, past_after, end_of-more, end_finish_after, claims_after, close_by, EndPast}
use Rattle.wdt_yard.specs.declared.tally.Tally.{Tally}
use Rattle.wdt_yard.specs.Kept.{IsKept, total_kept}
use Rattle.wdt_yard.specs.Ledger.{is_quiet}
use Rattle.wdt_yard.specs.Tallies.{tally_of, tallies_of}
use Rattle.wdt_yard.proofs.Counts.{right_count}
use Rattle.wdt_yard.proofs.Entries.{claims_same, tallies_same, finish_same, claims_set, tallies_set, quiet_claims, quiet_tally, quiet_finish}
use Rattle.wdt_yard.proofs.Queues.{rising_rest}
use Rattle.wdt_sender_fsm.proofs.Shared.{claims_finish}
use Rattle.wdt_yard.proofs.Readings.{lanes_within, claims_read, total_with, total_finished, none_kept, parts_length}

-- ---- quiet entries

pub quiet_keeps : {t : List Tally} {p : List Block} {q : Waiting} {ls : List Claims} {f : Bool} {h : List SendEvent} (e : SendEvent) → is_quiet e ≡ true → IsKept t p q ls f h → IsKept t p q ls f (h ++ e ∷ [])
quiet_keeps {t} {p} {q} {ls} {f} {h} e quiet k = record {
  few = k.few;
  claims = k.claims ∙ sym (claims_same (length t) h e (quiet_claims e quiet));
  tallied = k.tallied ∙ sym (tallies_same (length t) h e (quiet_tally e quiet));
  finished = k.finished ∙ sym (finish_same h e (quiet_finish e quiet));
  waiting = k.waiting;
  rising = k.rising;
  shared = k.shared;
  room = k.room;
}

-- ---- entries that count for a lane

pub tally_keeps : {t : List Tally} {p : List Block} {q : Waiting} {ls : List Claims} {f : Bool} {h : List SendEvent} (e : SendEvent) (l : ℕ) (y : Tally) → IsKept t p q ls f h → l < length t
    → y ≡ tally_of (past_after l (past_of h l) e) → ((k : ℕ) (past : LanePast) → k ≢ l → tally_of (past_after k past e) ≡ tally_of past)
    → ((j : ℕ) (s : Claims) → claims_after j s e ≡ s) → ((b : Bool) → end_finish_after b e ≡ b) → IsKept (set t l y) p q ls f (h ++ e ∷ [])
tally_keeps {t} {p} {q} {ls} {f} {h} e l y k lt here others stay same = record {
  few = omega (arith, k.few, length-set t l y);
  claims = k.claims ∙ sym (claims_same (length t) h e stay) ∙ ap (λ n. claims_of n (h ++ e ∷ [])) (sym (length-set t l y));
  tallied = ap (λ (xs : List Tally). set xs l y) k.tallied ∙ sym (tallies_set (length t) h e l y lt here others) ∙ ap (λ n. tallies_of n (h ++ e ∷ [])) (sym (length-set t l y));
  finished = k.finished ∙ sym (finish_same h e same);
  waiting = k.waiting;
  rising = k.rising;
  shared = k.shared;
  room = k.room;
}

pub no_link_here : (k : Lane) (past : LanePast) → record (tally_of past) { failed_tries = past.failed_tries + 1 } ≡ tally_of (past_after k.0 past (events.NoLink k))
no_link_here k past = rw (eq-eqb k.0 k.0 refl) refl

pub no_link_other : (l : Lane) (k : ℕ) (past : LanePast) → k ≢ l.0 → tally_of (past_after k past (events.NoLink l)) ≡ tally_of past
no_link_other l k past o = rw (ne_eqb l.0 k (λ e. o (sym e))) refl

pub linked_here : (k : Lane) (conn : Conn) (past : LanePast) → record (tally_of past) { connections = past.connections + 1 } ≡ tally_of (past_after k.0 past (events.Linked k conn))
linked_here k conn past = rw (eq-eqb k.0 k.0 refl) refl

pub linked_other : (l : Lane) (conn : Conn) (k : ℕ) (past : LanePast) → k ≢ l.0 → tally_of (past_after k past (events.Linked l conn)) ≡ tally_of past
linked_other l conn k past o = rw (ne_eqb l.0 k (λ e. o (sym e))) refl

pub acked_here : (k : Lane) (past : LanePast) → record (tally_of past) { acknowledged = true } ≡ tally_of (past_after k.0 past (events.Acked k))
acked_here k past = rw (eq-eqb k.0 k.0 refl) refl

pub acked_other : (l : Lane) (k : ℕ) (past : LanePast) → k ≢ l.0 → tally_of (past_after k past (events.Acked l)) ≡ tally_of past
acked_other l k past o = rw (ne_eqb l.0 k (λ e. o (sym e))) refl

-- ---- entries that change the claims of one lane

-- the claims and the queue are others now
pub lists_keep : {t : List Tally} {p : List Block} {q : Waiting} {ls : List Claims} {f : Bool} {h : List SendEvent} (r : Waiting) (ms : List Claims) (e : SendEvent) → IsKept t p q ls f h → ms ≡ claims_of (length t) (h ++ e ∷ [])
    → ((l : ℕ) (past : LanePast) → tally_of (past_after l past e) ≡ tally_of past) → ((b : Bool) → end_finish_after b e ≡ b) → are_rising r.waiting ≡ true → AreShared p r.waiting ms → r.room ≡ total_kept ms → IsKept t p r ms f (h ++ e ∷ [])
lists_keep {t} {p} {q} {ls} {f} {h} r ms e k are stay same up shared room = record {
  few = k.few;
  claims = are;
  tallied = k.tallied ∙ sym (tallies_same (length t) h e stay);
  finished = k.finished ∙ sym (finish_same h e same);
  waiting = up;
  rising = k.rising;
  shared = shared;
  room = room;
}

pub changed : {t : List Tally} {p : List Block} {q : Waiting} {ls : List Claims} {f : Bool} {h : List SendEvent} (e : SendEvent) (l : ℕ) (change : Claims → Claims) → IsKept t p q ls f h → l < length t → ((k : ℕ) (s : Claims) → claims_after k s e ≡ (if l == k then change s else s))
    → with_lane ls l (change (lane_at ls l)) ≡ claims_of (length t) (h ++ e ∷ [])
changed {t} {p} {q} {ls} {f} {h} e l change k lt does =
    ap (λ (xs : List Claims). with_lane xs l (change (lane_at xs l))) k.claims ∙ sym (claims_set (length t) h e l change lt does)

pub sent_keeps : {t : List Tally} {p : List Block} {q : Waiting} {ls : List Claims} {f : Bool} {h : List SendEvent} (l : Lane) → IsKept t p q ls f h → l.0 < length t → IsKept t p q (with_lane ls l.0 (sent (lane_at ls l.0))) f (h ++ events.Sent l ∷ [])
sent_keeps {t} {p} {q} {ls} {f} {h} l k lt =
    lists_keep q (with_lane ls l.0 (sent (lane_at ls l.0))) (events.Sent l) k (changed (events.Sent l) l.0 sent k lt (λ j s. refl)) (λ j past. refl) (λ b. refl) k.waiting
    (λ b. omega (arith, k.shared b, count_kept-with b ls l.0 (sent (lane_at ls l.0)) within))
    (omega (arith, k.room, total_with ls l.0 (sent (lane_at ls l.0)) within))
  where
    within : l.0 < length ls
    within = omega (arith, lt, lanes_within k)

pub greet_keeps : {t : List Tally} {p : List Block} {q : Waiting} {ls : List Claims} {f : Bool} {h : List SendEvent} (r : Waiting) (l : Lane) (n : ℕ) → IsKept t p q ls f h → l.0 < length t → (lane_at ls l.0).closed ≡ None
    → are_rising r.waiting ≡ true → ((b : Block) → count_of b r.waiting + count_kept b (with_lane ls l.0 (cut_to n 0 (lane_at ls l.0))) ≡ count_of b q.waiting + count_kept b ls) → r.room + length (goes_back (lane_at ls l.0) n) ≡ q.room
    → IsKept t p r (with_lane ls l.0 (cut_to n 0 (lane_at ls l.0))) f (h ++ events.Greet l n ∷ [])
greet_keeps {t} {p} {q} {ls} {f} {h} r l n k lt unclosed up moved room =
    lists_keep r (with_lane ls l.0 (cut_to n 0 (lane_at ls l.0))) (events.Greet l n) k (changed (events.Greet l n) l.0 (cut_to n 0) k lt (λ j s. refl)) (λ j past. refl) (λ b. refl) up
    (λ b. omega (arith, k.shared b, moved b))
    (omega (arith, k.room, room, back, parts_length n (lane_at ls l.0).kept, total_with ls l.0 (cut_to n 0 (lane_at ls l.0)) (omega (arith, lt, lanes_within k))))
  where
    back : length (goes_back (lane_at ls l.0) n) ≡ length (drop n (lane_at ls l.0).kept)
    back = ap (λ (o : Option ℕ). length (back_by o (lane_at ls l.0) n)) unclosed

-- the least block that waits is taken
pub taken_absent : {t : List Tally} {p : List Block} {q : Waiting} {ls : List Claims} {f : Bool} {h : List SendEvent} (r : Waiting) (b : Block) → IsKept t p q ls f h → q.waiting ≡ b ∷ r.waiting → count_kept b ls ≡ 0
taken_absent {t} {p} {q} {ls} {f} {h} r b k e =
    omega (arith, k.shared b, rising_distinct p k.rising b, ap (count_of b) e, count_of-cons b b r.waiting, one_if-true b b (same_itself b))

pub claim_keeps : {t : List Tally} {p : List Block} {q : Waiting} {ls : List Claims} {f : Bool} {h : List SendEvent} (r : Waiting) (l : Lane) (b : Block) → IsKept t p q ls f h → l.0 < length t → q.waiting ≡ b ∷ r.waiting → r.room ≡ q.room + 1
    → IsKept t p r (with_lane ls l.0 (claimed b (lane_at ls l.0))) f (h ++ events.Claim l b ∷ [])
claim_keeps {t} {p} {q} {ls} {f} {h} r l b k lt e room =
    lists_keep r (with_lane ls l.0 (claimed b (lane_at ls l.0))) (events.Claim l b) k (changed (events.Claim l b) l.0 (claimed b) k lt (λ j s. refl)) (λ j past. refl) (λ x. refl)
    (rising_rest b r.waiting (subst (λ (xs : List Block). are_rising xs ≡ true) e k.waiting))
    (λ x. omega (arith, k.shared x, ap (count_of x) e, count_of-cons x b r.waiting, count_of-push x (lane_at ls l.0).kept b, count_kept-with x ls l.0 (claimed b (lane_at ls l.0)) within))
    (omega (arith, k.room, room, length_push (lane_at ls l.0).kept b, total_with ls l.0 (claimed b (lane_at ls l.0)) within))
  where
    within : l.0 < length ls
    within = omega (arith, lt, lanes_within k)

-- ---- lanes that the receiver closed

by_closing : (o : Option ℕ) (n : ℕ) (s : Claims) → o ≡ None → close_by o n s ≡ closed_at n 0 s
by_closing o n s e = ap (λ (x : Option ℕ). close_by x n s) e

pub close_keeps : {t : List Tally} {p : List Block} {q : Waiting} {ls : List Claims} {f : Bool} {h : List SendEvent} (r : Waiting) (k l : Lane) (n : ℕ) → IsKept t p q ls f h → l.0 < length t → (lane_at ls l.0).closed ≡ None
    → are_rising r.waiting ≡ true → ((b : Block) → count_of b r.waiting + count_kept b (with_lane ls l.0 (closed_at n 0 (lane_at ls l.0))) ≡ count_of b q.waiting + count_kept b ls) → r.room + length (goes_back (lane_at ls l.0) n) ≡ q.room
    → IsKept t p r (with_lane ls l.0 (closed_at n 0 (lane_at ls l.0))) f (h ++ events.Global k l n ∷ [])
close_keeps {t} {p} {q} {ls} {f} {h} r k l n is lt unclosed up moved room =
    lists_keep r (with_lane ls l.0 (closed_at n 0 (lane_at ls l.0))) (events.Global k l n) is
    (ap (with_lane ls l.0) (sym (by_closing (lane_at ls l.0).closed n (lane_at ls l.0) unclosed)) ∙ changed (events.Global k l n) l.0 (λ s. close_by s.closed n s) is lt (λ j s. refl))
    (λ j past. refl) (λ b. refl) up
    (λ b. omega (arith, is.shared b, moved b))
    (omega (arith, is.room, room, back, parts_length n (lane_at ls l.0).kept, total_with ls l.0 (closed_at n 0 (lane_at ls l.0)) (omega (arith, lt, lanes_within is))))
  where
    back : length (goes_back (lane_at ls l.0) n) ≡ length (drop n (lane_at ls l.0).kept)
    back = ap (λ (o : Option ℕ). length (back_by o (lane_at ls l.0) n)) unclosed

by_closed : (o : Option ℕ) (n : ℕ) (s : Claims) → is_some o ≡ true → close_by o n s ≡ s
by_closed None n s e = cc
by_closed (Some m) n s e = refl

-- a lane that was closed before stays as it is
pub closed_keeps : {t : List Tally} {p : List Block} {q : Waiting} {ls : List Claims} {f : Bool} {h : List SendEvent} (k l : Lane) (n : ℕ) → IsKept t p q ls f h → l.0 < length t → is_some (lane_at ls l.0).closed ≡ true → IsKept t p q ls f (h ++ events.Global k l n ∷ [])
closed_keeps {t} {p} {q} {ls} {f} {h} k l n is lt was =
    lists_keep q ls (events.Global k l n) is
    (sym (set-get_or ls l.0 no_claims) ∙ ap (with_lane ls l.0) (sym (by_closed (lane_at ls l.0).closed n (lane_at ls l.0) was)) ∙ changed (events.Global k l n) l.0 (λ s. close_by s.closed n s) is lt (λ j s. refl))
    (λ j past. refl) (λ b. refl) is.waiting is.shared is.room

-- what a call of the history made of a journal, whatever it answered
pub closing_keeps : {t : List Tally} {p : List Block} {q : Waiting} {f : Bool} {h : List SendEvent} (k l : Lane) (n : ℕ) (r : Result ℕ CheckFail) (old new : Book) (q' : Waiting) → IsKept t p q old.lanes f h → l.0 < length t
    → ((past_of h l.0).claims.closed ≡ None → count_fault (past_of h l.0).claims n ≡ None) → result_err r ≡ fault_of (lane_at old.lanes l.0) n
    → OnOk r ((lane_at old.lanes l.0).closed ≡ None → new ≡ record old { lanes = with_lane old.lanes l.0 (closed_at n 0 (lane_at old.lanes l.0)) })
    → (IsSome (lane_at old.lanes l.0).closed → (new ≡ old) × (q' ≡ q)) → (are_rising q.waiting ≡ true → are_rising q'.waiting ≡ true)
    → IfOk r (λ c. c ≡ length (goes_back (lane_at old.lanes l.0) n)) → IfOk r (λ c. q'.room + c ≡ q.room)
    → ((b : Block) → count_of b q'.waiting + count_kept b new.lanes ≡ count_of b q.waiting + count_kept b old.lanes) → IsKept t p q' new.lanes f (h ++ events.Global k l n ∷ [])
closing_keeps {t} {p} {q} {f} {h} k l n r old new q' is lt right fault closes was up count room moved = go (lane_at old.lanes l.0).closed refl r fault closes count room
  where
    here : lane_at old.lanes l.0 ≡ (past_of h l.0).claims
    here = claims_read l.0 is lt

    go : (o : Option ℕ) → (lane_at old.lanes l.0).closed ≡ o → (x : Result ℕ CheckFail) → result_err x ≡ fault_of (lane_at old.lanes l.0) n
        → OnOk x ((lane_at old.lanes l.0).closed ≡ None → new ≡ record old { lanes = with_lane old.lanes l.0 (closed_at n 0 (lane_at old.lanes l.0)) })
        → IfOk x (λ c. c ≡ length (goes_back (lane_at old.lanes l.0) n)) → IfOk x (λ c. q'.room + c ≡ q.room) → IsKept t p q' new.lanes f (h ++ events.Global k l n ∷ [])
    go (Some m) e x wrong shuts many back =
        let same = was (ap is_some e) in
        subst (λ (y : Waiting). IsKept t p y new.lanes f (h ++ events.Global k l n ∷ [])) (sym same.1)
        (subst (λ (b : Book). IsKept t p q b.lanes f (h ++ events.Global k l n ∷ [])) (sym same.0) (closed_keeps k l n is lt (ap is_some e)))
    go None e (Ok c) wrong shuts many back =
        let behind : new.lanes ≡ with_lane old.lanes l.0 (closed_at n 0 (lane_at old.lanes l.0)) = ap (λ (b : Book). b.lanes) (shuts e) in
        subst (λ (ls : List Claims). IsKept t p q' ls f (h ++ events.Global k l n ∷ [])) (sym behind)
        (close_keeps q' k l n is lt e (up is.waiting) (λ b. ap (λ (ls : List Claims). count_of b q'.waiting + count_kept b ls) (sym behind) ∙ moved b) (ap (λ (m : ℕ). q'.room + m) (sym many) ∙ back))
    go None e (Err x) wrong shuts many back =
        let fine : fault_of (lane_at old.lanes l.0) n ≡ None = ap (λ (s : Claims). fault_of s n) here ∙ right_count (past_of h l.0).claims n (right (ap (λ (s : Claims). s.closed) (sym here) ∙ e)) in
        let both : Some x ≡ None = wrong ∙ fine in
        cc

-- ---- the finish and the plan

pub finish_keeps : {t : List Tally} {p : List Block} {q : Waiting} {ls : List Claims} {f : Bool} {h : List SendEvent} (l : Lane) → IsKept t p q ls f h → IsKept t p q (map finished ls) true (h ++ events.Finish l ∷ [])
finish_keeps {t} {p} {q} {ls} {f} {h} l k = record {
  few = k.few;
  claims = ap (map finished) k.claims ∙ sym (claims_finish (length t) h l);
  tallied = k.tallied ∙ sym (tallies_same (length t) h (events.Finish l) (λ j past. refl));
  finished = sym (ap (λ (e : EndPast). e.has_finish) (end_of-more h (events.Finish l)));
  waiting = k.waiting;
  rising = k.rising;
  shared = λ b. omega (arith, k.shared b, count_kept-finished b ls);
  room = omega (arith, k.room, total_finished ls);
}

pub plan_keeps : {t : List Tally} {q : Waiting} {ls : List Claims} {f : Bool} {h : List SendEvent} (p : List Block) (r : Waiting) → IsKept t [] q ls f h → are_rising p ≡ true → are_rising r.waiting ≡ true → HaveSameBlocks r.waiting p → r.room ≡ 0 → IsKept t p r ls f h
plan_keeps {t} {q} {ls} {f} {h} p r k rises up same room = record {
  few = k.few;
  claims = k.claims;
  tallied = k.tallied;
  finished = k.finished;
  waiting = up;
  rising = rises;
  shared = λ b. omega (arith, same b, none b);
  room = room ∙ sym (none_kept ls none);
}
  where
    none : (b : Block) → count_kept b ls ≡ 0
    none b = omega (arith, k.shared b, count_of-nil b)
