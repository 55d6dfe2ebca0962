-- A barrier says of each lane what its history says.
use Rattle.std.proofs.Common.{◌≡◌, ◌≢◌, ℕ, zero, suc, ◌<◌, ◌≤◌, ◌==◌, ◌&&◌, ◌||◌, not, Bool, true, false, List, [], ◌∷◌, ◌++◌, length, replicate, slice_set, refl, sym, ap, subst, ◌∙◌, inl, inr, append_assoc, arith}
use Rattle.std.proofs.lemmas.Bool.{eq-eqb}
use Rattle.std.proofs.lemmas.Bool.Decides.{eqb_tells}
use Rattle.std.proofs.lemmas.List.{get_or-set_same, get_or-set_other, length-set}
use Rattle.wdt_units.specs.declared.numbers.LaneSet.{LaneSet}
use Rattle.wdt_units.specs.LaneSets.{has_lane, no_lanes, only_lane, lanes_with, lanes_without}
use Rattle.wdt_units.proofs.LaneSetLaws.{in_none, in_only, in_with, in_without}
use Rattle.wdt_funnel.specs.Barrier.{Barrier, after, barrier_from, barrier_of, is_open, no_barrier, set_at, untold}
use Rattle.wdt_funnel.specs.Happenings.{Happening, Took, Dropped, Idled, Told, Closed, AreOn, closes, ends_idling, ends_telling, every, has_named, idles, is_closed, is_heard, is_idle, is_ready, is_telling, is_untold, lane_of, some, takes, tells}
use Rattle.wdt_funnel.proofs.Histories.{any-more, stands-more, heard-more, or_false, ne_eqb}

-- ---- tests

stays : (x : Bool) → x ≡ ((x && not false) || false)
stays true = refl
stays false = refl

starts : (x b : Bool) → (x || b) ≡ ((x && not false) || b)
starts true b = refl
starts false b = refl

ended : (x : Bool) → (x && not true) ≡ false
ended true = refl
ended false = refl

kept : (x : Bool) → (x && not false) ≡ x
kept true = refl
kept false = refl

-- ---- sets

with_one : (set : LaneSet) (k l : ℕ) → has_lane (lanes_with set (only_lane k)) l ≡ (has_lane set l || k == l)
with_one set k l = in_with set (only_lane k) l ∙ ap (λ (b : Bool). has_lane set l || b) (in_only k l)

without_one : (set : LaneSet) (k l : ℕ) → has_lane (lanes_without set (only_lane k)) l ≡ ((has_lane set l && not (k == l)) || false)
without_one set k l =
    in_without set (only_lane k) l ∙ ap (λ (b : Bool). has_lane set l && not b) (in_only k l) ∙ sym (or_false (has_lane set l && not (k == l)))

-- a lane's set is emptied
at_none : (sets : List LaneSet) (k l c : ℕ) → k < length sets → has_lane (set_at (slice_set sets k no_lanes) l) c ≡ ((has_lane (set_at sets l) c && not (k == l)) || false)
at_none sets k l c lt = elim (eqb_tells k l) [ inl e ↦ same e.1 | inr e ↦ other (λ eq. e.1 eq) ]
  where
    goal_at : Bool → Type 0
    goal_at b = has_lane (set_at (slice_set sets k no_lanes) l) c ≡ ((has_lane (set_at sets l) c && not b) || false)

    same : k ≡ l → goal_at (k == l)
    same e =
        subst goal_at (sym (eq-eqb k l e))
        (ap (λ (n : ℕ). has_lane (set_at (slice_set sets k no_lanes) n) c) (sym e) ∙ ap (λ (set : LaneSet). has_lane set c) (get_or-set_same sets k no_lanes no_lanes lt) ∙ in_none c
        ∙ sym (ap (λ (b : Bool). b || false) (ended (has_lane (set_at sets l) c))))

    other : (k ≢ l) → goal_at (k == l)
    other ne =
        subst goal_at (sym (ne_eqb k l ne))
        (ap (λ (set : LaneSet). has_lane set c) (get_or-set_other sets k l no_lanes no_lanes (λ e. ne (sym e))) ∙ stays (has_lane (set_at sets l) c))

-- lanes are added to a lane's set
at_with : (sets : List LaneSet) (k l c : ℕ) (set : LaneSet) → k < length sets → has_lane (set_at (slice_set sets k (lanes_with (set_at sets k) set)) l) c ≡ ((has_lane (set_at sets l) c && not false) || (k == l && has_lane set c))
at_with sets k l c set lt = elim (eqb_tells k l) [ inl e ↦ same e.1 | inr e ↦ other (λ eq. e.1 eq) ]
  where
    grown : LaneSet
    grown = lanes_with (set_at sets k) set

    goal_at : Bool → Type 0
    goal_at b = has_lane (set_at (slice_set sets k (lanes_with (set_at sets k) set)) l) c ≡ ((has_lane (set_at sets l) c && not false) || (b && has_lane set c))

    same : k ≡ l → goal_at (k == l)
    same e =
        subst goal_at (sym (eq-eqb k l e))
        (ap (λ (n : ℕ). has_lane (set_at (slice_set sets k (lanes_with (set_at sets k) set)) n) c) (sym e)
        ∙ ap (λ (s : LaneSet). has_lane s c) (get_or-set_same sets k (lanes_with (set_at sets k) set) no_lanes lt) ∙ in_with (set_at sets k) set c
        ∙ ap (λ (n : ℕ). has_lane (set_at sets n) c || has_lane set c) e ∙ starts (has_lane (set_at sets l) c) (has_lane set c))

    other : (k ≢ l) → goal_at (k == l)
    other ne =
        subst goal_at (sym (ne_eqb k l ne))
        (ap (λ (s : LaneSet). has_lane s c) (get_or-set_other sets k l (lanes_with (set_at sets k) set) no_lanes (λ e. ne (sym e))) ∙ stays (has_lane (set_at sets l) c))

-- ---- the barrier behind a history

pub record Says (history : List Happening) (b : Barrier) : Type 0 where
  pub idle : (l : ℕ) → has_lane b.idle l ≡ is_idle history l
  pub closed : (l : ℕ) → has_lane b.closed l ≡ is_closed history l
  pub heard : (c : ℕ) → has_lane b.heard c ≡ is_heard history c
  pub named : (l c : ℕ) → has_lane (set_at b.named l) c ≡ has_named history l c
  pub telling : (l c : ℕ) → has_lane (set_at b.telling l) c ≡ is_telling history l c
  pub names : length b.named ≡ 16
  pub tellings : length b.telling ≡ 16

-- what was said and isn't touched is said
idle_on : (history : List Happening) (b : Barrier) (e : Happening) (l : ℕ) → Says history b → ((has_lane b.idle l && not (ends_idling l e)) || idles l e) ≡ is_idle (history ++ e ∷ []) l
idle_on history b e l says = ap (λ (x : Bool). (x && not (ends_idling l e)) || idles l e) (says.idle l) ∙ sym (stands-more (idles l) (ends_idling l) history e)

closed_on : (history : List Happening) (b : Barrier) (e : Happening) (l : ℕ) → Says history b → (has_lane b.closed l || closes l e) ≡ is_closed (history ++ e ∷ []) l
closed_on history b e l says = ap (λ (x : Bool). x || closes l e) (says.closed l) ∙ sym (any-more (closes l) history e)

named_on : (history : List Happening) (b : Barrier) (e : Happening) (l c : ℕ) → Says history b → ((has_lane (set_at b.named l) c && not (takes l e)) || tells l c e) ≡ has_named (history ++ e ∷ []) l c
named_on history b e l c says = ap (λ (x : Bool). (x && not (takes l e)) || tells l c e) (says.named l c) ∙ sym (stands-more (tells l c) (takes l) history e)

telling_on : (history : List Happening) (b : Barrier) (e : Happening) (l c : ℕ) → Says history b → ((has_lane (set_at b.telling l) c && not (ends_telling l e)) || tells l c e) ≡ is_telling (history ++ e ∷ []) l c
telling_on history b e l c says = ap (λ (x : Bool). (x && not (ends_telling l e)) || tells l c e) (says.telling l c) ∙ sym (stands-more (tells l c) (ends_telling l) history e)

unheard_on : (history : List Happening) (b : Barrier) (e : Happening) (c : ℕ) → Says history b → is_heard (history ++ e ∷ []) c ≡ (is_heard history c || false) → has_lane b.heard c ≡ is_heard (history ++ e ∷ []) c
unheard_on history b e c says more = says.heard c ∙ sym (or_false (is_heard history c)) ∙ sym more

pub says-more : (history : List Happening) (b : Barrier) (e : Happening) → lane_of e < 16 → Says history b → Says (history ++ e ∷ []) (after b e)
says-more history b (Took k) lt says = record {
  idle = λ l. stays (has_lane b.idle l) ∙ idle_on history b (Took k) l says;
  closed = λ l. sym (or_false (has_lane b.closed l)) ∙ closed_on history b (Took k) l says;
  heard = λ c. unheard_on history b (Took k) c says (heard-more history (Took k) c);
  named = λ l c. at_none b.named k l c (omega (arith, says.names)) ∙ named_on history b (Took k) l c says;
  telling = λ l c. stays (has_lane (set_at b.telling l) c) ∙ telling_on history b (Took k) l c says;
  names = length-set b.named k no_lanes ∙ says.names;
  tellings = says.tellings;
}
says-more history b (Dropped k) lt says = record {
  idle = λ l. without_one b.idle k l ∙ idle_on history b (Dropped k) l says;
  closed = λ l. sym (or_false (has_lane b.closed l)) ∙ closed_on history b (Dropped k) l says;
  heard = λ c. unheard_on history b (Dropped k) c says (heard-more history (Dropped k) c);
  named = λ l c. stays (has_lane (set_at b.named l) c) ∙ named_on history b (Dropped k) l c says;
  telling = λ l c. at_none b.telling k l c (omega (arith, says.tellings)) ∙ telling_on history b (Dropped k) l c says;
  names = says.names;
  tellings = length-set b.telling k no_lanes ∙ says.tellings;
}
says-more history b (Idled k) lt says = record {
  idle = λ l. with_one b.idle k l ∙ starts (has_lane b.idle l) (k == l) ∙ idle_on history b (Idled k) l says;
  closed = λ l. sym (or_false (has_lane b.closed l)) ∙ closed_on history b (Idled k) l says;
  heard = λ c. in_with b.heard (set_at b.telling k) c ∙ ap (λ (x : Bool). x || has_lane (set_at b.telling k) c) (says.heard c) ∙ ap (λ (x : Bool). is_heard history c || x) (says.telling k c)
      ∙ sym (heard-more history (Idled k) c);
  named = λ l c. stays (has_lane (set_at b.named l) c) ∙ named_on history b (Idled k) l c says;
  telling = λ l c. at_none b.telling k l c (omega (arith, says.tellings)) ∙ telling_on history b (Idled k) l c says;
  names = says.names;
  tellings = length-set b.telling k no_lanes ∙ says.tellings;
}
says-more history b (Told k set) lt says = record {
  idle = λ l. without_one b.idle k l ∙ idle_on history b (Told k set) l says;
  closed = λ l. sym (or_false (has_lane b.closed l)) ∙ closed_on history b (Told k set) l says;
  heard = λ c. unheard_on history b (Told k set) c says (heard-more history (Told k set) c);
  named = λ l c. at_with b.named k l c set (omega (arith, says.names)) ∙ named_on history b (Told k set) l c says;
  telling = λ l c. at_with b.telling k l c set (omega (arith, says.tellings)) ∙ telling_on history b (Told k set) l c says;
  names = length-set b.named k (lanes_with (set_at b.named k) set) ∙ says.names;
  tellings = length-set b.telling k (lanes_with (set_at b.telling k) set) ∙ says.tellings;
}
says-more history b (Closed k) lt says = record {
  idle = λ l. stays (has_lane b.idle l) ∙ idle_on history b (Closed k) l says;
  closed = λ l. with_one b.closed k l ∙ closed_on history b (Closed k) l says;
  heard = λ c. unheard_on history b (Closed k) c says (heard-more history (Closed k) c);
  named = λ l c. stays (has_lane (set_at b.named l) c) ∙ named_on history b (Closed k) l c says;
  telling = λ l c. stays (has_lane (set_at b.telling l) c) ∙ telling_on history b (Closed k) l c says;
  names = says.names;
  tellings = says.tellings;
}

says_none : (lanes : ℕ) → Says [] (no_barrier lanes)
says_none lanes = record {
  idle = λ l. in_none l;
  closed = λ l. in_none l;
  heard = λ c. in_none c;
  named = λ l c. empty_at 16 l c;
  telling = λ l c. empty_at 16 l c;
  names = refl;
  tellings = refl;
}
  where
    empty_at : (n l c : ℕ) → has_lane (set_at (replicate n no_lanes) l) c ≡ false
    empty_at zero l c = in_none c
    empty_at (suc n) zero c = in_none c
    empty_at (suc n) (suc l) c = empty_at n l c

says_from : (lanes : ℕ) (past history : List Happening) (b : Barrier) → lanes ≤ 16 → AreOn lanes history → Says past b → Says (past ++ history) (barrier_from b history)
says_from lanes past [] b few on says = subst (λ (xs : List Happening). Says xs b) (sym (append_nil past)) says
  where
    append_nil : (xs : List Happening) → xs ++ [] ≡ xs
    append_nil [] = refl
    append_nil (x ∷ xs) = ap (λ (ys : List Happening). x ∷ ys) (append_nil xs)
says_from lanes past (e ∷ history) b few on says =
    subst (λ (xs : List Happening). Says xs (barrier_from (after b e) history)) (append_assoc past (e ∷ []) history)
    (says_from lanes (past ++ e ∷ []) history (after b e) few on.1 (says-more past b e (omega (arith, on.0)) says))

pub says_of : (lanes : ℕ) (history : List Happening) → lanes ≤ 16 → AreOn lanes history → Says history (barrier_of lanes history)
unfolding barrier_of
says_of lanes history few on = says_from lanes [] history (no_barrier lanes) few on (says_none lanes)

-- ---- what follows

pub untold_of : (history : List Happening) (b : Barrier) (l c : ℕ) → Says history b → has_lane (untold b l) c ≡ is_untold history l c
untold_of history b l c says =
    in_without (lanes_without b.closed b.heard) (set_at b.named l) c ∙ ap (λ (x : Bool). x && not (has_lane (set_at b.named l) c)) (in_without b.closed b.heard c)
    ∙ ap (λ (x : Bool). x && not (has_lane b.heard c) && not (has_lane (set_at b.named l) c)) (says.closed c) ∙ ap (λ (x : Bool). is_closed history c && not x && not (has_lane (set_at b.named l) c)) (says.heard c)
    ∙ ap (λ (x : Bool). is_closed history c && not (is_heard history c) && not x) (says.named l c)

pub every_same : (n : ℕ) (p q : ℕ → Bool) → ((l : ℕ) → l < n → p l ≡ q l) → every n p ≡ every n q
every_same zero p q same = refl
every_same (suc n) p q same = ap (λ (x : Bool). x && every n p) (same n (omega arith)) ∙ ap (λ (x : Bool). q n && x) (every_same n p q (λ l lt. same l (omega arith)))

pub some_same : (n : ℕ) (p q : ℕ → Bool) → ((l : ℕ) → p l ≡ q l) → some n p ≡ some n q
some_same zero p q same = refl
some_same (suc n) p q same = ap (λ (x : Bool). x || some n p) (same n) ∙ ap (λ (x : Bool). q n || x) (some_same n p q same)

lanes_from : (b : Barrier) (history : List Happening) → (barrier_from b history).lanes ≡ b.lanes
lanes_from b [] = refl
lanes_from b (Took k ∷ history) = lanes_from (after b (Took k)) history
lanes_from b (Dropped k ∷ history) = lanes_from (after b (Dropped k)) history
lanes_from b (Idled k ∷ history) = lanes_from (after b (Idled k)) history
lanes_from b (Told k set ∷ history) = lanes_from (after b (Told k set)) history
lanes_from b (Closed k ∷ history) = lanes_from (after b (Closed k)) history

pub lanes_of : (lanes : ℕ) (history : List Happening) → (barrier_of lanes history).lanes ≡ lanes
unfolding barrier_of
lanes_of lanes history = lanes_from (no_barrier lanes) history

open_of : (n : ℕ) (history : List Happening) (b : Barrier) → Says history b
    → (every n (λ l. has_lane b.idle l || has_lane b.closed l) && some n (has_lane b.idle) && every n (λ l. not (has_lane b.closed l) || has_lane b.heard l)) ≡ is_ready n history
open_of n history b says =
    ap (λ (x : Bool). x && some n (has_lane b.idle) && every n (λ l. not (has_lane b.closed l) || has_lane b.heard l))
    (every_same n (λ l. has_lane b.idle l || has_lane b.closed l) (λ l. is_idle history l || is_closed history l) (λ l lt. ap (λ (x : Bool). x || has_lane b.closed l) (says.idle l) ∙ ap (λ (x : Bool). is_idle history l || x) (says.closed l)))
    ∙ ap (λ (x : Bool). every n (λ l. is_idle history l || is_closed history l) && x && every n (λ l. not (has_lane b.closed l) || has_lane b.heard l)) (some_same n (has_lane b.idle) (is_idle history) says.idle)
    ∙ ap (λ (x : Bool). every n (λ l. is_idle history l || is_closed history l) && some n (is_idle history) && x)
    (every_same n (λ l. not (has_lane b.closed l) || has_lane b.heard l) (λ l. not (is_closed history l) || is_heard history l) (λ l lt. ap (λ (x : Bool). not x || has_lane b.heard l) (says.closed l) ∙ ap (λ (x : Bool). not (is_closed history l) || x) (says.heard l)))

pub ready_of : (lanes : ℕ) (history : List Happening) → lanes ≤ 16 → AreOn lanes history → is_open (barrier_of lanes history) ≡ is_ready lanes history
ready_of lanes history few on =
    ap (λ (n : ℕ). every n (λ l. has_lane (barrier_of lanes history).idle l || has_lane (barrier_of lanes history).closed l) && some n (has_lane (barrier_of lanes history).idle) && every n (λ l. not (has_lane (barrier_of lanes history).closed l) || has_lane (barrier_of lanes history).heard l)) (lanes_of lanes history)
    ∙ open_of lanes history (barrier_of lanes history) (says_of lanes history few on)

from-append : (b : Barrier) (history more : List Happening) → barrier_from b (history ++ more) ≡ barrier_from (barrier_from b history) more
from-append b [] more = refl
from-append b (e ∷ history) more = from-append (after b e) history more

pub goes_on : (lanes : ℕ) (history more : List Happening) → barrier_of lanes (history ++ more) ≡ barrier_from (barrier_of lanes history) more
unfolding barrier_of
goes_on lanes history more = from-append (no_barrier lanes) history more
