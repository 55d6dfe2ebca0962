-- What a receiver's lane tells of is closed, and what it told of on its connection is confirmed, or the lane tells of it.
use Rattle.std.proofs.Common.{◌≡◌, ◌⊎◌, inl, inr, ℕ, ◌<◌, ◌==◌, ◌||◌, Bool, true, false, if◌then◌else◌, List, [], ◌∷◌, ◌++◌, length, filter, subst, sym, ap, ◌∙◌, refl, append-nil, append_assoc, eqb-true}
use Rattle.std.proofs.lemmas.Bool.{and_parts, both_ways, or_cases}
use Rattle.std.proofs.lemmas.List.Folds.{list_any-append}
use Rattle.wdt_units.specs.LaneSets.{has_lane, only_lane}
use Rattle.wdt_units.specs.declared.numbers.LaneSet.{LaneSet}
use Rattle.wdt_units.proofs.LaneSetLaws.{in_none, in_only, in_with}
use Rattle.wdt_receiver_fsm.specs.declared.events.RecvEvent.{RecvEvent}
use Rattle.wdt_receiver_fsm.specs.declared.events.RecvEvent.TheVariants as events
use Rattle.wdt_receiver_fsm.specs.Legal.{IsAllowed, IsLegal, IsLegal-more, IsLegal-none, Terms, legal_from}
use Rattle.wdt_receiver_fsm.specs.PlainReceiver.{PlainReceiver, past_at}
use Rattle.wdt_receiver_fsm.specs.Ready.{is_confirmed, is_untold, untold}
use Rattle.wdt_receiver_fsm.specs.Receiver.{IsReceiver, terms_of}
use Rattle.wdt_receiver_fsm.specs.ReceiverHistory.{Confirm, RecvPast, confirm_after, confirm_of, confirm_of-append, is_closed_after, past_after, past_of, past_of-append, past_of-none}
use Rattle.wdt_receiver_fsm.specs.Sets.{has, lanes_of, numbers, set_of}
use Rattle.wdt_receiver_fsm.proofs.ForCallers.{tellers_tell}

-- ---- lists of lanes

pub in_filter : (f : ℕ → Bool) (xs : List ℕ) (q : ℕ) → has (filter f xs) q ≡ true → f q ≡ true
in_filter f [] q e = cc
in_filter f (x ∷ xs) q e = go (in_filter f xs q) (f x) refl e
  where
    go : (has (filter f xs) q ≡ true → f q ≡ true) → (b : Bool) → f x ≡ b → has (if b then x ∷ filter f xs else filter f xs) q ≡ true → f q ≡ true
    go rest true is h = elim (or_cases (x == q) (has (filter f xs) q) h) [ inl y ↦ ap f (sym (eqb-true x q y)) ∙ is | inr y ↦ rest y ]
    go rest false is h = rest h

or_same : (a b c d : Bool) → a ≡ b → c ≡ d → (a || c) ≡ (b || d)
or_same a b c d e f = ap (λ (x : Bool). x || c) e ∙ ap (λ (x : Bool). b || x) f

-- a set has the lanes of which it is made
pub has_set : (xs : List ℕ) (k : ℕ) → has_lane (set_of xs) k ≡ has xs k
has_set [] k = in_none k
has_set (x ∷ xs) k = in_with (only_lane x) (set_of xs) k ∙ or_same (has_lane (only_lane x) k) (x == k) (has_lane (set_of xs) k) (has xs k) (in_only x k) (has_set xs k)

-- ---- behind an entry

-- of a lane that tells these, told these, is up and idle, and of another that is closed and confirmed or isn't
record Tells (telling told : List ℕ) (up idle shut confirmed : Bool) (q : ℕ) : Type 0 where
  closed : has telling q ≡ true → shut ≡ true
  known : up ≡ true → has told q ≡ true → (confirmed ≡ true) ⊎ ((idle ≡ false) × (has telling q ≡ true))

abbrev TellsBy : RecvPast → RecvPast → Confirm → ℕ → Type 0
TellsBy p o c q = Tells p.telling p.told p.is_up p.is_idle o.is_closed c.is_confirmed q

abbrev TellsAt : List RecvEvent → ℕ → ℕ → Type 0
TellsAt g l q = TellsBy (past_of g l) (past_of g q) (confirm_of g q) q

module _ (q : ℕ) (telling told : List ℕ) (up idle shut confirmed : Bool) (f : Tells telling told up idle shut confirmed q) where
  by_take : (b : Bool) → Tells telling (if b then [] else told) (if b then true else up) idle shut confirmed q
  by_take true = record { closed = f.closed; known = λ u h. absurd (both_ways false refl h) }
  by_take false = f

  by_drop : (b : Bool) → Tells (if b then [] else telling) told (if b then false else up) (if b then false else idle) shut confirmed q
  by_drop true = record { closed = λ h. absurd (both_ways false refl h); known = λ u h. absurd (both_ways false refl u) }
  by_drop false = f

  by_close : (b : Bool) → Tells telling told up idle (if b then true else shut) confirmed q
  by_close true = record { closed = λ h. refl; known = f.known }
  by_close false = f

  by_idle : (b tells : Bool) → (b ≡ true → tells ≡ has telling q) → Tells (if b then [] else telling) told up (if b then true else idle) shut (confirmed || tells) q
  by_idle true tells same = record { closed = λ h. absurd (both_ways false refl h); known = λ u h. inl (go (f.known u h)) }
    where
      last : (a c : Bool) → c ≡ true → (a || c) ≡ true
      last true c e = refl
      last false c e = e

      go : (confirmed ≡ true) ⊎ ((idle ≡ false) × (has telling q ≡ true)) → (confirmed || tells) ≡ true
      go (inl x) = ap (λ (c : Bool). c || tells) x
      go (inr x) = last confirmed tells (same refl ∙ x.1)
  by_idle false tells same = record { closed = f.closed; known = λ u h. go (f.known u h) }
    where
      go : (confirmed ≡ true) ⊎ ((idle ≡ false) × (has telling q ≡ true)) → ((confirmed || tells) ≡ true) ⊎ ((idle ≡ false) × (has telling q ≡ true))
      go (inl x) = inl (ap (λ (c : Bool). c || tells) x)
      go (inr x) = inr x

  by_told : (b : Bool) (lanes : List ℕ) → (b ≡ true → idle ≡ true) → (has lanes q ≡ true → shut ≡ true) → Tells (if b then lanes else telling) (if b then told ++ lanes else told) up (if b then false else idle) shut confirmed q
  by_told true lanes idles shuts = record { closed = shuts; known = λ u h. go u (or_cases (has told q) (has lanes q) (sym (list_any-append (λ (k : ℕ). k == q) told lanes) ∙ h)) }
    where
      go : up ≡ true → (has told q ≡ true) ⊎ (has lanes q ≡ true) → (confirmed ≡ true) ⊎ ((false ≡ false) × (has lanes q ≡ true))
      go u (inl x) = elim (f.known u x) [ inl y ↦ inl y | inr y ↦ absurd (both_ways idle y.0 (idles refl)) ]
      go u (inr x) = inr (refl, x)
  by_told false lanes idles shuts = f

module _ (t : Terms) (g : List RecvEvent) (l q : ℕ) (legal : IsLegal t g) (f : TellsAt g l q) where
  abbrev p : RecvPast
  p = past_of g l

  abbrev o : RecvPast
  o = past_of g q

  abbrev c : Confirm
  c = confirm_of g q

  teller : (k : ℕ) → (k == l) ≡ true → has c.tellers k ≡ has p.telling q
  teller k same = ap (has c.tellers) (eqb-true k l same) ∙ sym (tellers_tell t g l q legal)

  shuts : (k : ℕ) (set : LaneSet) → set ≡ set_of (untold t.lanes g k) → has (lanes_of set) q ≡ true → o.is_closed ≡ true
  shuts k set is h =
      let there : has_lane (set_of (untold t.lanes g k)) q ≡ true = ap (λ (x : LaneSet). has_lane x q) (sym is) ∙ in_filter (has_lane set) (numbers 16) q h in
      let all = in_filter (is_untold g k) (numbers t.lanes) q (sym (has_set (untold t.lanes g k) q) ∙ there) in
      let a = and_parts _ _ all in
      let b = and_parts _ _ a.0 in
      b.0

  by_event : (e : RecvEvent) → IsAllowed t g e → TellsBy (past_after l p e) (past_after q o e) (confirm_after q c e) q
  by_event (events.Take k conn) a = by_take q p.telling p.told p.is_up p.is_idle o.is_closed c.is_confirmed f (k.0 == l)
  by_event (events.Dropped k) a = by_drop q p.telling p.told p.is_up p.is_idle o.is_closed c.is_confirmed f (k.0 == l)
  by_event (events.Close k) a = by_close q p.telling p.told p.is_up p.is_idle o.is_closed c.is_confirmed f (k.0 == q)
  by_event (events.Idle k) a = by_idle q p.telling p.told p.is_up p.is_idle o.is_closed c.is_confirmed f (k.0 == l) (has c.tellers k.0) (teller k.0)
  by_event (events.Told k set) a =
      by_told q p.telling p.told p.is_up p.is_idle o.is_closed c.is_confirmed f (k.0 == l) (lanes_of set) (λ same. subst (λ (j : ℕ). (past_of g j).is_idle ≡ true) (eqb-true k.0 l same) a.fits.0) (shuts k.0 set a.fits.1)
  by_event (events.NoLink k) a = f
  by_event (events.Met k settings) a = f
  by_event (events.Sized k files bytes) a = f
  by_event (events.Begin k b) a = f
  by_event (events.Land k) a = f
  by_event events.Finish a = f
  by_event (events.Acked k) a = f
  by_event (events.Quit k) a = f
  by_event (events.Abort k code) a = f
  by_event (events.Peer k kind) a = f

  after : (e : RecvEvent) → IsAllowed t g e → TellsAt (g ++ e ∷ []) l q
  after e a =
      subst (λ (x : RecvPast). TellsBy x (past_of (g ++ e ∷ []) q) (confirm_of (g ++ e ∷ []) q) q) (sym (past_of-append g (e ∷ []) l))
      (subst (λ (x : RecvPast). TellsBy (past_after l p e) x (confirm_of (g ++ e ∷ []) q) q) (sym (past_of-append g (e ∷ []) q))
      (subst (λ (x : Confirm). TellsBy (past_after l p e) (past_after q o e) x q) (sym (confirm_of-append g (e ∷ []) q)) (by_event e a)))

-- ---- a whole history

from : (t : Terms) (b g : List RecvEvent) (l q : ℕ) → IsLegal t b → TellsAt b l q → legal_from t b g → TellsAt (b ++ g) l q
from t b [] l q before s legal = subst (λ (h : List RecvEvent). TellsAt h l q) (sym (append-nil b)) s
from t b (e ∷ g) l q before s legal =
    subst (λ (h : List RecvEvent). TellsAt h l q) (append_assoc b (e ∷ []) g)
    (from t (b ++ e ∷ []) g l q (IsLegal-more t b e before legal.0) (after t b l q before s e legal.0) legal.1)

none : (l q : ℕ) → TellsAt [] l q
none l q =
    subst (λ (x : RecvPast). TellsBy x (past_of [] q) (confirm_of [] q) q) (sym (past_of-none l))
    record { closed = λ h. absurd (both_ways false refl h); known = λ u h. absurd (both_ways false refl u) }

all : (t : Terms) (g : List RecvEvent) (l q : ℕ) → IsLegal t g → TellsAt g l q
unfolding IsLegal
all t g l q legal = from t [] g l q (IsLegal-none t) (none l q) legal

-- what a lane tells of is closed
pub tells_closed : (r : PlainReceiver) (l q : ℕ) → IsReceiver r → has (past_at r l).telling q ≡ true → (past_at r q).is_closed ≡ true
tells_closed r l q is = (all (terms_of r) r.history l q is.legal).closed

-- what it told of on its connection is confirmed, or it isn't idle and tells of it
pub told_known : (r : PlainReceiver) (l q : ℕ) → IsReceiver r → (past_at r l).is_up ≡ true → has (past_at r l).told q ≡ true
    → (is_confirmed r.history q ≡ true) ⊎ (((past_at r l).is_idle ≡ false) × (has (past_at r l).telling q ≡ true))
told_known r l q is = (all (terms_of r) r.history l q is.legal).known

-- ---- a closed lane is there

in_lanes : (t : Terms) (g : List RecvEvent) (q : ℕ) (s : Bool) (e : RecvEvent) → IsAllowed t g e → (s ≡ true → q < t.lanes) → is_closed_after q s e ≡ true → q < t.lanes
in_lanes t g q s (events.Close k) a f x = go (k.0 == q) refl x
  where
    go : (b : Bool) → (k.0 == q) ≡ b → (if b then true else s) ≡ true → q < t.lanes
    go true is y = subst (λ (i : ℕ). i < t.lanes) (eqb-true k.0 q is) a.speaks.within
    go false is y = f y
in_lanes t g q s e a f x = f x

closed_from : (t : Terms) (b g : List RecvEvent) (q : ℕ) → ((past_of b q).is_closed ≡ true → q < t.lanes) → legal_from t b g → (past_of (b ++ g) q).is_closed ≡ true → q < t.lanes
closed_from t b [] q f legal e = f (ap (λ (h : List RecvEvent). (past_of h q).is_closed) (sym (append-nil b)) ∙ e)
closed_from t b (d ∷ g) q f legal e =
    closed_from t (b ++ d ∷ []) g q
    (λ x. in_lanes t b q (past_of b q).is_closed d legal.0 f (ap (λ (p : RecvPast). p.is_closed) (sym (past_of-append b (d ∷ []) q)) ∙ x)) legal.1
    (ap (λ (h : List RecvEvent). (past_of h q).is_closed) (append_assoc b (d ∷ []) g) ∙ e)

closed_in : (t : Terms) (g : List RecvEvent) (q : ℕ) → IsLegal t g → (past_of g q).is_closed ≡ true → q < t.lanes
unfolding IsLegal
closed_in t g q legal e = closed_from t [] g q (λ x. absurd (both_ways (past_of [] q).is_closed (ap (λ (p : RecvPast). p.is_closed) (past_of-none q)) x)) legal e

pub closed_there : (r : PlainReceiver) (q : ℕ) → IsReceiver r → (past_at r q).is_closed ≡ true → q < length r.lanes
closed_there r q is e = closed_in (terms_of r) r.history q is.legal e
