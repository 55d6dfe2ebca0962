-- Behind a finish as much is there as was told.
use Rattle.std.proofs.Common.{◌≡◌, ◌≢◌, ◌⊎◌, inl, inr, ℕ, zero, suc, ◌<◌, ◌≤◌, ◌==◌, ◌&&◌, not, Bool, true, false, List, [], ◌∷◌, ◌++◌, Option, Some}
use Rattle.std.proofs.Common.{None, if◌then◌else◌, refl, sym, ap, ◌∙◌, subst, arith, append_assoc, append-nil}
use Rattle.std.proofs.lemmas.Bool.{and_parts, both_ways, cases_eq, cases_lt, ne_eqb, or_cases}
use Rattle.wdt_units.specs.declared.blocks.Block.{Block}
use Rattle.wdt_units.specs.declared.numbers.Lane.{Lane}
use Rattle.wdt_logfmt.specs.Marks.{bytes_in, files_in, marks_of}
use Rattle.wdt_sender_fsm.specs.Rules.{every}
use Rattle.wdt_receiver_fsm.specs.declared.events.RecvEvent.{RecvEvent}
use Rattle.wdt_receiver_fsm.specs.declared.events.RecvEvent.TheVariants.{Take, NoLink, Met, Sized, Begin, Land, Dropped, Idle, Told, Close, Finish, Acked, Quit, Abort, Peer}
use Rattle.wdt_receiver_fsm.specs.Legal.{IsAllowed, IsLegal, IsLegal-more, IsLegal-none, Terms, legal_from, marks_by}
use Rattle.wdt_receiver_fsm.specs.PlainReceiver.{PlainReceiver, has_finish, marks_at}
use Rattle.wdt_receiver_fsm.specs.Ready.{is_busy, is_known_closed, rests}
use Rattle.wdt_receiver_fsm.specs.Receiver.{IsReceiver, terms_of}
use Rattle.wdt_receiver_fsm.specs.ReceiverHistory.{RecvPast, begun_after, end_after, end_of, end_of-append, end_of-none, is_idle_after}
use Rattle.wdt_receiver_fsm.specs.ReceiverHistory.{lands_none, past_after, past_of, past_of-append, past_of-none}
use Rattle.wdt_receiver_fsm.proofs.ForCallers.{landed_same, legal_sound}

-- ---- tests

last : (n l : ℕ) → l < suc n → n ≤ l → n ≡ l
last n l within ge = omega (arith, within, ge)

every_at : (n : ℕ) (f : ℕ → Bool) → every n f ≡ true → (l : ℕ) → l < n → f l ≡ true
every_at zero f all l within = absurd (omega (arith, within))
every_at (suc n) f all l within = go (every_at n f (and_parts (every n f) (f n) all).0 l) (cases_lt l n) where
  go : (l < n → f l ≡ true) → (l < n) ⊎ (n ≤ l) → f l ≡ true
  go more (inl lt) = more lt
  go more (inr ge) = subst (λ (k : ℕ). f k ≡ true) (last n l within ge) (and_parts (every n f) (f n) all).1

none_if : {A : Type 0} (b : Bool) (x : Option A) → x ≡ None → (if b then None else x) ≡ None
none_if true x e = refl
none_if false x e = e

-- ---- what a legal history keeps

-- an idle lane has no begun block; and behind a finish no lane has, and as much is there as was told
record Kept (t : Terms) (g : List RecvEvent) : Type 0 where
  idle : (l : ℕ) → (past_of g l).is_idle ≡ true → (past_of g l).begun ≡ None
  clear : (end_of g).has_finish ≡ true → (l : ℕ) → l < t.lanes → (past_of g l).begun ≡ None
  whole : (end_of g).has_finish ≡ true → (end_of g).sized ≡ Some (files_in (marks_by t g), bytes_in (marks_by t g))

kept_none : (t : Terms) → Kept t []
kept_none t =
    record {
      idle = λ l is. ap (λ p. p.begun) (past_of-none l);
      clear = λ is. absurd (both_ways _ (ap (λ p. p.has_finish) end_of-none) is);
      whole = λ is. absurd (both_ways _ (ap (λ p. p.has_finish) end_of-none) is);
    }

module _ (t : Terms) (g : List RecvEvent) (kept : Kept t g) (e : RecvEvent) where
  abbrev p : ℕ → RecvPast
  p l = past_of g l

  -- the pasts behind the entry, as they follow from those before
  past_is : (l : ℕ) → past_of (g ++ e ∷ []) l ≡ past_after l (p l) e
  past_is l = past_of-append g (e ∷ []) l

  end_is : end_of (g ++ e ∷ []) ≡ end_after (end_of g) e
  end_is = end_of-append g (e ∷ [])

  abbrev IdleBehind : Type 0
  IdleBehind = (l : ℕ) → is_idle_after l (p l).is_idle e ≡ true → begun_after l (p l).begun e ≡ None

  abbrev ClearBehind : Type 0
  ClearBehind = (end_after (end_of g) e).has_finish ≡ true → (l : ℕ) → l < t.lanes → begun_after l (p l).begun e ≡ None

  abbrev WholeBehind : Type 0
  WholeBehind = (end_after (end_of g) e).has_finish ≡ true → (end_after (end_of g) e).sized ≡ Some (
    files_in (marks_by t (g ++ e ∷ [])),
    bytes_in
        (marks_by t (g ++ e ∷ [])),
  )

  kept_from : IdleBehind → ClearBehind → WholeBehind → Kept t (g ++ e ∷ [])
  kept_from idle clear whole =
      record {
        idle = λ l is. ap (λ q. q.begun) (past_is l) ∙ idle l (sym (ap (λ q. q.is_idle) (past_is l)) ∙ is);
        clear = λ is l within. ap (λ q. q.begun) (past_is l) ∙ clear (sym (ap (λ q. q.has_finish) end_is) ∙ is) l within;
        whole = λ is. ap (λ q. q.sized) end_is ∙ whole (sym (ap (λ q. q.has_finish) end_is) ∙ is);
      }

  -- nothing lands by it
  marks_same : lands_none e ≡ true → marks_by t (g ++ e ∷ []) ≡ marks_by t g
  marks_same none = ap (λ (bs : List Block). marks_of t.opening bs) (landed_same g e none)

  whole_same : lands_none e ≡ true → (end_of g).sized ≡ Some (files_in (marks_by t g), bytes_in (marks_by t g))
      → (end_of g).sized ≡ Some (files_in (marks_by t (g ++ e ∷ [])), bytes_in (marks_by t (g ++ e ∷ [])))
  whole_same none is = is ∙ ap (λ ms. Some (files_in ms, bytes_in ms)) (sym (marks_same none))

idle_if : (b : Bool) (is : Bool) (x : Option Block) → (is ≡ true → x ≡ None) → (if b then false else is) ≡ true → x ≡ None
idle_if true is x h e = cc
idle_if false is x h e = h e

dropped_if : (b : Bool) (is : Bool) (x : Option Block) → (is ≡ true → x ≡ None) → (if b then false else is) ≡ true → (if b then None else x) ≡ None
dropped_if true is x h e = refl
dropped_if false is x h e = h e

module _ (t : Terms) (g : List RecvEvent) (legal : IsLegal t g) (kept : Kept t g) where
  begins : (k : Lane) (b : Block) → IsAllowed t g (Begin k b) → Kept t (g ++ Begin k b ∷ [])
  begins k b allowed =
      kept_from t g kept (Begin k b)
      (λ l is. go l is (cases_eq k.0 l))
      (λ is. absurd (both_ways _ allowed.fits.finish is))
      (λ is. absurd (both_ways _ allowed.fits.finish is))
    where
      go : (l : ℕ) → (past_of g l).is_idle ≡ true → (k.0 ≡ l) ⊎ (k.0 ≢ l) → (if k.0 == l then Some b else (past_of g l).begun) ≡ None
      go l is (inl same) = absurd (both_ways _ (subst (λ (j : ℕ). (past_of g j).is_idle ≡ false) same allowed.fits.idle) is)
      go l is (inr ne) = rw (ne_eqb k.0 l ne) (kept.idle l is)

  lands : (k : Lane) → IsAllowed t g (Land k) → Kept t (g ++ Land k ∷ [])
  lands k allowed =
      kept_from t g kept (Land k)
      (λ l is. none_if (k.0 == l) (past_of g l).begun (kept.idle l is))
      (λ is l within. none_if (k.0 == l) (past_of g l).begun (kept.clear is l within))
      (λ is. absurd (allowed.fits (kept.clear is k.0 allowed.speaks.within)))

  drops : (k : Lane) → IsAllowed t g (Dropped k) → Kept t (g ++ Dropped k ∷ [])
  drops k allowed =
      kept_from t g kept (Dropped k)
      (λ l is. dropped_if (k.0 == l) (past_of g l).is_idle (past_of g l).begun (kept.idle l) is)
      (λ is l within. none_if (k.0 == l) (past_of g l).begun (kept.clear is l within))
      (λ is. whole_same t g kept (Dropped k) refl (kept.whole is))

  idles : (k : Lane) → IsAllowed t g (Idle k) → Kept t (g ++ Idle k ∷ [])
  idles k allowed =
      kept_from t g kept (Idle k)
      (λ l is. go l is (cases_eq k.0 l))
      kept.clear
      (λ is. whole_same t g kept (Idle k) refl (kept.whole is))
    where
      go : (l : ℕ) → (if k.0 == l then true else (past_of g l).is_idle) ≡ true → (k.0 ≡ l) ⊎ (k.0 ≢ l) → (past_of g l).begun ≡ None
      go l is (inl same) = subst (λ (j : ℕ). (past_of g j).begun ≡ None) same allowed.fits
      go l is (inr ne) = kept.idle l (sym (ap (λ (b : Bool). if b then true else (past_of g l).is_idle) (ne_eqb k.0 l ne)) ∙ is)

  tells : (k : Lane) (q : _) → IsAllowed t g (Told k q) → Kept t (g ++ Told k q ∷ [])
  tells k q allowed =
      kept_from t g kept (Told k q)
      (λ l is. idle_if (k.0 == l) (past_of g l).is_idle (past_of g l).begun (kept.idle l) is)
      kept.clear
      (λ is. whole_same t g kept (Told k q) refl (kept.whole is))

  sizes : (k : Lane) (files bytes : ℕ) → IsAllowed t g (Sized k files bytes) → Kept t (g ++ Sized k files bytes ∷ [])
  sizes k files bytes allowed =
      kept_from t g kept (Sized k files bytes) kept.idle kept.clear
      (λ is. absurd (none_some (sym allowed.fits.0 ∙ kept.whole is)))
    where
      none_some : {A : Type 0} {x : A} → None ≡ Some x → ⊥
      none_some e = cc

  -- the finish is ready, so each lane is idle or closed
  finishes : IsAllowed t g Finish → Kept t (g ++ Finish ∷ [])
  finishes allowed =
      kept_from t g kept Finish kept.idle
      (λ is l within. go l (or_cases (past_of g l).is_idle (past_of g l).is_closed (every_at t.lanes (rests g) resting l within)))
      (λ is. whole_same t g kept Finish refl allowed.fits.whole)
    where
      resting : every t.lanes (rests g) ≡ true
      resting =
          let both = and_parts (every t.lanes (rests g) && not (every t.lanes (is_busy g))) (every t.lanes (is_known_closed g)) allowed.fits.ready in
          (and_parts (every t.lanes (rests g)) (not (every t.lanes (is_busy g))) both.0).0

      go : (l : ℕ) → ((past_of g l).is_idle ≡ true) ⊎ ((past_of g l).is_closed ≡ true) → (past_of g l).begun ≡ None
      go l (inl idle) = kept.idle l idle
      go l (inr closed) = let sound = legal_sound t g l legal in (sound.off (sound.closed closed).0).begun

  kept_more : (e : RecvEvent) → IsAllowed t g e → Kept t (g ++ e ∷ [])
  kept_more (Begin k b) allowed = begins k b allowed
  kept_more (Land k) allowed = lands k allowed
  kept_more (Dropped k) allowed = drops k allowed
  kept_more (Idle k) allowed = idles k allowed
  kept_more (Told k q) allowed = tells k q allowed
  kept_more (Sized k files bytes) allowed = sizes k files bytes allowed
  kept_more Finish allowed = finishes allowed
  kept_more (Take k c) allowed = kept_from t g kept (Take k c) kept.idle kept.clear (λ is. whole_same t g kept (Take k c) refl (kept.whole is))
  kept_more (NoLink k) allowed = kept_from t g kept (NoLink k) kept.idle kept.clear (λ is. whole_same t g kept (NoLink k) refl (kept.whole is))
  kept_more (Met k s) allowed = kept_from t g kept (Met k s) kept.idle kept.clear (λ is. whole_same t g kept (Met k s) refl (kept.whole is))
  kept_more (Close k) allowed = kept_from t g kept (Close k) kept.idle kept.clear (λ is. whole_same t g kept (Close k) refl (kept.whole is))
  kept_more (Acked k) allowed = kept_from t g kept (Acked k) kept.idle kept.clear (λ is. whole_same t g kept (Acked k) refl (kept.whole is))
  kept_more (Quit k) allowed = kept_from t g kept (Quit k) kept.idle kept.clear (λ is. whole_same t g kept (Quit k) refl (kept.whole is))
  kept_more (Abort k code) allowed = kept_from t g kept (Abort k code) kept.idle kept.clear (λ is. whole_same t g kept (Abort k code) refl (kept.whole is))
  kept_more (Peer k kind) allowed = kept_from t g kept (Peer k kind) kept.idle kept.clear (λ is. whole_same t g kept (Peer k kind) refl (kept.whole is))

-- ---- whole histories

kept_along : (t : Terms) (g es : List RecvEvent) → IsLegal t g → Kept t g → legal_from t g es → Kept t (g ++ es)
kept_along t g [] legal kept more = subst (λ (x : List RecvEvent). Kept t x) (sym (append-nil g)) kept
kept_along t g (e ∷ es) legal kept more =
    subst (λ (x : List RecvEvent). Kept t x) (append_assoc g (e ∷ []) es)
    (kept_along t (g ++ e ∷ []) es (IsLegal-more t g e legal more.0) (kept_more t g legal kept e more.0) more.1)

all_kept : (t : Terms) (g : List RecvEvent) → IsLegal t g → Kept t g
unfolding IsLegal
all_kept t g legal = kept_along t [] g (IsLegal-none t) (kept_none t) legal

pub finish_whole : (r : PlainReceiver) → IsReceiver r → has_finish r ≡ true → (end_of r.history).sized ≡ Some (files_in (marks_at r), bytes_in (marks_at r))
finish_whole r is finish = (all_kept (terms_of r) r.history is.legal).whole finish
