-- A tally is what the past of its lane says, behind each entry.
use Rattle.std.proofs.Common.{◌≡◌, ◌≢◌, inl, inr, ℕ, ◌+◌, ◌<◌, List, [], ◌∷◌, ◌++◌, length, length-append, slice_set, Option, Some, None, refl, sym, ap, subst, ◌∙◌, arith}
use Rattle.std.proofs.lemmas.Bool.{eq-eqb, ne_eqb}
use Rattle.std.proofs.lemmas.Bool.Decides.{eqb_tells}
use Rattle.std.proofs.lemmas.List.{get_or-set_same, get_or-set_other, length-set}
use Rattle.std.proofs.lemmas.Option.{same_Some}
use Rattle.wdt_units.specs.declared.blocks.Block.{Block}
use Rattle.wdt_units.specs.declared.limits.TheConstants.{MAX_BLOCKS, MAX_CONNECTIONS, MAX_LANES, MAX_TRIES}
use Rattle.wdt_receiver_fsm.specs.declared.events.RecvEvent.{RecvEvent}
use Rattle.wdt_receiver_fsm.specs.declared.events.RecvEvent.TheVariants as events
use Rattle.wdt_receiver_fsm.specs.ReceiverHistory.{RecvPast, lane_of, past_after, past_of, past_of-append, past_of-none, with_begun}
use Rattle.wdt_receiver_fsm.specs.declared.tally.Tally.{Tally}
use Rattle.wdt_receiver_fsm.specs.Kept.{CanCountFor, counted_by, tally_at}
use Rattle.wdt_receiver_fsm.specs.Notable.{IsWithin, KeepsLimits}
use Rattle.wdt_receiver_fsm.specs.Tallies.{IsTally, counted, no_tally, one_begun, tally_of}

length_with : (s : List Block) (b : Option Block) → length (with_begun s b) ≡ length s + one_begun b
length_with s None = omega arith
length_with s (Some b) = length-append s (b ∷ [])

-- an entry of the lane is counted
here : (e : RecvEvent) (l : ℕ) (past : RecvPast) → lane_of e ≡ Some l → tally_of (past_after l past e) ≡ counted (tally_of past) e
here (events.Take k conn) l past is = rw (eq-eqb k.0 l (same_Some _ _ is)) refl
here (events.NoLink k) l past is = rw (eq-eqb k.0 l (same_Some _ _ is)) refl
here (events.Met k settings) l past is = refl
here (events.Sized k files bytes) l past is = refl
here (events.Begin k b) l past is = rw (eq-eqb k.0 l (same_Some _ _ is)) refl
here (events.Land k) l past is = rw (eq-eqb k.0 l (same_Some _ _ is)) (ap (λ (n : ℕ). let t : Tally = record (tally_of past) { landed = n; begun = None } in t) (length_with past.landed past.begun))
here (events.Dropped k) l past is = rw (eq-eqb k.0 l (same_Some _ _ is)) refl
here (events.Idle k) l past is = refl
here (events.Told k set) l past is = refl
here (events.Close k) l past is = rw (eq-eqb k.0 l (same_Some _ _ is)) refl
here events.Finish l past is = refl
here (events.Acked k) l past is = rw (eq-eqb k.0 l (same_Some _ _ is)) refl
here (events.Quit k) l past is = refl
here (events.Abort k code) l past is = refl
here (events.Peer k kind) l past is = refl

-- an entry of no lane or of another changes nothing
elsewhere : (e : RecvEvent) (l : ℕ) (past : RecvPast) → lane_of e ≢ Some l → tally_of (past_after l past e) ≡ tally_of past
elsewhere (events.Take k conn) l past not = rw (ne_eqb k.0 l (λ e. not (ap (λ (n : ℕ). Some n) e))) refl
elsewhere (events.NoLink k) l past not = rw (ne_eqb k.0 l (λ e. not (ap (λ (n : ℕ). Some n) e))) refl
elsewhere (events.Met k settings) l past not = refl
elsewhere (events.Sized k files bytes) l past not = refl
elsewhere (events.Begin k b) l past not = rw (ne_eqb k.0 l (λ e. not (ap (λ (n : ℕ). Some n) e))) refl
elsewhere (events.Land k) l past not = rw (ne_eqb k.0 l (λ e. not (ap (λ (n : ℕ). Some n) e))) refl
elsewhere (events.Dropped k) l past not = rw (ne_eqb k.0 l (λ e. not (ap (λ (n : ℕ). Some n) e))) refl
elsewhere (events.Idle k) l past not = refl
elsewhere (events.Told k set) l past not = refl
elsewhere (events.Close k) l past not = rw (ne_eqb k.0 l (λ e. not (ap (λ (n : ℕ). Some n) e))) refl
elsewhere events.Finish l past not = refl
elsewhere (events.Acked k) l past not = rw (ne_eqb k.0 l (λ e. not (ap (λ (n : ℕ). Some n) e))) refl
elsewhere (events.Quit k) l past not = refl
elsewhere (events.Abort k code) l past not = refl
elsewhere (events.Peer k kind) l past not = refl

tally-more : (g : List RecvEvent) (e : RecvEvent) (l : ℕ) → tally_of (past_of (g ++ e ∷ []) l) ≡ tally_of (past_after l (past_of g l) e)
tally-more g e l = ap tally_of (past_of-append g (e ∷ []) l)

-- the tallies say of each lane what its past says
abbrev pub AreTallied : List Tally → List RecvEvent → Type 0
AreTallied tallies g = (l : ℕ) → l < MAX_LANES → tally_at tallies l ≡ tally_of (past_of g l)

pub tallied-more : (tallies : List Tally) (g : List RecvEvent) (e : RecvEvent) (o : Option ℕ) → lane_of e ≡ o → length tallies ≡ MAX_LANES → IsWithin MAX_LANES o → AreTallied tallies g
    → AreTallied (counted_by o tallies e) (g ++ e ∷ [])
tallied-more tallies g e None is many within are l lt = are l lt ∙ sym (tally-more g e l ∙ elsewhere e l (past_of g l) (λ some. none (sym is ∙ some)))
  where
    none : {k : ℕ} → None ≡ Some k → ⊥
    none h = cc
tallied-more tallies g e (Some k) is many within are l lt = elim (eqb_tells k l) [ inl h ↦ same h.1 | inr h ↦ other (λ eq. h.1 eq) ]
  where
    new : Tally
    new = counted (tally_at tallies k) e

    same : k ≡ l → tally_at (slice_set tallies k (counted (tally_at tallies k) e)) l ≡ tally_of (past_of (g ++ e ∷ []) l)
    same eq =
        ap (λ (n : ℕ). tally_at (slice_set tallies k (counted (tally_at tallies k) e)) n) (sym eq)
        ∙ get_or-set_same tallies k (counted (tally_at tallies k) e) no_tally (omega (arith, within, many))
        ∙ ap (λ (t : Tally). counted t e) (are k within) ∙ sym (here e k (past_of g k) is) ∙ sym (tally-more g e k) ∙ ap (λ (n : ℕ). tally_of (past_of (g ++ e ∷ []) n)) eq

    other : (k ≢ l) → tally_at (slice_set tallies k (counted (tally_at tallies k) e)) l ≡ tally_of (past_of (g ++ e ∷ []) l)
    other ne =
        get_or-set_other tallies k l (counted (tally_at tallies k) e) no_tally (λ h. ne (sym h)) ∙ are l lt
        ∙ sym (tally-more g e l ∙ elsewhere e l (past_of g l) (λ some. ne (same_Some _ _ (sym is ∙ some))))

pub many-more : (tallies : List Tally) (e : RecvEvent) (o : Option ℕ) → length (counted_by o tallies e) ≡ length tallies
many-more tallies e None = refl
many-more tallies e (Some l) = length-set tallies l (counted (tally_at tallies l) e)

-- ---- limits

pub stays_tally : (n : ℕ) (g : List RecvEvent) (e : RecvEvent) (l : ℕ) → lane_of e ≡ Some l → KeepsLimits n g e → IsTally (tally_of (past_of g l)) → IsTally (counted (tally_of (past_of g l)) e)
stays_tally n g (events.Take k conn) l is limits t =
    let few : (past_of g l).takes < MAX_CONNECTIONS = subst (λ (m : ℕ). (past_of g m).takes < MAX_CONNECTIONS) (same_Some _ _ is) limits in
    record { landed = t.landed; takes = omega (arith, few); failed_tries = t.failed_tries }
stays_tally n g (events.NoLink k) l is limits t =
    let few : (past_of g l).failed_tries < MAX_TRIES = subst (λ (m : ℕ). (past_of g m).failed_tries < MAX_TRIES) (same_Some _ _ is) limits in
    record { landed = t.landed; takes = t.takes; failed_tries = omega (arith, few) }
stays_tally n g (events.Begin k b) l is limits t =
    let few : length (past_of g l).landed < MAX_BLOCKS = subst (λ (m : ℕ). length (past_of g m).landed < MAX_BLOCKS) (same_Some _ _ is) limits in
    record { landed = omega (arith, few); takes = t.takes; failed_tries = t.failed_tries }
stays_tally n g (events.Land k) l is limits t = record { landed = omega (arith, t.landed); takes = t.takes; failed_tries = t.failed_tries }
stays_tally n g (events.Dropped k) l is limits t = record { landed = omega (arith, t.landed); takes = t.takes; failed_tries = t.failed_tries }
stays_tally n g (events.Close k) l is limits t = record { landed = t.landed; takes = t.takes; failed_tries = t.failed_tries }
stays_tally n g (events.Acked k) l is limits t = record { landed = t.landed; takes = t.takes; failed_tries = t.failed_tries }
stays_tally n g (events.Met k settings) l is limits t = t
stays_tally n g (events.Sized k files bytes) l is limits t = t
stays_tally n g (events.Idle k) l is limits t = t
stays_tally n g (events.Told k set) l is limits t = t
stays_tally n g events.Finish l is limits t = t
stays_tally n g (events.Quit k) l is limits t = t
stays_tally n g (events.Abort k code) l is limits t = t
stays_tally n g (events.Peer k kind) l is limits t = t

pub tallies-more : (n : ℕ) (g : List RecvEvent) (e : RecvEvent) → KeepsLimits n g e → ((l : ℕ) → l < MAX_LANES → IsTally (tally_of (past_of g l))) → (l : ℕ) → l < MAX_LANES
    → IsTally (tally_of (past_of (g ++ e ∷ []) l))
tallies-more n g e limits are l lt = go (lane_of e) refl
  where
    go : (o : Option ℕ) → lane_of e ≡ o → IsTally (tally_of (past_of (g ++ e ∷ []) l))
    go None is = subst IsTally (sym (tally-more g e l ∙ elsewhere e l (past_of g l) (λ some. none (sym is ∙ some)))) (are l lt)
      where
        none : {k : ℕ} → None ≡ Some k → ⊥
        none h = cc
    go (Some k) is = elim (eqb_tells k l) [ inl h ↦ same h.1 | inr h ↦ other (λ eq. h.1 eq) ]
      where
        same : k ≡ l → IsTally (tally_of (past_of (g ++ e ∷ []) l))
        same eq =
            let mine : lane_of e ≡ Some l = is ∙ ap (λ (m : ℕ). Some m) eq in
            subst IsTally (sym (tally-more g e l ∙ here e l (past_of g l) mine)) (stays_tally n g e l mine limits (are l lt))

        other : (k ≢ l) → IsTally (tally_of (past_of (g ++ e ∷ []) l))
        other ne = subst IsTally (sym (tally-more g e l ∙ elsewhere e l (past_of g l) (λ some. ne (same_Some _ _ (sym is ∙ some))))) (are l lt)

-- an entry can be counted
pub can_count : (n : ℕ) (tallies : List Tally) (g : List RecvEvent) (e : RecvEvent) (o : Option ℕ) → lane_of e ≡ o → length tallies ≡ MAX_LANES → IsWithin MAX_LANES o → KeepsLimits n g e
    → AreTallied tallies g
    → ((l : ℕ) → l < MAX_LANES → IsTally (tally_of (past_of g l))) → CanCountFor o tallies e
can_count n tallies g e None is many within limits are tallied = tt
can_count n tallies g e (Some l) is many within limits are tallied =
    (omega (arith, within, many), subst (λ (t : Tally). IsTally (counted t e)) (sym (are l within)) (stays_tally n g e l is limits (tallied l within)))

-- nothing has happened
pub tallied_none : (tallies : List Tally) → ((l : ℕ) → l < MAX_LANES → tally_at tallies l ≡ no_tally) → AreTallied tallies []
tallied_none tallies new l lt = new l lt ∙ sym (ap tally_of (past_of-none l))

pub tally_none : (l : ℕ) → IsTally (tally_of (past_of [] l))
tally_none l = subst IsTally (sym (ap tally_of (past_of-none l))) record { landed = omega arith; takes = omega arith; failed_tries = omega arith }
