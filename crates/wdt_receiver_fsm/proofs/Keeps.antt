-- What notes keep is what the history says, behind each entry.
use Rattle.std.proofs.Common.{◌≡◌, ◌⊎◌, ℕ, zero, suc, ◌<◌, ◌≤◌, ◌&&◌, Bool, true, false, List, [], ◌∷◌, ◌++◌, replicate, Option, Some, None, inl, inr, refl, sym, ap, subst, ◌∙◌, arith}
use Rattle.wdt_units.specs.declared.limits.TheConstants.{MAX_LANES}
use Rattle.wdt_units.specs.declared.numbers.Lane.{Lane}
use Rattle.wdt_funnel.specs.Barrier.{Barrier, after, barrier_from, barrier_of, is_open, no_barrier, untold}
use Rattle.wdt_funnel.specs.Happenings.{Idled}
use Rattle.wdt_funnel.proofs.ForCallers as barriers
use Rattle.wdt_sender_fsm.specs.Rules.{every}
use Rattle.wdt_receiver_fsm.specs.declared.events.RecvEvent.{RecvEvent}
use Rattle.wdt_receiver_fsm.specs.declared.events.RecvEvent.TheVariants as events
use Rattle.wdt_receiver_fsm.specs.Ready as words
use Rattle.wdt_receiver_fsm.specs.ReceiverHistory.{EndPast, end_of, end_of-append, end_of-none, lane_of}
use Rattle.wdt_receiver_fsm.specs.Sets.{set_of}
use Rattle.wdt_receiver_fsm.specs.declared.common.Common.{Common}
use Rattle.wdt_receiver_fsm.specs.declared.tally.Tally.{Tally}
use Rattle.wdt_receiver_fsm.specs.Happened.{happening_of, happenings_of}
use Rattle.wdt_receiver_fsm.specs.Kept.{AreWithin, CanCount, CanPass, IsKept, TellsAll, counted_in, noted_in, tally_at}
use Rattle.wdt_receiver_fsm.specs.Notable.{IsWithin, KeepsLimits, MayNote}
use Rattle.wdt_receiver_fsm.specs.Tallies.{no_tally}
use Rattle.wdt_receiver_fsm.proofs.Sets.{on_of, untold_set}
use Rattle.wdt_receiver_fsm.proofs.Tallying.{can_count, many-more, tallied-more, tallied_none, tallies-more, tally_none}
use Rattle.wdt_receiver_fsm.proofs.Words as own

within-more : (n : ℕ) (g : List RecvEvent) (e : RecvEvent) → AreWithin n g → IsWithin n (lane_of e) → AreWithin n (g ++ e ∷ [])
within-more n [] e w h = (h, tt)
within-more n (d ∷ g) e w h = (w.0, within-more n g e w.1 h)

within_all : (n m : ℕ) (o : Option ℕ) → n ≤ m → IsWithin n o → IsWithin m o
within_all n m None le w = tt
within_all n m (Some l) le w = omega (arith, le, w)

module _ {n : ℕ} {ts : List Tally} {b : Barrier} {c : Common} {g : List RecvEvent} (kept : IsKept n ts b c g) where
  met-more : (e : RecvEvent) → (noted_in c e).met ≡ (end_of (g ++ e ∷ [])).met
  met-more e = ap (λ (m : _). (noted_in (record c { met = m }) e).met) kept.met ∙ sym (ap (λ (p : EndPast). p.met) (end_of-append g (e ∷ [])))

  sized-more : (e : RecvEvent) → (noted_in c e).sized ≡ (end_of (g ++ e ∷ [])).sized
  sized-more e = ap (λ (m : _). (noted_in (record c { sized = m }) e).sized) kept.sized ∙ sym (ap (λ (p : EndPast). p.sized) (end_of-append g (e ∷ [])))

  finish-more : (e : RecvEvent) → (noted_in c e).has_finish ≡ (end_of (g ++ e ∷ [])).has_finish
  finish-more e = ap (λ (m : Bool). (noted_in (record c { has_finish = m }) e).has_finish) kept.finish ∙ sym (ap (λ (p : EndPast). p.has_finish) (end_of-append g (e ∷ [])))

  -- one more entry
  pub kept-more : (e : RecvEvent) → MayNote n g e → IsKept n (counted_in ts e) (barrier_from b (happening_of e)) (noted_in c e) (g ++ e ∷ [])
  kept-more e may = record {
    few = kept.few;
    within = within-more n g e kept.within may.within;
    many = many-more ts e (lane_of e) ∙ kept.many;
    tallied = tallied-more ts g e (lane_of e) refl kept.many (within_all n MAX_LANES (lane_of e) kept.few may.within) kept.tallied;
    limits = tallies-more n g e may.limits kept.limits;
    barrier = ap (λ (x : Barrier). barrier_from x (happening_of e)) kept.barrier ∙ sym (barriers.goes_on n (happenings_of g) (happening_of e)) ∙ ap (barrier_of n) (sym (own.happenings-more g e));
    met = met-more e;
    sized = sized-more e;
    finish = finish-more e;
  }

  pub can_count_of : (e : RecvEvent) → MayNote n g e → CanCount ts e
  can_count_of e may = can_count n ts g e (lane_of e) refl kept.many (within_all n MAX_LANES (lane_of e) kept.few may.within) may.limits kept.tallied kept.limits

  -- the untold lanes are those of the funnel
  pub untold_kept : (l : ℕ) → untold b l ≡ set_of (words.untold n g l)
  untold_kept l = ap (λ (x : Barrier). untold x l) kept.barrier ∙ untold_set n g l kept.few kept.within

  tells_all : (e : RecvEvent) → KeepsLimits n g e → TellsAll b e
  tells_all (events.Told k set) limits = limits ∙ sym (untold_kept k.0)
  tells_all (events.Take k conn) limits = tt
  tells_all (events.NoLink k) limits = tt
  tells_all (events.Met k settings) limits = tt
  tells_all (events.Sized k files bytes) limits = tt
  tells_all (events.Begin k block) limits = tt
  tells_all (events.Land k) limits = tt
  tells_all (events.Dropped k) limits = tt
  tells_all (events.Idle k) limits = tt
  tells_all (events.Close k) limits = tt
  tells_all events.Finish limits = tt
  tells_all (events.Acked k) limits = tt
  tells_all (events.Quit k) limits = tt
  tells_all (events.Abort k code) limits = tt
  tells_all (events.Peer k kind) limits = tt

  pub lanes_kept : b.lanes ≡ n
  lanes_kept = ap (λ (x : Barrier). x.lanes) kept.barrier ∙ barriers.lanes_of n (happenings_of g)

  -- an entry can be passed on
  pub can_pass_of : (e : RecvEvent) → MayNote n g e → CanPass b e
  can_pass_of e may = record { within = subst (λ (m : ℕ). IsWithin m (lane_of e)) (sym lanes_kept) may.within; tells = tells_all e may.limits }

  pub ready_kept : is_open b ≡ words.is_ready n g
  ready_kept = ap is_open kept.barrier ∙ barriers.ready_of n (happenings_of g) kept.few (on_of n g kept.within) ∙ own.ready_of n g kept.few

  -- as it would be if a lane became idle
  pub ready_with : (l : Lane) → l.0 < n → is_open (after b (Idled l.0)) ≡ words.is_ready n (g ++ events.Idle l ∷ [])
  ready_with l lt =
      ap (λ (x : Barrier). is_open (after x (Idled l.0))) kept.barrier
      ∙ ap is_open (sym (barriers.goes_on n (happenings_of g) (Idled l.0 ∷ [])) ∙ ap (barrier_of n) (sym (own.happenings-more g (events.Idle l))))
      ∙ barriers.ready_of n (happenings_of (g ++ events.Idle l ∷ [])) kept.few (on_of n (g ++ events.Idle l ∷ []) (within-more n g (events.Idle l) kept.within lt))
      ∙ own.ready_of n (g ++ events.Idle l ∷ []) kept.few

new_at : (m l : ℕ) → tally_at (replicate m no_tally) l ≡ no_tally
new_at zero l = refl
new_at (suc m) zero = refl
new_at (suc m) (suc l) = new_at m l

-- nothing has happened
pub kept_none : (n : ℕ) → n ≤ MAX_LANES → IsKept n (replicate 16 no_tally) (no_barrier n) (record { met = None; sized = None; has_finish = false }) []
unfolding barrier_of
kept_none n few = record {
  few = few;
  within = tt;
  many = refl;
  tallied = tallied_none (replicate 16 no_tally) (λ l lt. new_at 16 l);
  limits = λ l lt. tally_none l;
  barrier = refl;
  met = sym (ap (λ (p : EndPast). p.met) end_of-none);
  sized = sym (ap (λ (p : EndPast). p.sized) end_of-none);
  finish = sym (ap (λ (p : EndPast). p.has_finish) end_of-none);
}

-- ---- every lane

pub every_false : (n i : ℕ) (f : ℕ → Bool) → i < n → f i ≡ false → false ≡ every n f
every_false zero i f lt none = absurd (omega (arith, lt))
every_false (suc n) i f lt none = go (last_or_less i n lt) (λ less. every_false n i f less none)
  where
    last_or_less : (i n : ℕ) → i < suc n → (i ≡ n) ⊎ (i < n)
    last_or_less i n lt = search arith

    and_false : (a b : Bool) → b ≡ false → (a && b) ≡ false
    and_false true b e = e
    and_false false b e = refl

    go : (i ≡ n) ⊎ (i < n) → (i < n → false ≡ every n f) → false ≡ (every n f && f n)
    go (inl e) before = sym (and_false (every n f) (f n) (ap f (sym e) ∙ none))
    go (inr less) before = ap (λ (b : Bool). b && f n) (before less)
