-- No world stands still before all its lanes have stopped.
use Rattle.std.proofs.Common.{◌≡◌, ◌⊎◌, inl, inr, ℕ, zero, suc, ◌<◌, ◌≤◌, ◌==◌, ◌||◌, ◌&&◌, not, Bool, true, false, if◌then◌else◌, List, [], ◌∷◌, ◌++◌, length, filter, subst, sym, ap, ◌∙◌, refl, arith, append-nil, append_assoc, eq-eqb, eqb-true}
use Rattle.std.proofs.lemmas.Bool.{and_from, both_ways, cases_lt, false_from_ne_true, or_cases}
use Rattle.std.proofs.lemmas.List.Folds.{list_any-append}
use Rattle.wdt_units.specs.declared.blocks.Block.{Block}
use Rattle.wdt_codec.specs.declared.frames.Frame.TheVariants as frames
use Rattle.wdt_codec.specs.declared.frames.Settings.{Settings}
use Rattle.wdt_sender_fsm.specs.Rules.{by_voice, every, is_failure}
use Rattle.wdt_receiver_fsm.specs.declared.acts.RecvAct.TheVariants as acts
use Rattle.wdt_receiver_fsm.specs.declared.events.RecvEvent.{RecvEvent}
use Rattle.wdt_receiver_fsm.specs.declared.events.RecvEvent.TheVariants as events
use Rattle.wdt_receiver_fsm.specs.declared.inputs.RecvIn.{RecvIn}
use Rattle.wdt_receiver_fsm.specs.declared.inputs.RecvIn.TheVariants as inputs
use Rattle.wdt_receiver_fsm.specs.declared.states.RecvState.TheVariants as states
use Rattle.wdt_receiver_fsm.specs.Legal.{IsAllowed, IsLegal, Terms, legal_from}
use Rattle.wdt_receiver_fsm.specs.Outcomes as outcomes
use Rattle.wdt_receiver_fsm.specs.Outcomes.{ComesOf, Outcome, Rested, Left, Warned, Failed, GivenUp, Listened, Linked, Greeted, Listed, ReadOn, Sized, Begun, Taken, Concluded, Told, Waited, Ended, Acknowledged, came_to}
use Rattle.wdt_receiver_fsm.specs.Outcomes.{ByDone, ByWait, ByWaking, OfMemory, OfSender, OfPeer, OfShort, OfMake, OfWrite, OfLog, OfFinish}
use Rattle.wdt_receiver_fsm.specs.PlainReceiver.{PlainReceiver, can_finish, failed, has_finish, lane_at, past_at, state_at, untold_at}
use Rattle.wdt_receiver_fsm.specs.Ready.{is_busy, is_confirmed, is_known_closed, is_untold, rests}
use Rattle.wdt_receiver_fsm.specs.Receiver.{Fares, terms_of}
use Rattle.wdt_receiver_fsm.specs.ReceiverHistory.{EndPast, RecvPast, end_of, end_of-append, has_finish_after, has_quit_after, is_acked_after, past_of, past_of-append, past_of-none}
use Rattle.wdt_receiver_fsm.specs.Sets.{has, numbers}
use Rattle.wdt_receiver_fsm.specs.Turn.{Given, Step, begins_by, greets_by, leaves, meets, tells_failure, turn_plan}
use Rattle.wdt_receiver_fsm.proofs.ForCallers.{end_comes}
use Rattle.wdt_pact.specs.Belongs.{RecvBelongs}
use Rattle.wdt_pact.specs.Fitting.{IsSound}
use Rattle.wdt_pact.specs.Pairs.{RecvHold, RecvDoes, recv_stops}
use Rattle.wdt_pact.specs.Progress.{GoesOn, HasStopped, Moves, Wakes, is_parked}
use Rattle.wdt_pact.specs.World.{PlainWorld, number, pair_at, recv_turn}
use Rattle.wdt_pact.proofs.Finishing.{every_at}
use Rattle.wdt_pact.proofs.Moving.{lane_moves}
use Rattle.wdt_pact.proofs.RecvHands.{is_woken, same_input}
use Rattle.wdt_pact.proofs.RecvRows.{ends_in, recv_fares}
use Rattle.wdt_pact.proofs.ToldLanes.{told_known}

-- ---- lists of lanes

or_left : (a b : Bool) → a ≡ true → (a || b) ≡ true
or_left a b e = ap (λ (x : Bool). x || b) e

or_right : (a b : Bool) → b ≡ true → (a || b) ≡ true
or_right true b e = refl
or_right false b e = e

every_from : (n : ℕ) (f : ℕ → Bool) → ((k : ℕ) → k < n → f k ≡ true) → every n f ≡ true
every_from zero f e = refl
every_from (suc n) f e = and_from (every n f) (f n) (every_from n f (λ k small. e k (omega (arith, small)))) (e n (omega arith))

none_filter : (f : ℕ → Bool) (xs : List ℕ) (k : ℕ) → filter f xs ≡ [] → has xs k ≡ true → f k ≡ false
none_filter f [] k e h = cc
none_filter f (x ∷ xs) k e h = go (f x) refl e (none_filter f xs k) (or_cases (x == k) (has xs k) h) where
  go : (b : Bool) → f x ≡ b → (if b then x ∷ filter f xs else filter f xs) ≡ [] → (filter f xs ≡ [] → has xs k ≡ true → f k ≡ false)
      → ((x == k) ≡ true) ⊎ (has xs k ≡ true) → f k ≡ false
  go true is y more z = cc
  go false is y more (inl z) = ap f (sym (eqb-true x k z)) ∙ is
  go false is y more (inr z) = more y z

pub in_numbers : (n k : ℕ) → k < n → has (numbers n) k ≡ true
in_numbers zero k small = absurd (omega (arith, small))
in_numbers (suc n) k small = list_any-append (λ (j : ℕ). j == k) (numbers n) (n ∷ []) ∙ go (in_numbers n k) (cases_lt k n) where
  go : (k < n → has (numbers n) k ≡ true) → (k < n) ⊎ (n ≤ k) → (has (numbers n) k || ((n == k) || false)) ≡ true
  go before (inl x) = ap (λ (b : Bool). b || ((n == k) || false)) (before x)
  go before (inr x) = or_right (has (numbers n) k) ((n == k) || false) (ap (λ (b : Bool). b || false) (eq-eqb n k (omega (arith, x, small))))

-- ---- a lane that was given up or acknowledged stands behind the finish

or_stays : (b : Bool) (e : RecvEvent) → b ≡ true → has_finish_after b e ≡ true
or_stays b events.Finish x = refl
or_stays b e x = x

-- what an entry says of a lane, where it is allowed only behind the finish
module _ (t : Terms) (q : ℕ) where
  abbrev Over : List RecvEvent → Type 0
  Over g = ((past_of g q).has_quit || (past_of g q).is_acked) ≡ true → (end_of g).has_finish ≡ true

  by_entry : (g : List RecvEvent) (quit acked : Bool) (e : RecvEvent) → IsAllowed t g e → ((quit || acked) ≡ true → (end_of g).has_finish ≡ true)
      → (has_quit_after q quit e || is_acked_after q acked e) ≡ true → has_finish_after (end_of g).has_finish e ≡ true
  by_entry g quit acked (events.Quit k) a f x = a.fits.0
  by_entry g quit acked (events.Acked k) a f x = a.fits
  by_entry g quit acked events.Finish a f x = refl
  by_entry g quit acked e a f x = f x

  over_from : (b g : List RecvEvent) → Over b → legal_from t b g → Over (b ++ g)
  over_from b [] o legal = subst Over (sym (append-nil b)) o
  over_from b (e ∷ g) o legal =
      subst Over (append_assoc b (e ∷ []) g)
      (over_from (b ++ e ∷ []) g
      (λ x. ap (λ (n : EndPast). n.has_finish) (end_of-append b (e ∷ [])) ∙ by_entry b (past_of b q).has_quit (past_of b q).is_acked e legal.0 o (ap (λ (p : RecvPast). p.has_quit || p.is_acked) (sym (past_of-append b (e ∷ []) q)) ∙ x)) legal.1)

  over_finished : (g : List RecvEvent) → IsLegal t g → Over g
  unfolding IsLegal
  over_finished g legal =
      over_from [] g
      (λ x. absurd (both_ways ((past_of [] q).has_quit || (past_of [] q).is_acked) (ap (λ (p : RecvPast). p.has_quit || p.is_acked) (past_of-none q)) x)) legal

-- ---- a lane that waits, where all others wait or have stopped

-- it waits, or has stopped
abbrev Rests : RecvHold → Type 0
Rests h = (is_parked h ≡ true) ⊎ (recv_stops h ≡ true)

parked_at : (h : RecvHold) (r : PlainReceiver) (k : ℕ) → is_parked h ≡ true → RecvBelongs h (lane_at r k) (past_at r k) → state_at r k ≡ states.WaitForFinish
parked_at (RecvDoes acts.Park) r k e b = b
parked_at h r k e b = cc

stopped_at : (h : RecvHold) (r : PlainReceiver) (k : ℕ) → recv_stops h ≡ true → RecvBelongs h (lane_at r k) (past_at r k) → state_at r k ≡ states.Ended
stopped_at (RecvDoes acts.Stop) r k e b = b
stopped_at h r k e b = cc

module _ (w : PlainWorld) (s : IsSound w) (all : (k : ℕ) → k < length w.pairs → Rests (pair_at w k).recv) (l : ℕ) (within : l < length w.pairs)
    (waits : is_parked (pair_at w l).recv ≡ true) (sound : is_failure w.receiver.answer ≡ false) (first : has_finish w.receiver ≡ false)
    (none : untold_at w.receiver l ≡ []) where
  here : state_at w.receiver l ≡ states.WaitForFinish
  here = parked_at (pair_at w l).recv w.receiver l waits (s.belongs.recv l within)

  in_pairs : (k : ℕ) → k < length w.receiver.lanes → k < length w.pairs
  in_pairs k small = subst (λ (n : ℕ). k < n) s.talk.recv_lanes small

  not_over : (k : ℕ) → ((past_at w.receiver k).has_quit || (past_at w.receiver k).is_acked) ≡ true → ⊥
  not_over k e = both_ways (has_finish w.receiver) first (over_finished (terms_of w.receiver) k w.receiver.history s.talk.receiver.legal e)

  idle_or_closed : (k : ℕ) → k < length w.pairs → ((past_at w.receiver k).is_idle ≡ true) ⊎ ((past_at w.receiver k).is_closed ≡ true)
  idle_or_closed k small = elim (all k small) [
    | inl x ↦ inl (recv_fares w k states.WaitForFinish s.talk small (parked_at (pair_at w k).recv w.receiver k x (s.belongs.recv k small))).0.idle
    | inr x ↦ ended (recv_fares w k states.Ended s.talk small (stopped_at (pair_at w k).recv w.receiver k x (s.belongs.recv k small)))
  ] where
    ended : Fares (is_failure w.receiver.answer) states.Ended (lane_at w.receiver k) (past_at w.receiver k) (end_of w.receiver.history)
        → ((past_at w.receiver k).is_idle ≡ true) ⊎ ((past_at w.receiver k).is_closed ≡ true)
    ended (inl x) = absurd (both_ways (is_failure w.receiver.answer) sound x)
    ended (inr (inl x)) = inr x
    ended (inr (inr (inl x))) = absurd (not_over k (or_left (past_at w.receiver k).has_quit (past_at w.receiver k).is_acked x))
    ended (inr (inr (inr x))) = absurd (not_over k (or_right (past_at w.receiver k).has_quit (past_at w.receiver k).is_acked x))

  -- each closed lane is confirmed: the lane that waits has told of it, and is idle
  known : (k : ℕ) → k < length w.receiver.lanes → is_known_closed w.receiver.history k ≡ true
  known k small = go (past_at w.receiver k).is_closed refl where
    fares : Fares (is_failure w.receiver.answer) states.WaitForFinish (lane_at w.receiver l) (past_at w.receiver l) (end_of w.receiver.history)
    fares = recv_fares w l states.WaitForFinish s.talk within here

    told : (past_at w.receiver k).is_closed ≡ true → (c d : Bool) → is_confirmed w.receiver.history k ≡ c → has (past_at w.receiver l).told k ≡ d → c ≡ true
    told shut true d x y = refl
    told shut false true x y = elim (told_known w.receiver l k s.talk.receiver fares.0.goes_on.link y) [
      | inl z ↦ sym x ∙ z
      | inr z ↦ absurd (both_ways (past_at w.receiver l).is_idle z.0 fares.0.idle)
    ]
    told shut false false x y =
        absurd
        (both_ways (is_untold w.receiver.history l k) (none_filter (is_untold w.receiver.history l) (numbers (length w.receiver.lanes)) k none (in_numbers (length w.receiver.lanes) k small))
        (ap (λ (b : Bool). b && not (is_confirmed w.receiver.history k) && not (has (past_at w.receiver l).told k)) shut ∙ (ap (λ (b : Bool). not b && not (has (past_at w.receiver l).told k)) x ∙ ap not y)))

    go : (b : Bool) → (past_at w.receiver k).is_closed ≡ b → is_known_closed w.receiver.history k ≡ true
    go true is =
        or_right (not (past_at w.receiver k).is_closed) (is_confirmed w.receiver.history k)
        (told is (is_confirmed w.receiver.history k) (has (past_at w.receiver l).told k) refl refl)
    go false is = or_left (not (past_at w.receiver k).is_closed) (is_confirmed w.receiver.history k) (ap not is)

  pub all_ready : can_finish w.receiver ≡ true
  all_ready =
      and_from (every (length w.receiver.lanes) (rests w.receiver.history) && not (every (length w.receiver.lanes) (is_busy w.receiver.history)))
      (every (length w.receiver.lanes) (is_known_closed w.receiver.history))
      (and_from (every (length w.receiver.lanes) (rests w.receiver.history)) (not (every (length w.receiver.lanes) (is_busy w.receiver.history)))
      (every_from (length w.receiver.lanes) (rests w.receiver.history) (λ k small. elim (idle_or_closed k (in_pairs k small)) [ inl x ↦ or_left _ _ x | inr x ↦ or_right _ _ x ]))
      (ap not (false_from_ne_true (every (length w.receiver.lanes) (is_busy w.receiver.history)) busy)))
      (every_from (length w.receiver.lanes) (is_known_closed w.receiver.history) known) where
        busy : every (length w.receiver.lanes) (is_busy w.receiver.history) ≡ true → ⊥
        busy e =
            both_ways (is_busy w.receiver.history l) (ap not (recv_fares w l states.WaitForFinish s.talk within here).0.idle)
            (every_at (length w.receiver.lanes) l (is_busy w.receiver.history) e (subst (λ (n : ℕ). l < n) (sym s.talk.recv_lanes) within))

-- ---- a lane that waits goes on once woken

failed_act : (t : PlainReceiver) (l : ℕ) (mute : Bool) → is_parked (RecvDoes (by_voice mute (leaves t (number l)) (tells_failure t (number l))).0) ≡ false
failed_act t l true = refl
failed_act t l false = refl

greeted_act : (t : PlainReceiver) (l : ℕ) (x : Settings) (come : Bool) → is_parked (RecvDoes (greets_by t (number l) x come).0) ≡ false
greeted_act t l x true = refl
greeted_act t l x false = refl

begun_act : (t : PlainReceiver) (l : ℕ) (b : Block) (left : ℕ) → is_parked (RecvDoes (begins_by t (number l) b left).0) ≡ false
begun_act t l b zero = refl
begun_act t l b (suc left) = refl

woken_is : {P : Type 0} (i : RecvIn) → Given inputs.Woken ≡ Given i → is_woken i ≡ false → P
woken_is i e n = absurd (both_ways (is_woken i) n (ap is_woken (sym (same_input inputs.Woken i e))))

module _ (w : PlainWorld) (s : IsSound w) (all : (k : ℕ) → k < length w.pairs → Rests (pair_at w k).recv) (l : ℕ) (within : l < length w.pairs)
    (waits : is_parked (pair_at w l).recv ≡ true) where
  -- it doesn't wait on
  waits_not : {P : Type 0} (t : PlainReceiver) → outcomes.Idles w.receiver (number l) (Given inputs.Woken) t → has_finish t ≡ false → can_finish t ≡ false
      → untold_at t l ≡ [] → P
  waits_not t (ByDone serves sized given is) first unready none = woken_is (inputs.Got frames.Done) given refl
  waits_not t (ByWait serves given is) first unready none = woken_is inputs.Wrote given refl
  waits_not t (ByWaking serves given is) first unready none =
      absurd (both_ways (can_finish w.receiver) (ap can_finish (sym is) ∙ unready)
      (all_ready w s all l within waits serves.sound (ap has_finish (sym is) ∙ first) (ap (λ (x : PlainReceiver). untold_at x l) (sym is) ∙ none)))

  outcome_wakes : (o : Outcome) → ComesOf w.receiver (number l) (Given inputs.Woken) o → is_parked (RecvDoes (came_to w.receiver (number l) o).0) ≡ false
  outcome_wakes Rested of = refl
  outcome_wakes Left of = refl
  outcome_wakes Warned of = refl
  outcome_wakes (Failed t answer mute) of = failed_act (failed t answer) l mute
  outcome_wakes (GivenUp t) of = refl
  outcome_wakes (Listened t) of = refl
  outcome_wakes Linked of = refl
  outcome_wakes (Greeted x) of = greeted_act (meets w.receiver (number l) x) l x (has_finish w.receiver)
  outcome_wakes Listed of = refl
  outcome_wakes (ReadOn t) of = refl
  outcome_wakes (Sized files bytes) of = refl
  outcome_wakes (Begun t b) of = begun_act t l b b.length
  outcome_wakes (Taken left) of = refl
  outcome_wakes (Concluded t) of = refl
  outcome_wakes (Told t q qs) of = refl
  outcome_wakes (Waited t true) of = waits_not t of.0.idles of.0.first of.0.unready of.0.told
  outcome_wakes (Waited t false) of = refl
  outcome_wakes Ended of = refl
  outcome_wakes Acknowledged of = refl

  wakes : Wakes w l
  wakes broken =
      let x = end_comes w.receiver (number l) (Given inputs.Woken) (Unit {0}) (recv_turn w.receiver l (Given inputs.Woken) broken) (ends_in (turn_plan w.receiver (number l) (Given inputs.Woken)) broken) in
      subst (λ (y : Step). is_parked (RecvDoes y.0) ≡ false) (sym x.is) (outcome_wakes x.outcome x.of)

-- ---- all lanes

module _ (w : PlainWorld) (s : IsSound w) where
  abbrev Some-goes : Type 0
  Some-goes = (l : ℕ) × (l < length w.pairs) × GoesOn w l

  -- one more lane is so
  one_more : (P : ℕ → Type 0) (m : ℕ) → ((k : ℕ) → k < m → P k) → P m → (k : ℕ) → k < suc m → P k
  one_more P m before last k small = elim (cases_lt k m) [ inl x ↦ before k x | inr x ↦ (let same : m ≡ k = omega (arith, x, small) in subst P same last) ]

  -- an end can move, or each lane waits or has stopped
  moving : (m : ℕ) → m ≤ length w.pairs → Some-goes ⊎ ((k : ℕ) → k < m → (is_parked (pair_at w k).recv ≡ true) ⊎ HasStopped w k)
  moving zero small = inr (λ k x. absurd (omega (arith, x)))
  moving (suc m) small = go (moving m (omega (arith, small))) (lane_moves w m s below) where
    below : m < length w.pairs
    below = omega (arith, small)

    go : Some-goes ⊎ ((k : ℕ) → k < m → (is_parked (pair_at w k).recv ≡ true) ⊎ HasStopped w k) → Moves (pair_at w m)
        → Some-goes ⊎ ((k : ℕ) → k < suc m → (is_parked (pair_at w k).recv ≡ true) ⊎ HasStopped w k)
    go (inl x) y = inl x
    go (inr x) (inl y) = inl (m, below, inl y)
    go (inr x) (inr (inl y)) = inl (m, below, inr (inl y))
    go (inr x) (inr (inr (inl y))) = inr (one_more (λ (k : ℕ). (is_parked (pair_at w k).recv ≡ true) ⊎ HasStopped w k) m x (inl y))
    go (inr x) (inr (inr (inr y))) = inr (one_more (λ (k : ℕ). (is_parked (pair_at w k).recv ≡ true) ⊎ HasStopped w k) m x (inr y))

  -- where none can, one of those that wait goes on, or all have stopped
  waiting : ((k : ℕ) → k < length w.pairs → (is_parked (pair_at w k).recv ≡ true) ⊎ HasStopped w k) → (m : ℕ) → m ≤ length w.pairs
      → Some-goes ⊎ ((k : ℕ) → k < m → HasStopped w k)
  waiting all zero small = inr (λ k x. absurd (omega (arith, x)))
  waiting all (suc m) small = go (waiting all m (omega (arith, small))) (all m below) where
    below : m < length w.pairs
    below = omega (arith, small)

    rest : (k : ℕ) → k < length w.pairs → Rests (pair_at w k).recv
    rest k b = elim (all k b) [ inl x ↦ inl x | inr x ↦ inr x.1 ]

    go : Some-goes ⊎ ((k : ℕ) → k < m → HasStopped w k) → (is_parked (pair_at w m).recv ≡ true) ⊎ HasStopped w m
        → Some-goes ⊎ ((k : ℕ) → k < suc m → HasStopped w k)
    go (inl x) y = inl x
    go (inr x) (inl y) = inl (m, below, inr (inr (y, wakes w s rest m below y)))
    go (inr x) (inr y) = inr (one_more (HasStopped w) m x y)

  pub stands_not : Some-goes ⊎ ((k : ℕ) → k < length w.pairs → HasStopped w k)
  stands_not = elim (moving (length w.pairs) (omega arith)) [ inl x ↦ inl x | inr all ↦ waiting all (length w.pairs) (omega arith) ]
