-- A step leaves what isn't its lane's.
use Rattle.std.proofs.Common.{◌≡◌, ◌≢◌, ◌⊎◌, inl, inr, ℕ, ◌==◌, ◌||◌, List, [], ◌∷◌, ◌++◌, length, Bool, true, false, not, if◌then◌else◌, Option, Some, None, subst, sym, ap, ◌∙◌, refl, is_some, append-nil}
use Rattle.std.specs.List.{All, list_any}
use Rattle.std.proofs.lemmas.Bool.{ne_eqb}
use Rattle.std.proofs.lemmas.List.{length-set}
use Rattle.std.proofs.lemmas.List.Elements.{All-nil, All-cons, All-append}
use Rattle.wdt_claims.specs.LaneWords.{closed_at}
use Rattle.wdt_units.specs.declared.numbers.Lane.{Lane}
use Rattle.wdt_codec.specs.declared.frames.Mark.{Mark}
use Rattle.wdt_sender_fsm.specs.declared.answers.EndAnswer.{EndAnswer}
use Rattle.wdt_sender_fsm.specs.declared.answers.EndAnswer.TheVariants as answers
use Rattle.wdt_sender_fsm.specs.declared.events.SendEvent.{SendEvent}
use Rattle.wdt_sender_fsm.specs.declared.events.SendEvent.TheVariants as events
use Rattle.wdt_sender_fsm.specs.declared.inputs.SendIn.{SendIn}
use Rattle.wdt_sender_fsm.specs.declared.states.SendLane.{SendLane}
use Rattle.wdt_sender_fsm.specs.declared.states.SendState.TheVariants as states
use Rattle.wdt_sender_fsm.specs.Outcomes.{Outcome, Rested, Waited, Left, Warned, Failed, GivenUp, Redialed, Introduced, Presented, Greeted, Listed, Planned, Claimed, Emptied, Concluded, Finished, Acknowledged, came_to, failing, failure_entries}
use Rattle.wdt_sender_fsm.specs.Reasons.{ComesOf, Dials, AtFirst, ByNoLink, ByLoss, Frees, BySize, ByBlock, ByMarks}
use Rattle.wdt_sender_fsm.specs.PlainSender.{PlainSender, lane_or_ended, lane_at, past_at, noted, with_lane}
use Rattle.wdt_sender_fsm.specs.Rules.{by_voice}
use Rattle.wdt_sender_fsm.specs.SenderHistory.{LanePast, past_after, past_from, past_of, close_by, lane_of}
use Rattle.wdt_sender_fsm.specs.Touches.{Plans, AsBefore, Anew, Beside, AsItWas, NowClosed, NowFinished, is_global_of, Touches}
use Rattle.wdt_sender_fsm.specs.Turn.{Step, leaves, tells_failure, next_conn, greeted_by, with_plan, global, globals, send_turn}
use Rattle.wdt_sender_fsm.proofs.lemmas.Behind.{past_behind, from_behind}
use Rattle.wdt_sender_fsm.proofs.lemmas.Comes.{turn_comes}
use Rattle.wdt_sender_fsm.proofs.lemmas.Steps.{voice_has}
use Rattle.wdt_sender_fsm.proofs.lemmas.Works.{in_state, set_other}

-- ---- what entries make of another lane's past

-- an entry that only its own lane's past hangs on
abbrev is_own : SendEvent → Bool
is_own (events.Global k c n) = false
is_own (events.Finish k) = false
is_own e = true

own_past : (e : SendEvent) (k : ℕ) (p : LanePast) → lane_of e ≢ k → is_own e ≡ true → past_after k p e ≡ p
own_past (events.Linked l c) k p ne own = rw (ne_eqb l.0 k ne) refl
own_past (events.NoLink l) k p ne own = rw (ne_eqb l.0 k ne) refl
own_past (events.Lost l) k p ne own = rw (ne_eqb l.0 k ne) refl
own_past (events.Greet l n) k p ne own = rw (ne_eqb l.0 k ne) refl
own_past (events.Claim l b) k p ne own = rw (ne_eqb l.0 k ne) refl
own_past (events.Sent l) k p ne own = rw (ne_eqb l.0 k ne) refl
own_past (events.Acked l) k p ne own = rw (ne_eqb l.0 k ne) refl
own_past (events.Quit l) k p ne own = rw (ne_eqb l.0 k ne) refl
own_past (events.Global l c n) k p ne own = cc
own_past (events.Finish l) k p ne own = cc
own_past e k p ne own = refl

-- entries of the lane, on which only its own past hangs
abbrev AreOwn : Lane → List SendEvent → Type 0
AreOwn l [] = Unit {0}
AreOwn l (e ∷ es) = (lane_of e ≡ l.0) × (is_own e ≡ true) × AreOwn l es

own_pasts : (l : Lane) (es : List SendEvent) (k : ℕ) (p : LanePast) → k ≢ l.0 → AreOwn l es → past_from k p es ≡ p
own_pasts l [] k p ne own = refl
own_pasts l (e ∷ es) k p ne own =
    ap (λ (q : LanePast). past_from k q es) (own_past e k p (λ x. ne (sym x ∙ own.0)) own.1) ∙ own_pasts l es k p ne own.2

own_all : (l : Lane) (es : List SendEvent) → AreOwn l es → All (λ e. lane_of e ≡ l.0) es
own_all l [] own = All-nil (λ e. lane_of e ≡ l.0)
own_all l (e ∷ es) own = All-cons (λ e. lane_of e ≡ l.0) e es own.0 (own_all l es own.2)

own_more : (l : Lane) (es ds : List SendEvent) → AreOwn l es → AreOwn l ds → AreOwn l (es ++ ds)
own_more l [] ds own more = more
own_more l (e ∷ es) ds own more = (own.0, own.1, own_more l es ds own.2 more)

-- ---- lanes that are closed

-- what a mark makes of a lane's past, by whether it is of that lane, and whether that was closed
mark_past : (b : Bool) (o : Option ℕ) (n : ℕ) (p : LanePast) → p.claims.closed ≡ o → b ≡ false ⊎ is_some o ≡ true → record p { claims = if b then close_by p.claims.closed n p.claims else p.claims } ≡ p
mark_past false o n p is why = refl
mark_past true None n p is (inl x) = cc
mark_past true None n p is (inr x) = cc
mark_past true (Some m) n p is why = ap (λ (o : Option ℕ). record p { claims = close_by o n p.claims }) is

-- a lane that was closed stays so
closed_on : (l : Lane) (ms : List Mark) (k m : ℕ) (p : LanePast) → p.claims.closed ≡ Some m → past_from k p (globals l ms) ≡ p
closed_on l [] k m p is = refl
closed_on l (d ∷ ms) k m p is =
    ap (λ (q : LanePast). past_from k q (globals l ms)) (mark_past (d.lane.0 == k) (Some m) d.count p is (inr refl)) ∙ closed_on l ms k m p is

-- the past is as it was, or the lane is closed now
abbrev Marks : Lane → List Mark → ℕ → LanePast → LanePast → Type 0
Marks l ms k p q = (q ≡ p) ⊎ ((count : ℕ) × (list_any (is_global_of k) (globals l ms) ≡ true) × (p.claims.closed ≡ None) × (q ≡ record p { claims = closed_at count 0 p.claims }))

or_any : (a b : Bool) → b ≡ true → (a || b) ≡ true
or_any true b e = refl
or_any false b e = e

marks_past : (l : Lane) (ms : List Mark) (k : ℕ) (p : LanePast) → Marks l ms k p (past_from k p (globals l ms))
marks_past l [] k p = inl refl
marks_past l (d ∷ ms) k p = go (d.lane.0 == k) refl p.claims.closed refl (marks_past l ms k p) where
  later : (q : LanePast) → Marks l ms k p q → Marks l (d ∷ ms) k p q
  later q (inl e) = inl e
  later q (inr x) = inr (x.0, or_any (d.lane.0 == k) (list_any (is_global_of k) (globals l ms)) x.1, x.2, x.3)

  go : (b : Bool) → (d.lane.0 == k) ≡ b → (o : Option ℕ) → p.claims.closed ≡ o → Marks l ms k p (past_from k p (globals l ms)) → Marks l (d ∷ ms) k p (past_from k (record p { claims = if d.lane.0 == k then close_by p.claims.closed d.count p.claims else p.claims }) (globals l ms))
  go false is o opens rest =
      subst (λ (q : LanePast). Marks l (d ∷ ms) k p (past_from k q (globals l ms))) (sym (mark_past (d.lane.0 == k) o d.count p opens (inl is)))
      (later (past_from k p (globals l ms)) rest)
  go true is (Some m) opens rest = inl (ap (λ (q : LanePast). past_from k q (globals l ms)) (mark_past (d.lane.0 == k) (Some m) d.count p opens (inr refl)) ∙ closed_on l ms k m p opens)
  go true is None opens rest =
      let closed : record p { claims = if d.lane.0 == k then close_by p.claims.closed d.count p.claims else p.claims } ≡ record p { claims = closed_at d.count 0 p.claims } = rw (is, opens) refl in
      inr (
        d.count,
        ap (λ (b : Bool). b || list_any (is_global_of k) (globals l ms)) is,
        opens,
        ap (λ (q : LanePast). past_from k q (globals l ms)) closed ∙ closed_on l ms k d.count (record p { claims = closed_at d.count 0 p.claims }) refl,
      )

any_more : (f : SendEvent → Bool) (es ds : List SendEvent) → list_any f es ≡ true → list_any f (es ++ ds) ≡ true
any_more f [] ds e = cc
any_more f (x ∷ es) ds e = go (f x) e (any_more f es ds) where
  go : (b : Bool) → (b || list_any f es) ≡ true → (list_any f es ≡ true → list_any f (es ++ ds) ≡ true) → (b || list_any f (es ++ ds)) ≡ true
  go true e rest = refl
  go false e rest = rest e

-- ---- a step

module _ (s : PlainSender) (l : Lane) (input : SendIn) where
  -- what is known of the other lanes' pasts
  abbrev Pasts : List SendEvent → Type 0
  Pasts es = (k : ℕ) → k ≢ l.0 → Beside k es (past_at s k) (past_from k (past_at s k) es)

  -- a sender that differs in its plan, its history and its answer alone
  record Makes (es : List SendEvent) (t : PlainSender) : Type 0 where
    pub manifest : t.manifest ≡ s.manifest
    pub block : t.block ≡ s.block
    pub session : t.session ≡ s.session
    pub lanes : t.lanes ≡ s.lanes
    pub history : t.history ≡ s.history ++ es
    pub plan : Plans s input t

  put_plan : (t : PlainSender) (lane : SendLane) → Plans s input t → Plans s input (with_lane t l lane)
  put_plan t lane (AsBefore a b) = AsBefore a b
  put_plan t lane (Anew have i n h p) = Anew have i n h p

  pasts_there : (es : List SendEvent) (t : PlainSender) → t.history ≡ s.history ++ es → Pasts es → (k : ℕ) → k ≢ l.0 → Beside k es (past_at s k) (past_at t k)
  pasts_there es t is pasts k ne = subst (λ (h : List SendEvent). Beside k es (past_at s k) (past_of h k)) (sym is) (subst (λ (q : LanePast). Beside k es (past_at s k) q) (sym (past_behind s.history es k)) (pasts k ne))

  -- as it stands
  stays : (es : List SendEvent) (t : PlainSender) → All (λ e. lane_of e ≡ l.0) es → Pasts es → Makes es t → Touches s l input t
  stays es t own pasts m =
      record {
        manifest = m.manifest;
        block = m.block;
        session = m.session;
        lanes = ap (λ (xs : List SendLane). length xs) m.lanes;
        others = λ j ne. ap (λ (xs : List SendLane). lane_or_ended (Rattle.std.specs.Prelude.slice_get xs j)) m.lanes;
        history = record { entries = es; behind = m.history; own = own };
        plan = m.plan;
        pasts = pasts_there es t m.history pasts;
      }

  -- and the lane stands so now
  puts : (es : List SendEvent) (t : PlainSender) (lane : SendLane) → All (λ e. lane_of e ≡ l.0) es → Pasts es → Makes es t → Touches s l input (with_lane t l lane)
  puts es t lane own pasts m =
      record {
        manifest = m.manifest;
        block = m.block;
        session = m.session;
        lanes = length-set t.lanes l.0 lane ∙ ap (λ (xs : List SendLane). length xs) m.lanes;
        others = λ j ne. ap lane_or_ended (set_other t.lanes l.0 j lane ne) ∙ ap (λ (xs : List SendLane). lane_or_ended (Rattle.std.specs.Prelude.slice_get xs j)) m.lanes;
        history = record { entries = es; behind = m.history; own = own };
        plan = put_plan t lane m.plan;
        pasts = pasts_there es (with_lane t l lane) m.history pasts;
      }

  -- entries on which only the lane's own past hangs
  own_beside : (es : List SendEvent) → AreOwn l es → Pasts es
  own_beside es own k ne = AsItWas (own_pasts l es k (past_at s k) ne own)

  puts_own : (es : List SendEvent) (t : PlainSender) (lane : SendLane) → AreOwn l es → Makes es t → Touches s l input (with_lane t l lane)
  puts_own es t lane own m = puts es t lane (own_all l es own) (own_beside es own) m

  same : Makes [] s
  same = record { manifest = refl; block = refl; session = refl; lanes = refl; history = sym (append-nil s.history); plan = AsBefore refl refl }

  notes : (es : List SendEvent) → Makes es (noted s es)
  notes es = record { manifest = refl; block = refl; session = refl; lanes = refl; history = refl; plan = AsBefore refl refl }

  fails : (a : EndAnswer) → Makes (failure_entries l a) (failing s l a)
  fails (answers.Aborted code) = record { manifest = refl; block = refl; session = refl; lanes = refl; history = refl; plan = AsBefore refl refl }
  fails (answers.Peer kind) = record { manifest = refl; block = refl; session = refl; lanes = refl; history = refl; plan = AsBefore refl refl }
  fails a = record { manifest = refl; block = refl; session = refl; lanes = refl; history = sym (append-nil s.history); plan = AsBefore refl refl }

  failure_own : (a : EndAnswer) → AreOwn l (failure_entries l a)
  failure_own (answers.Aborted code) = (refl, refl, tt)
  failure_own (answers.Peer kind) = (refl, refl, tt)
  failure_own a = tt

  dials_own : (es : List SendEvent) → Dials s l input es → AreOwn l es
  dials_own es (AtFirst at e) = tt
  dials_own es (ByNoLink at e) = (refl, refl, tt)
  dials_own es (ByLoss state at linked e) = (refl, refl, tt)

  globals_all : (ms : List Mark) → All (λ e. lane_of e ≡ l.0) (globals l ms)
  globals_all [] = All-nil (λ e. lane_of e ≡ l.0)
  globals_all (m ∷ ms) = All-cons (λ e. lane_of e ≡ l.0) (global l m) (globals l ms) refl (globals_all ms)

  -- behind the entries by which a lane is free further ones of its own
  globals_beside : (ms : List Mark) (ds : List SendEvent) → AreOwn l ds → Pasts (globals l ms ++ ds)
  globals_beside ms ds own k ne =
      subst (λ (q : LanePast). Beside k (globals l ms ++ ds) (past_at s k) q) (sym (from_behind k (past_at s k) (globals l ms) ds))
      (subst (λ (q : LanePast). Beside k (globals l ms ++ ds) (past_at s k) q) (sym (own_pasts l ds k (past_from k (past_at s k) (globals l ms)) ne own)) (go (past_from k (past_at s k) (globals l ms)) (marks_past l ms k (past_at s k)))) where
        go : (q : LanePast) → Marks l ms k (past_at s k) q → Beside k (globals l ms ++ ds) (past_at s k) q
        go q (inl e) = AsItWas e
        go q (inr x) = NowClosed x.0 (any_more (is_global_of k) (globals l ms) ds x.1) x.2 x.3

  frees_all : (es ds : List SendEvent) → Frees s l input es → AreOwn l ds → All (λ e. lane_of e ≡ l.0) (es ++ ds) × Pasts (es ++ ds)
  frees_all es ds (BySize at e) own = (own_all l ds own, own_beside ds own)
  frees_all es ds (ByBlock at e) own = (own_all l (events.Sent l ∷ ds) (refl, refl, own), own_beside (events.Sent l ∷ ds) (refl, refl, own))
  frees_all es ds (ByMarks ms at e known right) own = (All-append (λ e. lane_of e ≡ l.0) (globals l ms) ds (globals_all ms) (own_all l ds own), globals_beside ms ds own)

  gives_up : (a : EndAnswer) (mute : Bool) → Touches s l input (by_voice mute (leaves (failing s l a) l) (tells_failure (failing s l a) l)).1
  gives_up a mute =
      voice_has (λ (step : Step). Touches s l input step.1) mute (leaves (failing s l a) l) (tells_failure (failing s l a) l)
      (puts_own (failure_entries l a) (failing s l a) (in_state (failing s l a) l states.Ended) (failure_own a) (fails a))
      (puts_own (failure_entries l a) (failing s l a) (in_state (failing s l a) l states.SendAbort) (failure_own a) (fails a))

  greets : (t : PlainSender) (count : ℕ) (ask : Bool) → Makes (events.Greet l count ∷ []) t → Touches s l input (greeted_by t l ask).1
  greets t count true m = puts_own (events.Greet l count ∷ []) t (in_state t l states.ReadFileChunks) (refl, refl, tt) m
  greets t count false m = puts_own (events.Greet l count ∷ []) t (in_state t l states.SendSize) (refl, refl, tt) m

  plans_anew : (have : List Rattle.wdt_units.specs.Have.HaveFile) → ComesOf s l input (Planned have) → Makes (events.Chunks l ∷ []) (noted (with_plan s have) (events.Chunks l ∷ []))
  plans_anew have of = record { manifest = refl; block = refl; session = refl; lanes = refl; history = refl; plan = Anew have of.0.read of.1 refl refl }

  came_touches : (o : Outcome) → ComesOf s l input o → Touches s l input (came_to s l o).1
  came_touches Rested of = stays [] s (All-nil (λ e. lane_of e ≡ l.0)) (own_beside [] tt) same
  came_touches Waited of = stays [] s (All-nil (λ e. lane_of e ≡ l.0)) (own_beside [] tt) same
  came_touches Left of = puts_own [] s (in_state s l states.Ended) tt same
  came_touches Warned of = puts_own [] s (in_state s l states.SendAbort) tt same
  came_touches (Failed a mute) of = gives_up a mute
  came_touches (GivenUp es) of = puts_own (es ++ events.Quit l ∷ []) (noted s (es ++ events.Quit l ∷ [])) (in_state s l states.Ended) (own_more l es (events.Quit l ∷ []) (dials_own es of.0) (refl, refl, tt)) (notes (es ++ events.Quit l ∷ []))
  came_touches (Redialed es) of = puts_own es (noted s es) (in_state s l states.Connect) (dials_own es of.0) (notes es)
  came_touches Introduced of = puts_own (events.Linked l (next_conn s l) ∷ []) (noted s (events.Linked l (next_conn s l) ∷ [])) record { state = states.SendSettings; ask = not (is_some s.have) } (refl, refl, tt) (notes (events.Linked l (next_conn s l) ∷ []))
  came_touches Presented of = puts_own [] s (in_state s l states.ReadLocalCheckpoint) tt same
  came_touches (Greeted count) of = greets (noted s (events.Greet l count ∷ [])) count (lane_at s l.0).ask (notes (events.Greet l count ∷ []))
  came_touches Listed of = puts_own (events.Chunks l ∷ []) (noted s (events.Chunks l ∷ [])) (in_state s l states.SendSize) (refl, refl, tt) (notes (events.Chunks l ∷ []))
  came_touches (Planned have) of = puts_own (events.Chunks l ∷ []) (noted (with_plan s have) (events.Chunks l ∷ [])) (in_state s l states.SendSize) (refl, refl, tt) (plans_anew have of)
  came_touches (Claimed es b) of =
      let all = frees_all es (events.Claim l b ∷ []) of.0 (refl, refl, tt) in
      puts (es ++ events.Claim l b ∷ []) (noted s (es ++ events.Claim l b ∷ [])) (in_state s l states.SendBlocks) all.0 all.1 (notes (es ++ events.Claim l b ∷ []))
  came_touches (Emptied es) of =
      let all = frees_all es [] of.0 tt in
      puts es (noted s es) (in_state s l states.SendDone) (subst (All (λ e. lane_of e ≡ l.0)) (append-nil es) all.0) (subst Pasts (append-nil es) all.1) (notes es)
  came_touches Concluded of = puts_own (events.Done l ∷ []) (noted s (events.Done l ∷ [])) (in_state s l states.ReadReceiverCmd) (refl, refl, tt) (notes (events.Done l ∷ []))
  came_touches Finished of =
      puts (events.Finish l ∷ []) (noted s (events.Finish l ∷ [])) (in_state s l states.AnswerDone) (All-cons (λ e. lane_of e ≡ l.0) (events.Finish l) [] refl (All-nil (λ e. lane_of e ≡ l.0)))
      (λ k ne. NowFinished l refl (rw (ne_eqb l.0 k (λ e. ne (sym e))) refl)) (notes (events.Finish l ∷ []))
  came_touches Acknowledged of = puts_own (events.Acked l ∷ []) (noted s (events.Acked l ∷ [])) (in_state s l states.Ended) (refl, refl, tt) (notes (events.Acked l ∷ []))

pub turn_touches : (s : PlainSender) (l : Lane) (input : SendIn) → Touches s l input (send_turn s l input).1
turn_touches s l input =
    let c = turn_comes s l input in
    subst (λ (step : Step). Touches s l input step.1) (sym c.is) (came_touches s l input c.outcome c.of)
