-- What a step of the receiver's lane makes of the settings and totals that were read first, of the files that are known, and of the number
-- of the connection that was read last: where one of them changes, it is what was read in that step.
use Rattle.std.proofs.Common.{◌≡◌, ◌⊎◌, inl, inr, ℕ, zero, suc, ◌<◌, ◌==◌, Bool, true, false, List, [], ◌∷◌, ◌++◌, length, Option, Some, None, is_some, subst, sym, ap, ◌∙◌, refl}
use Rattle.std.proofs.lemmas.List.{length-set}
use Rattle.std.proofs.lemmas.Option.{same_Some}
use Rattle.wdt_units.specs.declared.blocks.Block.{Block}
use Rattle.wdt_units.specs.declared.blocks.Header.{Header}
use Rattle.wdt_codec.specs.declared.frames.Frame.TheVariants as frames
use Rattle.wdt_codec.specs.declared.frames.Settings.{Settings}
use Rattle.wdt_logfmt.specs.Beginning.{KnownFile, is_new, with_known}
use Rattle.wdt_sender_fsm.specs.declared.answers.EndAnswer.{EndAnswer}
use Rattle.wdt_receiver_fsm.specs.declared.events.RecvEvent.{RecvEvent}
use Rattle.wdt_receiver_fsm.specs.declared.events.RecvEvent.TheVariants as events
use Rattle.wdt_receiver_fsm.specs.declared.inputs.RecvIn.TheVariants as inputs
use Rattle.wdt_receiver_fsm.specs.declared.states.RecvLane.{RecvLane}
use Rattle.wdt_receiver_fsm.specs.declared.states.RecvState.{RecvState}
use Rattle.wdt_receiver_fsm.specs.declared.states.RecvState.TheVariants as states
use Rattle.wdt_receiver_fsm.specs.Logging.{all_logged, all_logged_by}
use Rattle.wdt_receiver_fsm.specs.Outcomes as outcomes
use Rattle.wdt_receiver_fsm.specs.Outcomes.{ComesOf, Outcome, Rested, Left, Warned, Failed, GivenUp, Listened, Linked, Greeted, Listed, ReadOn, Sized, Begun, Taken, Concluded, Told, Waited, Ended, Acknowledged, came_to, landed_by}
use Rattle.wdt_receiver_fsm.specs.Outcomes.{ByDone, ByWait, ByWaking, OfMemory, OfSender, OfPeer, OfShort, OfMake, OfWrite, OfLog, OfFinish, AtFirst, ByNoLink, ByLoss, ByGreeting, ByChunks, ByMarks, ByLanding, ByLogging, WasFinished, IsFinished, OfKnown, OfNew}
use Rattle.wdt_receiver_fsm.specs.Plan.{EndsIn}
use Rattle.wdt_receiver_fsm.specs.PlainReceiver.{PlainReceiver, failed, goes, has_finish, lane_at, noted, with_lane}
use Rattle.wdt_receiver_fsm.specs.ReceiverHistory.{EndPast, end_after, end_from, end_of, end_of-append, first_of}
use Rattle.wdt_receiver_fsm.specs.Sets.{set_of}
use Rattle.wdt_receiver_fsm.specs.Turn.{Given, Put, Step, begins_by, drops_lane, file_of_header, given_up, greets_by, idles_lane, knows, lands, leaves, met_by, next_take, sized_by, tells_failure, turn_plan, waited_lane}
use Rattle.wdt_sender_fsm.specs.Rules.{by_voice}
use Rattle.wdt_receiver_fsm.proofs.ForCallers.{end_comes, lane_set}
use Rattle.wdt_pact.specs.World.{number}

-- ---- a receiver in which none of it changes

module _ (r : PlainReceiver) (l : ℕ) where
  -- it knows what another does, and its lane l read the same number
  record Keeps (t : PlainReceiver) : Type 0 where
    met : (end_of t.history).met ≡ (end_of r.history).met
    sized : (end_of t.history).sized ≡ (end_of r.history).sized
    known : t.known ≡ r.known
    conn : (lane_at t l).conn ≡ (lane_at r l).conn
    lanes : length t.lanes ≡ length r.lanes

  keeps_self : Keeps r
  keeps_self = record { met = refl; sized = refl; known = refl; conn = refl; lanes = refl }

  -- an entry that tells of neither
  keeps_noted : (t : PlainReceiver) (e : RecvEvent) → ((n : EndPast) → ((end_after n e).met ≡ n.met) × ((end_after n e).sized ≡ n.sized)) → Keeps t → Keeps (noted t (e ∷ []))
  keeps_noted t e quiet k =
      record {
        met = ap (λ (n : EndPast). n.met) (end_of-append t.history (e ∷ [])) ∙ ((quiet (end_of t.history)).0 ∙ k.met);
        sized = ap (λ (n : EndPast). n.sized) (end_of-append t.history (e ∷ [])) ∙ ((quiet (end_of t.history)).1 ∙ k.sized);
        known = k.known;
        conn = k.conn;
        lanes = k.lanes;
      }

  keeps_failed : (t : PlainReceiver) (answer : EndAnswer) → Keeps t → Keeps (failed t answer)
  keeps_failed t answer k = record { met = k.met; sized = k.sized; known = k.known; conn = k.conn; lanes = k.lanes }

  module _ (within : l < length r.lanes) where
    below : (t : PlainReceiver) → Keeps t → l < length t.lanes
    below t k = subst (λ (n : ℕ). l < n) (sym k.lanes) within

    keeps_put : (t : PlainReceiver) (lane : RecvLane) → lane.conn ≡ (lane_at t l).conn → Keeps t → Keeps (with_lane t l lane)
    keeps_put t lane same k =
        record {
          met = k.met;
          sized = k.sized;
          known = k.known;
          conn = ap (λ (x : RecvLane). x.conn) (lane_set t l lane (below t k)) ∙ (same ∙ k.conn);
          lanes = length-set t.lanes l lane ∙ k.lanes;
        }

    keeps_goes : (t : PlainReceiver) (st : RecvState) → Keeps t → Keeps (goes t l st)
    keeps_goes t st k = keeps_put t record (lane_at t l) { state = st } refl k

    keeps_logged_by : (t : PlainReceiver) (bs : List Block) → Keeps t → Keeps (all_logged_by t bs)
    keeps_logged_by t [] k = k
    keeps_logged_by t (b ∷ bs) k = record { met = k.met; sized = k.sized; known = k.known; conn = k.conn; lanes = k.lanes }

    keeps_logged : (t : PlainReceiver) → Keeps t → Keeps (all_logged t)
    keeps_logged t k = keeps_logged_by t t.unlogged k

    -- the lane gives up
    keeps_fails : (t : PlainReceiver) (answer : EndAnswer) (mute : Bool) → Keeps t → Keeps (by_voice mute (leaves (failed t answer) (number l)) (tells_failure (failed t answer) (number l))).1
    keeps_fails t answer true k = keeps_goes (failed t answer) states.Ended (keeps_failed t answer k)
    keeps_fails t answer false k = keeps_goes (failed t answer) states.SendAbort (keeps_failed t answer k)

    -- a block lands
    keeps_lands : (t : PlainReceiver) (b : Block) → Keeps t → Keeps (lands t (number l) b)
    keeps_lands t b k = let x = keeps_noted t (events.Land (number l)) (λ n. (refl, refl)) k in record { met = x.met; sized = x.sized; known = x.known; conn = x.conn; lanes = x.lanes }

    keeps_begins : (t : PlainReceiver) (b : Block) (left : ℕ) → Keeps t → Keeps (begins_by t (number l) b left).1
    keeps_begins t b zero k =
        let u : PlainReceiver = noted t (events.Begin (number l) b ∷ []) in
        keeps_goes (lands u (number l) b) states.ReadNextCmd (keeps_lands u b (keeps_noted t (events.Begin (number l) b) (λ n. (refl, refl)) k))
    keeps_begins t b (suc left) k =
        let u : PlainReceiver = noted t (events.Begin (number l) b ∷ []) in
        keeps_put u record (lane_at u l) { state = states.TakeBlock; left = suc left } refl (keeps_noted t (events.Begin (number l) b) (λ n. (refl, refl)) k)

    -- the lane is given up
    keeps_given : (t : PlainReceiver) (come : Bool) → Keeps t → Keeps (noted t (given_up (number l) come ∷ []))
    keeps_given t true k = keeps_noted t (events.Quit (number l)) (λ n. (refl, refl)) k
    keeps_given t false k = keeps_noted t (events.Close (number l)) (λ n. (refl, refl)) k

-- ---- a step

-- what of it changed was read in this step
pub record Learns (r : PlainReceiver) (l : ℕ) (put : Put) (t : PlainReceiver) : Type 0 where
  pub met : (s : Settings) → (end_of t.history).met ≡ Some s → ((end_of r.history).met ≡ Some s) ⊎ (put ≡ Given (inputs.Got (frames.Settings s)))
  pub sized : (x : ℕ × ℕ) → (end_of t.history).sized ≡ Some x → ((end_of r.history).sized ≡ Some x) ⊎ (put ≡ Given (inputs.Got (frames.Size x.0 x.1)))
  pub known : (t.known ≡ r.known) ⊎ ((h : Header) × (put ≡ Given (inputs.Got (frames.Block h))) × (is_new r.known h ≡ true) × (t.known ≡ with_known r.known (file_of_header h)))
  pub conn : ((lane_at t l).conn ≡ (lane_at r l).conn) ⊎ ((s : Settings) × (put ≡ Given (inputs.Got (frames.Settings s))) × ((lane_at t l).conn ≡ s.conn.0))

kept : (r : PlainReceiver) (l : ℕ) (put : Put) (t : PlainReceiver) → Keeps r l t → Learns r l put t
kept r l put t k =
    record {
      met = λ s e. inl (sym k.met ∙ e);
      sized = λ x e. inl (sym k.sized ∙ e);
      known = inl k.known;
      conn = inl k.conn;
    }

module _ (r : PlainReceiver) (l : ℕ) (put : Put) (within : l < length r.lanes) where
  abbrev Stays : PlainReceiver → Type 0
  Stays t = Keeps r l t

  self : Keeps r l r
  self = keeps_self r l

  point : (t : PlainReceiver) → outcomes.Idles r (number l) put t → Keeps r l t
  point t (ByDone serves sized given is) =
      subst Stays (sym is) (keeps_put r l within (noted r (events.Idle (number l) ∷ [])) record (lane_at r l) { has_waited = false } refl (keeps_noted r l r (events.Idle (number l)) (λ n. (refl, refl)) self))
  point t (ByWait serves given is) = subst Stays (sym is) (keeps_put r l within r record (lane_at r l) { has_waited = true } refl self)
  point t (ByWaking serves given is) = subst Stays (sym is) self

  landed : (b : Block) → Keeps r l (landed_by r (number l) b)
  landed b = keeps_lands r l within (with_lane r l record (lane_at r l) { left = 0 }) b (keeps_put r l within r record (lane_at r l) { left = 0 } refl self)

  -- the finish that falls short leaves the history
  short_keeps : (t : PlainReceiver) → Keeps r l t → Keeps r l (record (all_logged t) { history = r.history })
  short_keeps t k = let x = keeps_logged r l within t k in record { met = refl; sized = refl; known = x.known; conn = x.conn; lanes = x.lanes }

  failing : (t : PlainReceiver) (answer : EndAnswer) (mute : Bool) → outcomes.Fails r (number l) put t answer mute → Keeps r l t
  failing t answer mute (OfMemory m going given here is) = self
  failing t answer mute (OfSender st code serves reads given) = keeps_noted r l r (events.Abort (number l) code) (λ n. (refl, refl)) self
  failing t answer mute (OfPeer st kind serves reads mistake) = keeps_noted r l r (events.Peer (number l) kind) (λ n. (refl, refl)) self
  failing t answer mute (OfShort u kind finishes short) = keeps_noted r l (record (all_logged u) { history = r.history }) (events.Peer (number l) kind) (λ n. (refl, refl)) (short_keeps u (point u finishes.idles))
  failing t answer mute (OfMake h serves sized given fault new) = self
  failing t answer mute (OfWrite bytes b serves given begun) = self
  failing t answer mute (OfLog b lands full) = landed b
  failing t answer mute (OfFinish u finishes) = point u finishes.idles

  wants : (t : PlainReceiver) → outcomes.Listens r (number l) put t → Keeps r l t
  wants t (AtFirst serves given) = self
  wants t (ByNoLink serves given) = keeps_noted r l r (events.NoLink (number l)) (λ n. (refl, refl)) self
  wants t (ByLoss st serves linked given) =
      keeps_put r l within (noted r (events.Dropped (number l) ∷ [])) record (lane_at r l) { is_sized = false; has_waited = false; left = 0 } refl
      (keeps_noted r l r (events.Dropped (number l)) (λ n. (refl, refl)) self)

  reads_on : (t : PlainReceiver) → outcomes.ReadsOn r (number l) put t → Keeps r l t
  reads_on t (ByGreeting serves given asks) = self
  reads_on t (ByChunks serves given) = self
  reads_on t (ByMarks serves given) = self
  reads_on t (ByLanding b lands few) = landed b
  reads_on t (ByLogging b lands full) = keeps_logged r l within (landed_by r (number l) b) (landed b)

  concludes : (t : PlainReceiver) → outcomes.Concludes r (number l) put t → Keeps r l t
  concludes t (WasFinished u idles come) = point u idles
  concludes t (IsFinished u fin none) = keeps_noted r l (all_logged u) events.Finish (λ n. (refl, refl)) (keeps_logged r l within u (point u fin.idles))

  -- a block begins, whose file is known from now on
  new_file : (h : Header) (b : Block) (left : ℕ) → put ≡ Given (inputs.Got (frames.Block h)) → is_new r.known h ≡ true → Learns r l put (begins_by (knows r h) (number l) b left).1
  new_file h b left given new =
      let k = keeps_begins (knows r h) l within (knows r h) b left (keeps_self (knows r h) l) in
      record {
        met = λ s e. inl (sym k.met ∙ e);
        sized = λ x e. inl (sym k.sized ∙ e);
        known = inr (h, given, new, k.known);
        conn = inl k.conn;
      }

  begun : (t : PlainReceiver) (b : Block) → outcomes.Begins r (number l) put t b → Learns r l put (begins_by t (number l) b b.length).1
  begun t b (OfKnown h serves sized given fault old) = kept r l put (begins_by r (number l) b b.length).1 (keeps_begins r l within r b b.length self)
  begun t b (OfNew h serves sized given fault new) = new_file h b b.length given new

  -- the first of two
  first_is : {A : Type 0} (o : Option A) (x y : A) → first_of o x ≡ Some y → (o ≡ Some y) ⊎ (x ≡ y)
  first_is None x y e = inr (same_Some x y e)
  first_is (Some z) x y e = inl e

  greets : (s : Settings) (met come : Bool) → put ≡ Given (inputs.Got (frames.Settings s)) → Learns r l put (greets_by (met_by r (number l) s met) (number l) s come).1
  greets s met come given = go met come where
    seen : (t : PlainReceiver) (lane : RecvLane) → ((x : Settings) → (end_of t.history).met ≡ Some x → ((end_of r.history).met ≡ Some x) ⊎ (s ≡ x)) → (end_of t.history).sized ≡ (end_of r.history).sized → t.known ≡ r.known
        → length t.lanes ≡ length r.lanes → lane.conn ≡ s.conn.0 → Learns r l put (with_lane t l lane)
    seen t lane m z k n c =
        record {
          met = λ x e. elim (m x e) [ inl old ↦ inl old | inr is ↦ inr (given ∙ ap (λ (y : Settings). Given (inputs.Got (frames.Settings y))) is) ];
          sized = λ x e. inl (sym z ∙ e);
          known = inl k;
          conn = inr (s, given, ap (λ (x : RecvLane). x.conn) (lane_set t l lane (subst (λ (i : ℕ). l < i) (sym n) within)) ∙ c);
        }

    first : (x : Settings) → (end_of (r.history ++ events.Met (number l) s ∷ [])).met ≡ Some x → ((end_of r.history).met ≡ Some x) ⊎ (s ≡ x)
    first x e = first_is (end_of r.history).met s x (sym (ap (λ (n : EndPast). n.met) (end_of-append r.history (events.Met (number l) s ∷ []))) ∙ e)

    same : (end_of (r.history ++ events.Met (number l) s ∷ [])).sized ≡ (end_of r.history).sized
    same = ap (λ (n : EndPast). n.sized) (end_of-append r.history (events.Met (number l) s ∷ []))

    go : (a b : Bool) → Learns r l put (greets_by (met_by r (number l) s a) (number l) s b).1
    go true true = seen r record (lane_at r l) { state = states.SendDone; ask = s.ask; conn = s.conn.0 } (λ x e. inl e) refl refl refl refl
    go true false = seen r record (lane_at r l) { state = states.SendLocalCheckpoint; ask = s.ask; conn = s.conn.0 } (λ x e. inl e) refl refl refl refl
    go false true = seen (noted r (events.Met (number l) s ∷ [])) record (lane_at r l) { state = states.SendDone; ask = s.ask; conn = s.conn.0 } first same refl refl refl
    go false false = seen (noted r (events.Met (number l) s ∷ [])) record (lane_at r l) { state = states.SendLocalCheckpoint; ask = s.ask; conn = s.conn.0 } first same refl refl refl

  sizes : (files bytes : ℕ) (sized : Bool) → put ≡ Given (inputs.Got (frames.Size files bytes)) → Learns r l put (with_lane (sized_by r (number l) files bytes sized) l record (lane_at r l) { is_sized = true })
  sizes files bytes true given = kept r l put (with_lane r l record (lane_at r l) { is_sized = true }) (keeps_put r l within r record (lane_at r l) { is_sized = true } refl self)
  sizes files bytes false given =
      record {
        met = λ s e. inl (sym (ap (λ (n : EndPast). n.met) (end_of-append r.history (events.Sized (number l) files bytes ∷ []))) ∙ e);
        sized = λ x e. elim (first_is (end_of r.history).sized (files, bytes) x (sym (ap (λ (n : EndPast). n.sized) (end_of-append r.history (events.Sized (number l) files bytes ∷ []))) ∙ e)) [
          | inl old ↦ inl old
          | inr is ↦ inr (given ∙ ap (λ (y : ℕ × ℕ). Given (inputs.Got (frames.Size y.0 y.1))) is)
        ];
        known = inl refl;
        conn = inl (ap (λ (x : RecvLane). x.conn) (lane_set (noted r (events.Sized (number l) files bytes ∷ [])) l record (lane_at r l) { is_sized = true } within));
      }

  -- the lane goes on to a state
  moves : (t : PlainReceiver) (st : RecvState) → Keeps r l t → Learns r l put (goes t l st)
  moves t st k = kept r l put (goes t l st) (keeps_goes r l within t st k)

  outcome_learns : (o : Outcome) → ComesOf r (number l) put o → Learns r l put (came_to r (number l) o).1
  outcome_learns Rested of = kept r l put r self
  outcome_learns Left of = moves r states.Ended self
  outcome_learns Warned of = moves r states.SendAbort self
  outcome_learns (Failed t answer mute) of = kept r l put (came_to r (number l) (Failed t answer mute)).1 (keeps_fails r l within t answer mute (failing t answer mute of))
  outcome_learns (GivenUp t) of = moves (noted t (given_up (number l) (has_finish t) ∷ [])) states.Ended (keeps_given r l within t (has_finish t) (wants t of.0))
  outcome_learns (Listened t) of = moves t states.Listen (wants t of.0)
  outcome_learns Linked of =
      let u : PlainReceiver = noted r (events.Take (number l) (next_take r (number l)) ∷ []) in
      let lane : RecvLane = record (lane_at r l) { state = states.ReadSettings; is_sized = false; has_waited = false } in
      kept r l put (with_lane u l lane) (keeps_put r l within u lane refl (keeps_noted r l r (events.Take (number l) (next_take r (number l))) (λ n. (refl, refl)) self))
  outcome_learns (Greeted s) of = greets s (is_some (end_of r.history).met) (has_finish r) of.1
  outcome_learns Listed of = moves r states.SendFileChunks self
  outcome_learns (ReadOn t) of = moves t states.ReadNextCmd (reads_on t of)
  outcome_learns (Sized files bytes) of = sizes files bytes (is_some (end_of r.history).sized) of.2
  outcome_learns (Begun t b) of = begun t b of
  outcome_learns (Taken left) of =
      let lane : RecvLane = record (lane_at r l) { state = states.TakeBlock; left = left } in kept r l put (with_lane r l lane) (keeps_put r l within r lane refl self)
  outcome_learns (Concluded t) of = moves t states.SendDone (concludes t of)
  outcome_learns (Told t q qs) of =
      moves (noted t (events.Told (number l) (set_of (q ∷ qs)) ∷ [])) states.SendGlobalCheckpoint (keeps_noted r l t (events.Told (number l) (set_of (q ∷ qs))) (λ n. (refl, refl)) (point t of.idles))
  outcome_learns (Waited t true) of = moves t states.WaitForFinish (point t of.0.idles)
  outcome_learns (Waited t false) of = moves t states.SendWait (point t of.0.idles)
  outcome_learns Ended of = moves r states.ReadAck self
  outcome_learns Acknowledged of = moves (noted r (events.Acked (number l) ∷ [])) states.Ended (keeps_noted r l r (events.Acked (number l)) (λ n. (refl, refl)) self)

  pub turn_learns : (step : Step) → EndsIn (Unit {0}) (turn_plan r (number l) put) step → Learns r l put step.1
  turn_learns step ends = let x = end_comes r (number l) put (Unit {0}) step ends in subst (λ (y : Step). Learns r l put y.1) (sym x.is) (outcome_learns x.outcome x.of)
