-- The choices of an idle lane of the receiver: it waits, tells of closed lanes, or says the last word where the finish
-- has come.
use Rattle.std.proofs.Common.{◌≡◌, ℕ, ◌<◌, ◌&&◌, not, Bool, true, false, List, [], ◌∷◌, ◌++◌, length, map, option_map, filter, is_some, if◌then◌else◌, Option, Some, None, subst, sym, ap, ◌∙◌, refl, eq-eqb}
use Rattle.std.proofs.lemmas.Bool.{and_parts, both_ways}
use Rattle.wdt_units.specs.declared.blocks.Block.{Block}
use Rattle.wdt_codec.specs.declared.frames.Frame.TheVariants as frames
use Rattle.wdt_logfmt.specs.Beginning.{known_at}
use Rattle.wdt_sender_fsm.specs.Phases.{Asked, Message}
use Rattle.wdt_sender_fsm.specs.Rules.{is_failure}
use Rattle.wdt_receiver_fsm.specs.declared.acts.RecvAct.TheVariants as recv_acts
use Rattle.wdt_receiver_fsm.specs.declared.events.RecvEvent.{RecvEvent}
use Rattle.wdt_receiver_fsm.specs.declared.events.RecvEvent.TheVariants as recv_events
use Rattle.wdt_receiver_fsm.specs.declared.inputs.RecvIn.TheVariants as recv_inputs
use Rattle.wdt_receiver_fsm.specs.declared.states.RecvLane.{RecvLane}
use Rattle.wdt_receiver_fsm.specs.declared.states.RecvState.{RecvState}
use Rattle.wdt_receiver_fsm.specs.declared.states.RecvState.TheVariants as recv_states
use Rattle.wdt_receiver_fsm.specs.Outcomes.{ByDone, ByWait, ByWaking, Idles}
use Rattle.wdt_receiver_fsm.specs.Phases as recv
use Rattle.wdt_receiver_fsm.specs.Plan.{EndsIn}
use Rattle.wdt_receiver_fsm.specs.PlainReceiver.{PlainReceiver, has_finish, is_ended, lane_at, mark_of, noted, past_at, state_at, untold_at}
use Rattle.wdt_receiver_fsm.specs.Ready as ready
use Rattle.wdt_receiver_fsm.specs.Receiver.{Fares}
use Rattle.wdt_receiver_fsm.specs.ReceiverHistory.{RecvPast, end_of, past_of}
use Rattle.wdt_receiver_fsm.specs.Sets.{has, lanes_of, numbers, set_of}
use Rattle.wdt_receiver_fsm.specs.Turn.{Put, Step, idles_lane, says_done, tells_by, turn_plan, waited_lane, waits_by}
use Rattle.wdt_receiver_fsm.specs.Writes.{CanTell, FitsPut}
use Rattle.wdt_pact.specs.Belongs.{RecvBelongsAt}
use Rattle.wdt_pact.specs.Each.{Each}
use Rattle.wdt_pact.specs.Pairs.{RecvHold, RecvDoes, RecvHas, recv_gets}
use Rattle.wdt_pact.specs.World.{PlainWorld, number, pair_at, recv_turned}
use Rattle.wdt_pact.specs.Stances.{Talks, recv_stance}
use Rattle.wdt_pact.specs.Lists.{blocks_in, has_done, in_hand}
use Rattle.wdt_pact.specs.Conversation.{Common, Conversation, Converses, Grows, IsIdle, IsNoMarks, Marks, Pieces, Tells, closed_by, common, known_header, receiving, sending, sends, to_say, upward_by}
use Rattle.wdt_pact.proofs.RecvHands.{Hands, holds_input, holds_park}
use Rattle.wdt_pact.proofs.RecvMoves.{becomes_idle, stays_here, still_idle}
use Rattle.wdt_pact.proofs.RecvOwn.{Own, others_past, own_goes, own_noted, own_put, own_self}
use Rattle.wdt_pact.proofs.RecvRows.{recv_fares, recv_row_at}
use Rattle.wdt_pact.proofs.RecvSteps.{own_keeps, said_fits}

-- the lane's part as it is before the step, but for what it says
abbrev pub IdleThere : PlainWorld → ℕ → Type 0
IdleThere w l =
    IsIdle (sending w.sender l).kept (receiving w.receiver l).landed (sending w.sender l).past.claims.held (pair_at w l).newest (sends (sending w.sender l) (pair_at w l))
    (upward_by (pair_at w l).newest (pair_at w l).taken (pair_at w l).send (RecvDoes recv_acts.Park))

-- The lane is idle, and the receiver is t as it chooses: how the lane stood, what it held, and how it stands in t.
pub record IdlePoint (w : PlainWorld) (l : ℕ) (t : PlainReceiver) : Type 0 where
  pub st : RecvState
  pub held : RecvHold
  pub lane : RecvLane
  pub past : RecvPast
  pub here : state_at w.receiver l ≡ st
  pub holds : (pair_at w l).recv ≡ held
  pub lives : is_ended st ≡ false
  pub own : Own w.receiver t l w.receiver.known lane past
  pub landed : past.landed ≡ (past_at w.receiver l).landed
  pub begun : past.begun ≡ (past_at w.receiver l).begun
  pub closed : past.is_closed ≡ (past_at w.receiver l).is_closed
  pub none : (past_at w.receiver l).begun ≡ None
  pub opens : (past_at w.receiver l).is_closed ≡ false
  pub idle : past.is_idle ≡ true
  pub mute : to_say held ≡ []
  pub blocks : (ds : List Message) → blocks_in (in_hand held ++ ds) ≡ blocks_in ds
  pub done : (ds : List Message) → has_done ds ≡ true → has_done (in_hand held ++ ds) ≡ true
  pub talks : recv_stance (record (lane_at w.receiver l) { state = st }) (past_at w.receiver l).is_idle (past_at w.receiver l).is_acked held ≡ Talks Asked
  pub waits : IdleThere w l

-- ---- the three points

module _ (w : PlainWorld) (l : ℕ) (c : Conversation w) (within : l < length w.pairs) where
  below : l < length w.receiver.lanes
  below = subst (λ (n : ℕ). l < n) (sym c.recv_lanes) within

  -- the last word was read
  by_done : state_at w.receiver l ≡ recv_states.ReadNextCmd → (lane_at w.receiver l).is_sized ≡ true → (pair_at w l).recv ≡ RecvHas (recv_inputs.Got frames.Done) → IdlePoint w l (idles_lane w.receiver (number l))
  by_done here sized holds =
      record {
        st = recv_states.ReadNextCmd;
        held = RecvHas (recv_inputs.Got frames.Done);
        lane = record (lane_at w.receiver l) { has_waited = false };
        past = record (past_at w.receiver l) { is_idle = true; telling = [] };
        here = here;
        holds = holds;
        lives = refl;
        own = own_put w.receiver (noted w.receiver (recv_events.Idle (number l) ∷ [])) l w.receiver.known (lane_at w.receiver l) (record (past_at w.receiver l) { is_idle = true; telling = [] }) (record (lane_at w.receiver l) { has_waited = false }) below
            (own_noted w.receiver w.receiver l w.receiver.known (lane_at w.receiver l) (past_at w.receiver l) (recv_events.Idle (number l) ∷ []) (record (past_at w.receiver l) { is_idle = true; telling = [] }) (rw (eq-eqb l l refl) refl) refl (own_self w.receiver l));
        landed = refl;
        begun = refl;
        closed = refl;
        none = fares.1;
        opens = fares.0.goes_on.closed;
        idle = refl;
        mute = refl;
        blocks = λ ds. refl;
        done = λ ds e. refl;
        talks = talks;
        waits = becomes_idle (common w.receiver) (common w.receiver) l same (sending w.sender l) (receiving w.receiver l).landed (pair_at w l).send (pair_at w l).taken (pair_at w l).between (pair_at w l).newest (pair_at w l).denies (pair_at w l).refusals recv_acts.Park
            (record (lane_at w.receiver l) { state = recv_states.ReadNextCmd }) (past_at w.receiver l) (option_map (known_header w.receiver.known) (past_at w.receiver l).begun) (ap (option_map (known_header w.receiver.known)) fares.1) tt talks
            (recv_row_at w l recv_states.ReadNextCmd (RecvHas (recv_inputs.Got frames.Done)) c within here holds);
      } where
        fares : Fares (is_failure w.receiver.answer) recv_states.ReadNextCmd (lane_at w.receiver l) (past_at w.receiver l) (end_of w.receiver.history)
        fares = recv_fares w l recv_states.ReadNextCmd c within here

        same : Grows (common w.receiver) (common w.receiver)
        same = record { have = refl; finish = refl; closed = λ k n e. e }

        talks : recv_stance (record (lane_at w.receiver l) { state = recv_states.ReadNextCmd }) (past_at w.receiver l).is_idle (past_at w.receiver l).is_acked (RecvHas (recv_inputs.Got frames.Done)) ≡ Talks Asked
        talks = ap (λ (b : Bool). recv_stance (record (lane_at w.receiver l) { state = recv_states.ReadNextCmd; is_sized = b }) (past_at w.receiver l).is_idle (past_at w.receiver l).is_acked (RecvHas (recv_inputs.Got frames.Done))) sized

  -- the word to wait is written
  by_wait : state_at w.receiver l ≡ recv_states.SendWait → (pair_at w l).recv ≡ RecvHas recv_inputs.Wrote → IdlePoint w l (waited_lane w.receiver (number l))
  by_wait here holds =
      record {
        st = recv_states.SendWait;
        held = RecvHas recv_inputs.Wrote;
        lane = record (lane_at w.receiver l) { has_waited = true };
        past = past_at w.receiver l;
        here = here;
        holds = holds;
        lives = refl;
        own = own_put w.receiver w.receiver l w.receiver.known (lane_at w.receiver l) (past_at w.receiver l) (record (lane_at w.receiver l) { has_waited = true }) below (own_self w.receiver l);
        landed = refl;
        begun = refl;
        closed = refl;
        none = fares.0.begun;
        opens = fares.0.goes_on.closed;
        idle = fares.0.idle;
        mute = refl;
        blocks = λ ds. refl;
        done = λ ds e. e;
        talks = refl;
        waits = (recv_row_at w l recv_states.SendWait (RecvHas recv_inputs.Wrote) c within here holds).idle fares.0.idle;
      } where
        fares : Fares (is_failure w.receiver.answer) recv_states.SendWait (lane_at w.receiver l) (past_at w.receiver l) (end_of w.receiver.history)
        fares = recv_fares w l recv_states.SendWait c within here

  -- the lane waits, and is woken
  by_waking : state_at w.receiver l ≡ recv_states.WaitForFinish → (pair_at w l).recv ≡ RecvDoes recv_acts.Park → IdlePoint w l w.receiver
  by_waking here holds =
      record {
        st = recv_states.WaitForFinish;
        held = RecvDoes recv_acts.Park;
        lane = lane_at w.receiver l;
        past = past_at w.receiver l;
        here = here;
        holds = holds;
        lives = refl;
        own = own_self w.receiver l;
        landed = refl;
        begun = refl;
        closed = refl;
        none = fares.0.begun;
        opens = fares.0.goes_on.closed;
        idle = fares.0.idle;
        mute = refl;
        blocks = λ ds. refl;
        done = λ ds e. e;
        talks = refl;
        waits = (recv_row_at w l recv_states.WaitForFinish (RecvDoes recv_acts.Park) c within here holds).idle fares.0.idle;
      } where
        fares : Fares (is_failure w.receiver.answer) recv_states.WaitForFinish (lane_at w.receiver l) (past_at w.receiver l) (end_of w.receiver.history)
        fares = recv_fares w l recv_states.WaitForFinish c within here

  pub idle_point : (put : Put) (t : PlainReceiver) → Hands (pair_at w l).recv put → RecvBelongsAt w l → Idles w.receiver (number l) put t → IdlePoint w l t
  idle_point put t hands belongs (ByDone serves sized given is) = subst (IdlePoint w l) (sym is) (by_done serves.here sized (holds_input (pair_at w l).recv put (recv_inputs.Got frames.Done) hands given refl))
  idle_point put t hands belongs (ByWait serves given is) = subst (IdlePoint w l) (sym is) (by_wait serves.here (holds_input (pair_at w l).recv put recv_inputs.Wrote hands given refl))
  idle_point put t hands belongs (ByWaking serves given is) = subst (IdlePoint w l) (sym is) (by_waking serves.here (holds_park (pair_at w l).recv put (lane_at w.receiver l) (past_at w.receiver l) hands given belongs))

-- ---- what the lane does

-- closed lanes that are told of are so
mark_marks : (g : Common) (h : List RecvEvent) (k l : ℕ) → g.closed k ≡ Some (length (past_of h k).landed) → (k ≡ l → ⊥) → Marks g l (mark_of h k)
unfolding mark_of
mark_marks g h k l closed ne = (closed, ne)

filter_each : (f : ℕ → Bool) (xs : List ℕ) → Each (λ (x : ℕ). f x ≡ true) (filter f xs)
filter_each f [] = tt
filter_each f (x ∷ xs) = go (filter_each f xs) (f x) refl where
  go : Each (λ (y : ℕ). f y ≡ true) (filter f xs) → (b : Bool) → f x ≡ b → Each (λ (y : ℕ). f y ≡ true) (if b then x ∷ filter f xs else filter f xs)
  go more true is = (is, more)
  go more false is = more

module _ (w : PlainWorld) (l : ℕ) (c : Conversation w) (within : l < length w.pairs) (tells : CanTell w.receiver) (put : Put) (fits : FitsPut put) (t : PlainReceiver) (at : IdlePoint w l t) where
  abbrev Ends : Step → Type 0
  Ends step = EndsIn (Unit {0}) (turn_plan w.receiver (number l) put) step

  -- behind each choice the sender has the word to hear
  pub point_keeps : (step : Step) (after : RecvLane) (later : RecvPast) → Ends step → Own w.receiver step.1 l w.receiver.known after later
      → later.landed ≡ (past_at w.receiver l).landed → later.begun ≡ (past_at w.receiver l).begun → later.is_closed ≡ (past_at w.receiver l).is_closed
      → recv_stance after later.is_idle later.is_acked (RecvDoes step.0) ≡ Talks Asked
      → (Grows (common w.receiver) (common step.1) → Each (Tells (common step.1) l (receiving w.receiver l).landed) (to_say (RecvDoes step.0)))
      → Pieces after.left (RecvDoes step.0) → (later.is_idle ≡ true → Each IsNoMarks (to_say (RecvDoes step.0)))
      → Conversation (recv_turned w l step)
  point_keeps step after later ends own land begin closed stands told pieces quiet =
      own_keeps w l put step w.receiver.known after later c within ends (ap is_ended at.here ∙ at.lives) own
      record {
        landed = subst (λ (bs : List Block). Each (λ (b : Block). is_some (known_at w.receiver.known b.file) ≡ true) bs) (sym land) (c.named l within).landed;
        begun = λ b e. (c.named l within).begun b (sym begin ∙ e);
      }
      (λ grows.
      subst (λ (bs : List Block). Converses (common step.1) l (sending w.sender l) record { lane = after; past = later; landed = map (known_header w.receiver.known) bs; begun = option_map (known_header w.receiver.known) later.begun } (recv_gets (pair_at w l) step.0)) (sym land)
      (subst (λ (o : Option Block). Converses (common step.1) l (sending w.sender l) record { lane = after; past = later; landed = (receiving w.receiver l).landed; begun = option_map (known_header w.receiver.known) o } (recv_gets (pair_at w l) step.0)) (sym begin)
      (stays_here (common w.receiver) (common step.1) l grows (sending w.sender l) (receiving w.receiver l).landed (pair_at w l).send (pair_at w l).taken (pair_at w l).between (pair_at w l).newest (pair_at w l).denies (pair_at w l).refusals at.held step.0
      (record (lane_at w.receiver l) { state = at.st }) after (past_at w.receiver l) later (receiving w.receiver l).begun at.mute (stands ∙ sym at.talks) at.blocks at.done (told grows) (said_fits w l put step c within tells fits ends) pieces
      (λ e. still_idle (common w.receiver) (common step.1) l grows (sending w.sender l) (receiving w.receiver l).landed (pair_at w l).send (pair_at w l).taken (pair_at w l).between (pair_at w l).newest (pair_at w l).denies (pair_at w l).refusals (RecvDoes recv_acts.Park) step.0 refl (quiet e) at.waits)
      closed
      (recv_row_at w l at.st at.held c within at.here at.holds))))

  small : l < length w.receiver.lanes
  small = subst (λ (n : ℕ). l < n) (sym c.recv_lanes) within

  -- the sender is to wait, or the lane waits itself
  pub waited_keeps : (again : Bool) → Ends (waits_by t (number l) again) → Conversation (recv_turned w l (waits_by t (number l) again))
  waited_keeps true ends =
      point_keeps (waits_by t (number l) true) (record at.lane { state = recv_states.WaitForFinish }) at.past ends (own_goes w.receiver t l w.receiver.known at.lane at.past recv_states.WaitForFinish small at.own) at.landed at.begun at.closed refl (λ grows. tt) tt (λ e. tt)
  waited_keeps false ends =
      point_keeps (waits_by t (number l) false) (record at.lane { state = recv_states.SendWait }) at.past ends (own_goes w.receiver t l w.receiver.known at.lane at.past recv_states.SendWait small at.own) at.landed at.begun at.closed refl (λ grows. (tt, tt)) tt (λ e. (tt, tt))

  -- the finish has come, and the lane says the last word
  pub says_keeps : has_finish w.receiver ≡ true → Ends (says_done t (number l)) → Conversation (recv_turned w l (says_done t (number l)))
  says_keeps come ends =
      point_keeps (says_done t (number l)) (record at.lane { state = recv_states.SendDone }) at.past ends (own_goes w.receiver t l w.receiver.known at.lane at.past recv_states.SendDone small at.own) at.landed at.begun at.closed
      (ap (λ (b : Bool). Talks (recv.asked_by b at.lane.ask)) at.idle) (λ grows. (grows.finish ∙ come, tt)) tt (λ e. (tt, tt))

  -- the lane tells of closed lanes
  pub told_keeps : (q : ℕ) (qs : List ℕ) → untold_at t l ≡ q ∷ qs → Ends (tells_by t (number l) (q ∷ qs)) → Conversation (recv_turned w l (tells_by t (number l) (q ∷ qs)))
  told_keeps q qs is ends =
      point_keeps (tells_by t (number l) (q ∷ qs)) (record at.lane { state = recv_states.SendGlobalCheckpoint }) later ends
      (own_goes w.receiver (noted t es) l w.receiver.known at.lane later recv_states.SendGlobalCheckpoint small
      (own_noted w.receiver t l w.receiver.known at.lane at.past es later (rw (eq-eqb l l refl) refl) refl at.own))
      at.landed at.begun at.closed refl (λ grows. (each (q ∷ qs) all, tt)) tt (λ e. cc) where
        es : List RecvEvent
        es = recv_events.Told (number l) (set_of (q ∷ qs)) ∷ []

        later : RecvPast
        later = record at.past { is_idle = false; told = at.past.told ++ lanes_of (set_of (q ∷ qs)); telling = lanes_of (set_of (q ∷ qs)) }

        all : Each (λ (k : ℕ). ready.is_untold t.history l k ≡ true) (q ∷ qs)
        all = subst (λ (ks : List ℕ). Each (λ (k : ℕ). ready.is_untold t.history l k ≡ true) ks) is (filter_each (ready.is_untold t.history l) (numbers (length t.lanes)))

        shut : (k : ℕ) → ready.is_untold t.history l k ≡ true → (past_of t.history k).is_closed ≡ true
        shut k e = (and_parts (ready.is_closed t.history k) (not (ready.is_confirmed t.history k)) (and_parts (ready.is_closed t.history k && not (ready.is_confirmed t.history k)) (not (has (past_of t.history l).told k)) e).0).0

        apart : (k : ℕ) → ready.is_untold t.history l k ≡ true → k ≡ l → ⊥
        apart k e same = both_ways (past_of t.history l).is_closed (ap (λ (p : RecvPast). p.is_closed) at.own.past ∙ (at.closed ∙ at.opens)) (subst (λ (i : ℕ). (past_of t.history i).is_closed ≡ true) same (shut k e))

        marks : (k : ℕ) → ready.is_untold t.history l k ≡ true → Marks (common (tells_by t (number l) (q ∷ qs)).1) l (mark_of t.history k)
        marks k e =
            mark_marks (common (tells_by t (number l) (q ∷ qs)).1) t.history k l
            (ap closed_by (others_past t.history es l k (refl, tt) (apart k e)) ∙ ap (λ (b : Bool). if b then Some (length (past_of t.history k).landed) else None) (shut k e))
            (apart k e)

        each : (ks : List ℕ) → Each (λ (k : ℕ). ready.is_untold t.history l k ≡ true) ks → Each (Marks (common (tells_by t (number l) (q ∷ qs)).1) l) (map (mark_of t.history) ks)
        each [] e = tt
        each (k ∷ ks) e = (marks k e.0, each ks e.1)
