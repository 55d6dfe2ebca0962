-- As long as blocks wait, some lane may still take them, whatever happens.
use Rattle.std.proofs.Common.{◌≡◌, ◌≢◌, inl, inr, ℕ, suc, ◌<◌, ◌==◌, ◌||◌, Bool, true, false, List, [], ◌∷◌, ◌++◌, length, map, Option, Some, None, subst, sym, ap, ◌∙◌, refl, eq-eqb}
use Rattle.std.proofs.lemmas.Bool.{both_ways, cases_eq, false_from_ne_true}
use Rattle.std.proofs.lemmas.List.{length-set}
use Rattle.std.specs.List.{list_any}
use Rattle.wdt_codec.specs.declared.frames.Frame.TheVariants as frames
use Rattle.wdt_codec.specs.declared.frames.Mark.{Mark}
use Rattle.wdt_sender_fsm.specs.declared.inputs.SendIn.{SendIn}
use Rattle.wdt_sender_fsm.specs.Phases.{Open}
use Rattle.wdt_sender_fsm.specs.PlainSender.{is_closed, lane_at, past_at, waiting_blocks}
use Rattle.wdt_sender_fsm.specs.Rules.{is_failure}
use Rattle.wdt_sender_fsm.specs.Turn.{Step as SendStep, send_turn}
use Rattle.wdt_receiver_fsm.specs.declared.events.RecvEvent.{RecvEvent}
use Rattle.wdt_receiver_fsm.specs.declared.events.RecvEvent.TheVariants as events
use Rattle.wdt_receiver_fsm.specs.declared.inputs.RecvIn.TheVariants as recv_inputs
use Rattle.wdt_receiver_fsm.specs.declared.states.RecvLane.{RecvLane}
use Rattle.wdt_receiver_fsm.specs.declared.states.RecvState.TheVariants as recv_states
use Rattle.wdt_receiver_fsm.specs.Plan.{EndsIn}
use Rattle.wdt_receiver_fsm.specs.PlainReceiver as recv
use Rattle.wdt_receiver_fsm.specs.PlainReceiver.{PlainReceiver, has_finish}
use Rattle.wdt_receiver_fsm.specs.Ready.{is_confirmed}
use Rattle.wdt_receiver_fsm.specs.Receiver.{terms_of}
use Rattle.wdt_receiver_fsm.specs.ReceiverHistory.{EndPast, RecvPast, end_of, end_of-append, past_from, past_of, past_of-append}
use Rattle.wdt_receiver_fsm.specs.Sets.{has, set_of}
use Rattle.wdt_receiver_fsm.specs.Turn.{Given, Put, Step, turn_plan}
use Rattle.wdt_receiver_fsm.proofs.ForCallers.{tellers_tell, turn_touches}
use Rattle.wdt_pact.specs.Belongs.{SendBelongs}
use Rattle.wdt_pact.specs.Conversation.{to_say}
use Rattle.wdt_pact.specs.Finishing.{BusyBy, Finishing, IsBusy, coming_on, down_sent, is_coming, marked_in, receives_at, says_done, sends_at, telling}
use Rattle.wdt_pact.specs.Fitting.{IsSound, lane_of}
use Rattle.wdt_pact.specs.Links.{Link}
use Rattle.wdt_pact.specs.Lists.{in_hand}
use Rattle.wdt_pact.specs.Pairs.{Pair, RecvDoes, SendHold, SendDoes, SendHas, cuts_by, recv_does, recv_gets, send_does, send_takes, top}
use Rattle.wdt_pact.specs.Stances.{AgreeWaiting, IsTalking, OnLink, Stance, Talks, recv_stance, send_stance}
use Rattle.wdt_pact.specs.World.{PlainWorld, WorldEvent, Sends, Receives, Cut, Deny, Refuse, happens, number, pair_at, pair_or, recv_turn, recv_turned, send_turned}
use Rattle.wdt_pact.proofs.Below.{get_set}
use Rattle.wdt_pact.proofs.Busy.{own_busy, says_quiet}
use Rattle.wdt_pact.proofs.Coming.{cuts_word, steps_word, takes_word}
use Rattle.wdt_pact.proofs.Confirming.{SoundLanes, opens, point_closed, point_confirms, point_telling, quiet_idle, sound_before}
use Rattle.wdt_pact.proofs.Emptying.{recv_emptied}
use Rattle.wdt_pact.proofs.Events.{recv_cases, send_cases}
use Rattle.wdt_pact.proofs.Finishing.{comes as word_comes}
use Rattle.wdt_pact.proofs.Frame.{each_pair}
use Rattle.wdt_pact.proofs.Links.{waits_not}
use Rattle.wdt_pact.proofs.Moving.{lane_holds}
use Rattle.wdt_pact.proofs.RecvHands.{Hands, holds_input}
use Rattle.wdt_pact.proofs.RecvOwn.{others_past}
use Rattle.wdt_pact.proofs.RecvRows.{ends_in}
use Rattle.wdt_pact.proofs.RecvSeen as recv_seen
use Rattle.wdt_pact.proofs.RecvSeen.{Asks, Closes, Drops, Ends, NowIdle, Point, Seen, Stays, Tells, WasIdle}
use Rattle.wdt_pact.proofs.RecvTalks.{turn_spoke}
use Rattle.wdt_pact.proofs.SendSeen as send_seen
use Rattle.wdt_pact.proofs.SendSeen.{Empties, Frees, Hushes, SendsOn, Talks-on, stands_behind}
use Rattle.wdt_pact.proofs.Taken.{Witness, busy_on, coming_of, no_word, not_coming, pair_witness, recv_act_coming, send_act_coming}
use Rattle.wdt_pact.proofs.TellingAll.{SenderComes, Tellings, cuts_recv, marks_has}
use Rattle.wdt_pact.proofs.ToldLanes.{tells_closed}

-- ---- a turn of the sender's lane

abbrev pub Confirmed : PlainWorld → Type 0
Confirmed w = (q : ℕ) → is_confirmed w.receiver.history q ≡ true → is_closed w.sender q ≡ true

module _ (comes : SenderComes) (w : PlainWorld) (l : ℕ) (input : SendIn) (s : IsSound w) (f : Finishing w) (within : l < length w.pairs)
    (holds : (pair_at w l).send ≡ SendHas input) where
  abbrev step : SendStep
  step = send_turn w.sender (number l) input

  abbrev after : Pair
  after = send_takes (pair_at w l) input (past_at step.1 l).is_greeted step.0

  abbrev behind : PlainWorld
  behind = send_turned w l input step

  many : length behind.pairs ≡ length w.pairs
  many = length-set w.pairs l after

  -- the same blocks wait as before
  same_witness : ((newest : Option Link) → says_done newest (SendDoes step.0) ≡ false) → waiting_blocks step.1 ≡ waiting_blocks w.sender → Witness behind
  same_witness word same sound waits =
      let x = f.witness sound (λ none. waits (same ∙ none)) in (
        x.0,
        subst (λ (n : ℕ). x.0 < n) (sym many) x.1,
        busy_on w behind x.0 many refl (λ e. e) (λ y. y.0) (λ j b e. e)
            (λ j b. each_pair (λ (i : ℕ) (p : Pair). is_coming w i ≡ false → coming_of w.receiver i p ≡ false) w.pairs l after within own (λ i c ne e. e) j b) x.1 x.2,
      ) where
        own : is_coming w l ≡ false → coming_of w.receiver l after ≡ false
        own none =
            not_coming _ _ _ (λ t. takes_word (pair_at w l) input (past_at step.1 l).is_greeted step.0 word
            (no_word (receives_at w l) (in_hand (pair_at w l).recv ++ down_sent (pair_at w l).taken) (says_done (pair_at w l).newest (pair_at w l).send) t none))

  -- the lane sends, or is to send what is sent in all
  own_witness : SendsOn w l step → IsSound behind → Tellings behind → Confirmed behind → Witness behind
  own_witness on sound tellings confirmed fails waits = (
    l,
    here,
    own_busy behind l on.phase sound.talk (λ k b. lane_holds behind k sound b) (λ k b. tellings k l b) (confirmed l) here on.opens
        (top (pair_at behind l).newest refl) stands on.early on.late
        (ap (λ (h : SendHold). says_done (pair_at behind l).newest h) (ap (λ (p : Pair). p.send) pair_is) ∙ on.word (pair_at behind l).newest),
  ) where
    here : l < length behind.pairs
    here = subst (λ (n : ℕ). l < n) (sym many) within

    pair_is : pair_at behind l ≡ after
    pair_is = ap pair_or (get_set w.pairs l after within)

    stands : sends_at behind l ≡ Talks on.phase
    stands = ap (λ (p : Pair). send_stance (lane_at step.1 l) (past_at step.1 l).is_acked p.send) pair_is ∙ on.stands

    top : (o : Option Link) → (pair_at behind l).newest ≡ o → (pair_at behind l).newest ≡ None
    top None e = e
    top (Some k) e =
        waits_not on.phase k.down.sent k.up.sent
        (subst (λ (st : Stance). OnLink st (Talks Open) k.down.sent k.up.sent) stands (subst (AgreeWaiting (sends_at behind l)) e (sound.talk.lanes l here).agrees.on_newest)) on.first

  pub send_turn_witness : IsSound behind → Tellings behind → Confirmed behind → Witness behind
  send_turn_witness sound tellings confirmed =
      go (send_seen.turn_seen comes w l input s.talk f.empty f.planned within holds (subst (λ (h : SendHold). SendBelongs h (lane_at w.sender l)) holds (s.belongs.send l within))) where
        go : send_seen.Seen w l input step → Witness behind
        go (Hushes quiet same word) = same_witness word same
        go (Talks-on talks knows same word) = same_witness word same
        go (Empties talks knows none) = λ fails waits. absurd (waits none)
        go (Frees talks knows on) = own_witness on sound tellings confirmed

-- ---- a turn of the receiver's lane

module _ (sounds : SoundLanes) (w : PlainWorld) (l : ℕ) (s : IsSound w) (f : Finishing w) (within : l < length w.pairs) (put : Put)
    (hands : Hands (pair_at w l).recv put) (step : Step) (ends : EndsIn (Unit {0}) (turn_plan w.receiver (number l) put) step) where
  abbrev stepped : PlainWorld
  stepped = recv_turned w l step

  as_many : length stepped.pairs ≡ length w.pairs
  as_many = length-set w.pairs l (recv_gets (pair_at w l) step.0)

  legal : (recv.past_at w.receiver l).is_idle ≡ true → (recv.past_at w.receiver l).telling ≡ []
  legal = quiet_idle sounds w l s.talk f within put hands (s.belongs.recv l within)

  is_open : (recv.past_at w.receiver l).is_closed ≡ false
  is_open = opens sounds w l s.talk f within put hands (s.belongs.recv l within)

  past_there : (k : ℕ) → k ≢ l → recv.past_at step.1 k ≡ recv.past_at w.receiver k
  past_there k ne =
      let touched = turn_touches w.receiver (number l) put step ends in
      ap (λ (g : List RecvEvent). past_of g k) touched.history.behind ∙ others_past w.receiver.history touched.history.entries l k touched.history.own ne

  -- no word comes with the step
  stepped_coming : (j : ℕ) → j < length w.pairs → is_coming w j ≡ false → is_coming stepped j ≡ false
  stepped_coming j small =
      each_pair (λ (i : ℕ) (p : Pair). is_coming w i ≡ false → coming_of step.1 i p ≡ false) w.pairs l (recv_gets (pair_at w l) step.0) within own others j small where
        own : is_coming w l ≡ false → coming_of step.1 l (recv_gets (pair_at w l) step.0) ≡ false
        own none =
            not_coming _ _ _ (λ t. steps_word (pair_at w l) (RecvDoes step.0) refl
            (no_word (receives_at w l) (in_hand (pair_at w l).recv ++ down_sent (pair_at w l).taken) (says_done (pair_at w l).newest (pair_at w l).send) (turn_spoke w l s.talk within put hands (s.belongs.recv l within) step ends t) none))

        others : (i : ℕ) → i < length w.pairs → i ≢ l → is_coming w i ≡ false → coming_of step.1 i (pair_at w i) ≡ false
        others i b ne e =
            ap
            (λ (x : RecvLane). coming_on (recv_stance x (recv.past_at step.1 i).is_idle (recv.past_at step.1 i).is_acked (pair_at w i).recv) (in_hand (pair_at w i).recv ++ down_sent (pair_at w i).taken) (says_done (pair_at w i).newest (pair_at w i).send))
            ((turn_touches w.receiver (number l) put step ends).others i ne)
            ∙ (ap (λ (x : RecvPast). coming_on (recv_stance (recv.lane_at w.receiver i) x.is_idle x.is_acked (pair_at w i).recv) (in_hand (pair_at w i).recv ++ down_sent (pair_at w i).taken) (says_done (pair_at w i).newest (pair_at w i).send)) (past_there i ne) ∙ e)

  -- where the lane tells of nobody more than before
  fewer_told : (k : ℕ) → (has (recv.past_at step.1 l).telling k ≡ true → has (telling w l) k ≡ true) → (j : ℕ) → j < length w.pairs
      → has (telling stepped j) k ≡ true → has (telling w j) k ≡ true
  fewer_told k own j b e = elim (cases_eq j l) [
    | inl same ↦ subst (λ (i : ℕ). has (telling w i) k ≡ true) (sym same) (own (subst (λ (i : ℕ). has (recv.past_at step.1 i).telling k ≡ true) same e))
    | inr ne ↦ ap (λ (x : RecvPast). has x.telling k) (sym (past_there j ne)) ∙ e
  ]

  none_told : (k : ℕ) → (recv.past_at step.1 l).telling ≡ [] → has (recv.past_at step.1 l).telling k ≡ true → has (telling w l) k ≡ true
  none_told k none e = absurd (both_ways (has (recv.past_at step.1 l).telling k) (ap (λ (ks : List ℕ). has ks k) none) e)

  -- another lane that was busy
  other_busy : (k : ℕ) → k ≢ l → (BusyBy true w k → is_confirmed step.1.history k ≡ false)
      → (has (recv.past_at step.1 l).telling k ≡ true → has (telling w l) k ≡ true) → k < length w.pairs → IsBusy w k → IsBusy stepped k
  other_busy k ne confirmed told b busy =
      busy_on w stepped k as_many (ap (λ (x : RecvPast). x.is_closed) (past_there k ne))
      (λ e. ap (λ (x : RecvPast). x.is_idle) (past_there k ne) ∙ e) confirmed (fewer_told k told) stepped_coming b busy

  -- the last word was read with this step
  word_came : put ≡ Given (recv_inputs.Got frames.Done) → recv.state_at w.receiver l ≡ recv_states.ReadNextCmd → (recv.lane_at w.receiver l).is_sized ≡ true
      → is_failure w.receiver.answer ≡ false → is_coming w l ≡ true
  word_came given here sized well =
      word_comes sounds w l s.talk f within here sized (holds_input (pair_at w l).recv put (recv_inputs.Got frames.Done) hands given refl) well

  resized : (k : ℕ) → k < length w.pairs → k < length stepped.pairs
  resized k b = subst (λ (n : ℕ). k < n) (sym as_many) b

  pub recv_turn_witness : IsSound stepped → Witness stepped
  recv_turn_witness sound fine waits = go (recv_seen.turn_seen w l s.talk within put hands (s.belongs.recv l within) step ends) where
    before : (k : ℕ) × (k < length w.pairs) × IsBusy w k
    before = f.witness (sound_before sounds w l s.talk f within put hands (s.belongs.recv l within) step ends fine) waits

    -- the lane that takes blocks is another
    others : ((k : ℕ) → k ≢ l → k < length w.pairs → IsBusy w k → IsBusy stepped k) → (IsBusy w l → IsBusy stepped l)
        → (k : ℕ) × (k < length stepped.pairs) × IsBusy stepped k
    others other own = elim (cases_eq before.0 l) [
      | inl same ↦ (l, resized l within, own (subst (IsBusy w) same before.2))
      | inr ne ↦ (before.0, resized before.0 before.1, other before.0 ne before.1 before.2)
    ]

    finished : {P : Type 0} → has_finish step.1 ≡ true → P
    finished come = absurd (waits (recv_emptied sounds w l s.talk f within put hands (s.belongs.recv l within) step ends come))

    -- a lane that isn't closed
    open_busy : IsBusy w l → BusyBy false w l
    open_busy b = subst (λ (x : Bool). BusyBy x w l) is_open b

    go : Seen w.receiver l put step → (k : ℕ) × (k < length stepped.pairs) × IsBusy stepped k
    go (Stays st) =
        let busy : (k : ℕ) → k < length w.pairs → IsBusy w k → IsBusy stepped k =
        λ k b x. busy_on w stepped k as_many (st.closed k) (λ e. st.idle k ∙ e) (λ y. st.confirmed k ∙ y.0) (fewer_told k (λ e. ap (λ (ks : List ℕ). has ks k) (sym (st.telling l)) ∙ e)) stepped_coming b x in
        (before.0, resized before.0 before.1, busy before.0 before.1 before.2)
    go (Drops o) =
        others (λ k ne b x. other_busy k ne (λ y. o.confirmed k ∙ y.0) (none_told k o.telling) b x)
        (λ x. busy_on w stepped l as_many (o.closed ∙ sym is_open) (λ e. o.idle) (λ y. o.confirmed l ∙ y.0) (fewer_told l (none_told l o.telling)) stepped_coming within x)
    go (Closes come o) =
        others (λ k ne b x. other_busy k ne (λ y. o.confirmed k ∙ y.0) (none_told k o.telling) b x)
        (λ x. subst (λ (y : Bool). BusyBy y stepped l) (sym o.closed) (unconfirmed, λ j b e. absurd (untold j (subst (λ (n : ℕ). j < n) as_many b) e))) where
          unconfirmed : is_confirmed step.1.history l ≡ false
          unconfirmed = o.confirmed l ∙ false_from_ne_true (is_confirmed w.receiver.history l) (λ e. both_ways (recv.past_at w.receiver l).is_closed is_open ((s.talk.lanes l within).closed (f.confirmed l e)).there)

          untold : (j : ℕ) → j < length w.pairs → has (telling stepped j) l ≡ true → ⊥
          untold j b e =
              both_ways (recv.past_at w.receiver l).is_closed is_open
              (tells_closed w.receiver j l s.talk.receiver (fewer_told l (none_told l o.telling) j b e))
    go (Asks p (inl fails)) = absurd (both_ways (is_failure step.1.answer) fine fails)
    go (Asks p (inr (inl come))) = finished come
    go (Asks p (inr (inr unready))) = others (λ k ne b x. other_busy k ne (confirms p k) (none_told k (point_telling w.receiver l put step.1.history legal p)) b x) (λ x. absurd (idle_not p (open_busy x))) where
      confirms : Point w.receiver l put step.1.history → (k : ℕ) → BusyBy true w k → is_confirmed step.1.history k ≡ false
      confirms (WasIdle is idle) k y = ap (λ (g : List RecvEvent). is_confirmed g k) is ∙ y.0
      confirms (NowIdle is here sized given well) k y =
          false_from_ne_true (is_confirmed step.1.history k)
          (λ e. elim (point_confirms w.receiver l put step.1.history legal (NowIdle is here sized given well) k e) [
            | inl x ↦ both_ways (is_confirmed w.receiver.history k) y.0 x
            | inr x ↦ both_ways (is_coming w l) (y.1 l within (tellers_tell (terms_of w.receiver) w.receiver.history l k s.talk.receiver.legal ∙ x.1)) (word_came given here sized well)
          ])

      idle_not : Point w.receiver l put step.1.history → BusyBy false w l → ⊥
      idle_not (WasIdle is idle) y = both_ways (recv.past_at w.receiver l).is_idle y.0 idle
      idle_not (NowIdle is here sized given well) y = both_ways (is_coming w l) y.1 (word_came given here sized well)
    go (Tells t k ks p many untold is) = (l, resized l within, subst (λ (b : Bool). BusyBy b stepped l) (sym closed) (idle, says_quiet stepped l k sound.talk (resized l within) (lane_holds stepped l sound (resized l within)) marked)) where
      past : recv.past_at step.1 l ≡ past_from l (past_of t.history l) (events.Told (number l) (set_of (k ∷ ks)) ∷ [])
      past = ap (λ (x : Step). recv.past_at x.1 l) is ∙ past_of-append t.history (events.Told (number l) (set_of (k ∷ ks)) ∷ []) l

      closed : (recv.past_at step.1 l).is_closed ≡ false
      closed = ap (λ (x : RecvPast). x.is_closed) past ∙ (point_closed w.receiver l put t.history legal p l ∙ is_open)

      idle : (recv.past_at step.1 l).is_idle ≡ false
      idle = ap (λ (x : RecvPast). x.is_idle) past ∙ rw (eq-eqb l l refl) refl

      one : (b : Bool) → b ≡ true → (b || false) ≡ true
      one true e = refl
      one false e = cc

      first : has (k ∷ ks) k ≡ true
      first = rw (eq-eqb k k refl) refl

      marked : marked_in k (to_say (pair_at stepped l).recv) ≡ true
      marked =
          ap (λ (x : Pair). marked_in k (to_say x.recv)) (ap pair_or (get_set w.pairs l (recv_gets (pair_at w l) step.0) within))
          ∙ (ap (λ (x : Step). marked_in k (to_say (RecvDoes x.0))) is ∙ one (list_any (λ (m : Mark). m.lane.0 == k) (map (recv.mark_of t.history) (k ∷ ks))) (marks_has t.history k (k ∷ ks) ∙ first))
    go (Ends t well p many first ready is) =
        finished (ap (λ (g : List RecvEvent). (end_of g).has_finish) is ∙ ap (λ (x : EndPast). x.has_finish) (end_of-append t.history (events.Finish ∷ [])))

-- ---- whatever happens

module _ (sounds : SoundLanes) (comes : SenderComes) where
  pub witness_after : (w : PlainWorld) (e : WorldEvent) → IsSound w → Finishing w → lane_of e < length w.pairs → IsSound (happens w e)
      → Tellings (happens w e) → Confirmed (happens w e) → Witness (happens w e)
  witness_after w (Sends l lost) s f within =
      send_cases (λ (v : PlainWorld). IsSound v → Tellings v → Confirmed v → Witness v) w l lost
      (λ act is x y z. pair_witness w l (send_does (pair_at w l) lost act) within (send_act_coming w l lost act is) f.witness)
      (λ input is. send_turn_witness comes w l input s f within is)
  witness_after w (Receives l broken) s f within =
      recv_cases (λ (v : PlainWorld). IsSound v → Tellings v → Confirmed v → Witness v) w l broken (λ x y z. f.witness)
      (λ act is x y z. pair_witness w l (recv_does (pair_at w l) act) within (recv_act_coming w l s within act is) f.witness)
      (λ put hands x y z. recv_turn_witness sounds w l s f within put hands (recv_turn w.receiver l put broken) (ends_in (turn_plan w.receiver (number l) put) broken) x)
  witness_after w (Cut l down up) s f within = λ x y z. pair_witness w l (cuts_by (pair_at w l) down up (top (pair_at w l))) within own f.witness where
    own : is_coming w l ≡ false → coming_of w.receiver l (cuts_by (pair_at w l) down up (top (pair_at w l))) ≡ false
    own none =
        not_coming _ _ _ (λ t. cuts_word (pair_at w l) down up
        (no_word (receives_at w l) (in_hand (pair_at w l).recv ++ down_sent (pair_at w l).taken) (says_done (pair_at w l).newest (pair_at w l).send)
        (subst IsTalking (ap (recv_stance (recv.lane_at w.receiver l) (recv.past_at w.receiver l).is_idle (recv.past_at w.receiver l).is_acked) (cuts_recv (pair_at w l) down up (top (pair_at w l)))) t) none))
  witness_after w (Deny l) s f within = λ x y z. pair_witness w l (record (pair_at w l) { denies = suc (pair_at w l).denies }) within (λ e. e) f.witness
  witness_after w (Refuse l) s f within = λ x y z. pair_witness w l (record (pair_at w l) { refusals = suc (pair_at w l).refusals }) within (λ e. e) f.witness
