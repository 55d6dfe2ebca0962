-- A confirmed lane is closed at the sender, and a finish that is ready has come, whatever happens.
use Rattle.std.proofs.Common.{◌≡◌, ◌⊎◌, inl, inr, ℕ, ◌<◌, ◌||◌, not, Bool, true, false, List, [], ◌∷◌, ◌++◌, length, Option, Some, None, is_some, subst, sym, ap, ◌∙◌, refl, eq-eqb, append-nil, append_assoc}
use Rattle.std.proofs.lemmas.Bool.{and_parts, both_ways, false_from_ne_true, or_cases}
use Rattle.wdt_units.specs.declared.blocks.Block.{Block}
use Rattle.wdt_units.specs.declared.numbers.Lane.{Lane}
use Rattle.wdt_codec.specs.declared.frames.Frame.TheVariants as frames
use Rattle.wdt_sender_fsm.specs.declared.events.SendEvent.{SendEvent}
use Rattle.wdt_sender_fsm.specs.declared.inputs.SendIn.{SendIn}
use Rattle.wdt_sender_fsm.specs.Legal.{IsLegal, IsSound as IsSoundLane}
use Rattle.wdt_sender_fsm.specs.PlainSender.{PlainSender, is_closed}
use Rattle.wdt_sender_fsm.specs.Rules.{is_failure}
use Rattle.wdt_sender_fsm.specs.SenderHistory.{past_of as sent_past}
use Rattle.wdt_sender_fsm.specs.Touches.{Touches}
use Rattle.wdt_sender_fsm.specs.Turn.{send_turn}
use Rattle.wdt_receiver_fsm.specs.declared.events.RecvEvent.{RecvEvent}
use Rattle.wdt_receiver_fsm.specs.declared.events.RecvEvent.TheVariants as events
use Rattle.wdt_receiver_fsm.specs.declared.inputs.RecvIn.TheVariants as inputs
use Rattle.wdt_receiver_fsm.specs.Plan.{EndsIn}
use Rattle.wdt_receiver_fsm.specs.PlainReceiver.{PlainReceiver, can_finish, has_finish, past_at}
use Rattle.wdt_receiver_fsm.specs.Ready.{is_confirmed, is_known_closed, is_ready, rests}
use Rattle.wdt_receiver_fsm.specs.Receiver.{terms_of}
use Rattle.wdt_receiver_fsm.specs.ReceiverHistory.{Confirm, EndPast, RecvPast, confirm_of, confirm_of-append, end_of, end_of-append, past_of, past_of-append}
use Rattle.wdt_receiver_fsm.specs.Sets.{has, set_of}
use Rattle.wdt_receiver_fsm.specs.Turn.{Put, Step, turn_plan}
use Rattle.wdt_receiver_fsm.proofs.ForCallers.{legal_sound, tellers_tell, turn_follows, turn_touches}
use Rattle.wdt_pact.specs.Belongs.{RecvBelongsAt}
use Rattle.wdt_pact.specs.Conversation.{Conversation}
use Rattle.wdt_pact.specs.Finishing.{Finishing}
use Rattle.wdt_pact.specs.Fitting.{IsSound, lane_of}
use Rattle.wdt_pact.specs.World.{PlainWorld, WorldEvent, Sends, Receives, Cut, Deny, Refuse, happens, number, pair_at, recv_turn}
use Rattle.wdt_pact.proofs.Events.{recv_cases, send_cases}
use Rattle.wdt_pact.proofs.Finishing.{every_at, told_closed}
use Rattle.wdt_pact.proofs.RecvHands.{Hands, holds_input}
use Rattle.wdt_pact.proofs.RecvRows.{ends_in}
use Rattle.wdt_pact.proofs.RecvSeen.{Asks, Closes, Drops, Ends, NowIdle, Point, Seen, Stays, Tells, WasIdle, goes_on, ready_same, turn_seen}

-- what the sender's own crate promises of closed lanes, and of each lane's past
abbrev pub StayClosed : Type 0
StayClosed = (h : List SendEvent) (e : SendEvent) (l m : ℕ) → (sent_past h l).claims.closed ≡ Some m → (sent_past (h ++ e ∷ []) l).claims.closed ≡ Some m

abbrev pub SoundLanes : Type 0
SoundLanes = (n : ℕ) (planned : List Block) (h : List SendEvent) (l : ℕ) → IsLegal n planned h → IsSoundLane (sent_past h l)

abbrev pub SenderTouches : Type 0
SenderTouches = (s : PlainSender) (k : Lane) (i : SendIn) → Touches s k i (send_turn s k i).1

-- ---- closed lanes stay closed

closed_more : StayClosed → (h es : List SendEvent) (l m : ℕ) → (sent_past h l).claims.closed ≡ Some m → (sent_past (h ++ es) l).claims.closed ≡ Some m
closed_more stay h [] l m is = ap (λ (g : List SendEvent). (sent_past g l).claims.closed) (append-nil h) ∙ is
closed_more stay h (e ∷ es) l m is =
    ap (λ (g : List SendEvent). (sent_past g l).claims.closed) (sym (append_assoc h (e ∷ []) es)) ∙ closed_more stay (h ++ e ∷ []) es l m (stay h e l m is)

pub closed_stays : StayClosed → SenderTouches → (s : PlainSender) (k : Lane) (i : SendIn) (q : ℕ) → is_closed s q ≡ true
    → is_closed (send_turn s k i).1 q ≡ true
closed_stays stay touches s k i q is = go (sent_past s.history q).claims.closed refl is where
  h : (send_turn s k i).1.history ≡ s.history ++ (touches s k i).history.entries
  h = (touches s k i).history.behind

  go : (o : Option ℕ) → (sent_past s.history q).claims.closed ≡ o → is_some o ≡ true → is_closed (send_turn s k i).1 q ≡ true
  go None at e = cc
  go (Some m) at e =
      ap is_some (ap (λ (g : List SendEvent). (sent_past g q).claims.closed) h ∙ closed_more stay s.history (touches s k i).history.entries q m at)

-- ---- a lane that asks for the end

-- how it stands in such a history
module _ (r : PlainReceiver) (l : ℕ) (put : Put) (g : List RecvEvent) (legal : (past_at r l).is_idle ≡ true → (past_at r l).telling ≡ [])
    (p : Point r l put g) where
  pub point_idle : (past_of g l).is_idle ≡ true
  point_idle = go p where
    go : Point r l put g → (past_of g l).is_idle ≡ true
    go (WasIdle is idle) = ap (λ (x : List RecvEvent). (past_of x l).is_idle) is ∙ idle
    go (NowIdle is here sized given sound) = ap (λ (x : List RecvEvent). (past_of x l).is_idle) is ∙ (ap (λ (x : RecvPast). x.is_idle) (past_of-append r.history (events.Idle (number l) ∷ []) l) ∙ rw (eq-eqb l l refl) refl)

  pub point_telling : (past_of g l).telling ≡ []
  point_telling = go p where
    go : Point r l put g → (past_of g l).telling ≡ []
    go (WasIdle is idle) = ap (λ (x : List RecvEvent). (past_of x l).telling) is ∙ legal idle
    go (NowIdle is here sized given sound) = ap (λ (x : List RecvEvent). (past_of x l).telling) is ∙ (ap (λ (x : RecvPast). x.telling) (past_of-append r.history (events.Idle (number l) ∷ []) l) ∙ rw (eq-eqb l l refl) refl)

  pub point_closed : (k : ℕ) → (past_of g k).is_closed ≡ (past_at r k).is_closed
  point_closed k = go p where
    go : Point r l put g → (past_of g k).is_closed ≡ (past_at r k).is_closed
    go (WasIdle is idle) = ap (λ (x : List RecvEvent). (past_of x k).is_closed) is
    go (NowIdle is here sized given sound) = ap (λ (x : List RecvEvent). (past_of x k).is_closed) is ∙ ap (λ (x : RecvPast). x.is_closed) (past_of-append r.history (events.Idle (number l) ∷ []) k)

  pub point_finish : (end_of g).has_finish ≡ has_finish r
  point_finish = go p where
    go : Point r l put g → (end_of g).has_finish ≡ has_finish r
    go (WasIdle is idle) = ap (λ (x : List RecvEvent). (end_of x).has_finish) is
    go (NowIdle is here sized given sound) =
        ap (λ (x : List RecvEvent). (end_of x).has_finish) is ∙ ap (λ (x : EndPast). x.has_finish) (end_of-append r.history (events.Idle (number l) ∷ []))

  -- whom it confirms
  pub point_confirms : (q : ℕ) → is_confirmed g q ≡ true
      → (is_confirmed r.history q ≡ true) ⊎ ((g ≡ r.history ++ events.Idle (number l) ∷ []) × (has (confirm_of r.history q).tellers l ≡ true))
  point_confirms q e = go p where
    go : Point r l put g
        → (is_confirmed r.history q ≡ true) ⊎ ((g ≡ r.history ++ events.Idle (number l) ∷ []) × (has (confirm_of r.history q).tellers l ≡ true))
    go (WasIdle is idle) = inl (ap (λ (x : List RecvEvent). is_confirmed x q) (sym is) ∙ e)
    go (NowIdle is here sized given sound) =
        elim (or_cases (is_confirmed r.history q) (has (confirm_of r.history q).tellers l)
        (sym (ap (λ (x : List RecvEvent). is_confirmed x q) is ∙ ap (λ (x : Confirm). x.is_confirmed) (confirm_of-append r.history (events.Idle (number l) ∷ []) q)) ∙ e)) [
          | inl x ↦ inl x
          | inr x ↦ inr (is, x)
        ]

-- ---- a turn of the receiver's lane

ready_rests : (n : ℕ) (h : List RecvEvent) (k : ℕ) → is_ready n h ≡ true → k < n → rests h k ≡ true
ready_rests n h k e within = let a = and_parts _ _ e in let b = and_parts _ _ a.0 in every_at n k (rests h) b.0 within

ready_known : (n : ℕ) (h : List RecvEvent) (k : ℕ) → is_ready n h ≡ true → k < n → is_known_closed h k ≡ true
ready_known n h k e within = let a = and_parts _ _ e in every_at n k (is_known_closed h) a.1 within

or_false : (a b : Bool) → a ≡ false → b ≡ false → (a || b) ≡ true → ⊥
or_false a b x y e = elim (or_cases a b e) [ inl z ↦ both_ways a x z | inr z ↦ both_ways b y z ]

module _ (sounds : SoundLanes) (w : PlainWorld) (l : ℕ) (c : Conversation w) (f : Finishing w) (within : l < length w.pairs) (put : Put)
    (hands : Hands (pair_at w l).recv put) (belongs : RecvBelongsAt w l) where
  abbrev Ending : Step → Type 0
  Ending step = EndsIn (Unit {0}) (turn_plan w.receiver (number l) put) step

  pub quiet_idle : (past_at w.receiver l).is_idle ≡ true → (past_at w.receiver l).telling ≡ []
  quiet_idle e = (legal_sound (terms_of w.receiver) w.receiver.history l c.receiver.legal).idle e

  pub opens : (past_at w.receiver l).is_closed ≡ false
  opens = (goes_on w l c within put hands belongs).1.closed

  -- whom the lane confirms as it asks for the end, the sender knows as closed
  pub point_knows : (g : List RecvEvent) → Point w.receiver l put g → (q : ℕ) → is_confirmed g q ≡ true → is_closed w.sender q ≡ true
  point_knows g p q e = go p (point_confirms w.receiver l put g quiet_idle p q e) where
    go : Point w.receiver l put g
        → (is_confirmed w.receiver.history q ≡ true) ⊎ ((g ≡ w.receiver.history ++ events.Idle (number l) ∷ []) × (has (confirm_of w.receiver.history q).tellers l ≡ true))
        → is_closed w.sender q ≡ true
    go x (inl y) = f.confirmed q y
    go (NowIdle is here sized given sound) (inr y) =
        told_closed sounds w l c f within here sized (holds_input (pair_at w l).recv put (inputs.Got frames.Done) hands given refl) sound q
        (tellers_tell (terms_of w.receiver) w.receiver.history l q c.receiver.legal ∙ y.1)
    go (WasIdle is idle) (inr y) = f.confirmed q (ap (λ (x : List RecvEvent). is_confirmed x q) (sym is) ∙ e)

  pub recv_confirmed : (step : Step) → Ending step → (q : ℕ) → is_confirmed step.1.history q ≡ true → is_closed w.sender q ≡ true
  recv_confirmed step ends q e = go (turn_seen w l c within put hands belongs step ends) where
    go : Seen w.receiver l put step → is_closed w.sender q ≡ true
    go (Stays s) = f.confirmed q (sym (s.confirmed q) ∙ e)
    go (Drops o) = f.confirmed q (sym (o.confirmed q) ∙ e)
    go (Closes come o) = f.confirmed q (sym (o.confirmed q) ∙ e)
    go (Asks p why) = point_knows step.1.history p q e
    go (Tells t k ks p many untold is) =
        point_knows t.history p q
        (sym (ap (λ (x : Step). is_confirmed x.1.history q) is ∙ ap (λ (x : Confirm). x.is_confirmed) (confirm_of-append t.history (events.Told (number l) (set_of (k ∷ ks)) ∷ []) q)) ∙ e)
    go (Ends t sound p many first ready is) =
        point_knows t.history p q
        (sym (ap (λ (x : List RecvEvent). is_confirmed x q) is ∙ ap (λ (x : Confirm). x.is_confirmed) (confirm_of-append t.history (events.Finish ∷ []) q)) ∙ e)

  -- an end that hasn't failed hadn't
  pub sound_before : (step : Step) → Ending step → is_failure step.1.answer ≡ false → is_failure w.receiver.answer ≡ false
  sound_before step ends sound =
      false_from_ne_true (is_failure w.receiver.answer)
      (λ e. both_ways (is_failure step.1.answer) sound (ap (λ (x : PlainReceiver). is_failure x.answer) ((turn_follows w.receiver (number l) put step ends).still e) ∙ e))

  below : l < length w.receiver.lanes
  below = subst (λ (n : ℕ). l < n) (sym c.recv_lanes) within

  pub recv_ready : (step : Step) → Ending step → is_failure step.1.answer ≡ false → can_finish step.1 ≡ true → has_finish step.1 ≡ true
  recv_ready step ends sound ready = go (turn_seen w l c within put hands belongs step ends) where
    at : is_ready (length w.receiver.lanes) step.1.history ≡ true
    at = ap (λ (n : ℕ). is_ready n step.1.history) (sym (turn_touches w.receiver (number l) put step ends).lanes) ∙ ready

    go : Seen w.receiver l put step → has_finish step.1 ≡ true
    go (Stays s) = s.finish ∙ f.ready (sound_before step ends sound) (sym (ready_same (length w.receiver.lanes) w.receiver.history step.1.history s) ∙ at)
    go (Drops o) =
        absurd
        (or_false (past_of step.1.history l).is_idle (past_of step.1.history l).is_closed o.idle o.closed (ready_rests (length w.receiver.lanes) step.1.history l at below))
    go (Closes come o) =
        elim (or_cases (not (past_of step.1.history l).is_closed) (is_confirmed step.1.history l) (ready_known (length w.receiver.lanes) step.1.history l at below)) [
          | inl x ↦ absurd (both_ways true (sym x ∙ ap not o.closed) refl)
          | inr x ↦ absurd (both_ways (past_at w.receiver l).is_closed opens ((c.lanes l within).closed (f.confirmed l (sym (o.confirmed l) ∙ x))).there)
        ]
    go (Asks p (inl fails)) = absurd (both_ways (is_failure step.1.answer) sound fails)
    go (Asks p (inr (inl come))) = come
    go (Asks p (inr (inr unready))) = absurd (both_ways (can_finish step.1) unready ready)
    go (Tells t k ks p many untold is) =
        let h : List RecvEvent = t.history ++ events.Told (number l) (set_of (k ∷ ks)) ∷ [] in
        let same : step.1.history ≡ h = ap (λ (x : Step). x.1.history) is in
        let past : past_of h l ≡ _ = past_of-append t.history (events.Told (number l) (set_of (k ∷ ks)) ∷ []) l in
        absurd
        (or_false (past_of h l).is_idle (past_of h l).is_closed (ap (λ (x : RecvPast). x.is_idle) past ∙ rw (eq-eqb l l refl) refl) (ap (λ (x : RecvPast). x.is_closed) past ∙ (point_closed w.receiver l put t.history quiet_idle p l ∙ opens))
        (subst (λ (g : List RecvEvent). rests g l ≡ true) same (ready_rests (length w.receiver.lanes) step.1.history l at below)))
    go (Ends t well p many first ready is) =
        ap (λ (x : List RecvEvent). (end_of x).has_finish) is ∙ ap (λ (x : EndPast). x.has_finish) (end_of-append t.history (events.Finish ∷ []))

-- ---- whatever happens

module _ (sounds : SoundLanes) (stay : StayClosed) (touches : SenderTouches) where
  -- a confirmed lane is closed at the sender
  pub confirmed_after : (w : PlainWorld) (e : WorldEvent) → IsSound w → Finishing w → lane_of e < length w.pairs → (q : ℕ)
      → is_confirmed (happens w e).receiver.history q ≡ true → is_closed (happens w e).sender q ≡ true
  confirmed_after w (Sends l lost) s f within q =
      send_cases (λ (v : PlainWorld). is_confirmed v.receiver.history q ≡ true → is_closed v.sender q ≡ true) w l lost
      (λ act is e. f.confirmed q e) (λ input is e. closed_stays stay touches w.sender (number l) input q (f.confirmed q e))
  confirmed_after w (Receives l broken) s f within q =
      recv_cases (λ (v : PlainWorld). is_confirmed v.receiver.history q ≡ true → is_closed v.sender q ≡ true) w l broken (f.confirmed q)
      (λ act is e. f.confirmed q e)
      (λ put hands e. recv_confirmed sounds w l s.talk f within put hands (s.belongs.recv l within) (recv_turn w.receiver l put broken) (ends_in (turn_plan w.receiver (number l) put) broken) q e)
  confirmed_after w (Cut l down up) s f within q = f.confirmed q
  confirmed_after w (Deny l) s f within q = f.confirmed q
  confirmed_after w (Refuse l) s f within q = f.confirmed q

  -- a finish that is ready has come
  pub ready_after : (w : PlainWorld) (e : WorldEvent) → IsSound w → Finishing w → lane_of e < length w.pairs
      → is_failure (happens w e).receiver.answer ≡ false → can_finish (happens w e).receiver ≡ true → has_finish (happens w e).receiver ≡ true
  ready_after w (Sends l lost) s f within =
      send_cases (λ (v : PlainWorld). is_failure v.receiver.answer ≡ false → can_finish v.receiver ≡ true → has_finish v.receiver ≡ true) w l lost
      (λ act is. f.ready) (λ input is. f.ready)
  ready_after w (Receives l broken) s f within =
      recv_cases (λ (v : PlainWorld). is_failure v.receiver.answer ≡ false → can_finish v.receiver ≡ true → has_finish v.receiver ≡ true) w l broken f.ready
      (λ act is. f.ready)
      (λ put hands. recv_ready sounds w l s.talk f within put hands (s.belongs.recv l within) (recv_turn w.receiver l put broken) (ends_in (turn_plan w.receiver (number l) put) broken))
  ready_after w (Cut l down up) s f within = f.ready
  ready_after w (Deny l) s f within = f.ready
  ready_after w (Refuse l) s f within = f.ready
