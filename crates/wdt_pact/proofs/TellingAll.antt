-- Whatever happens to a world, each lane that told of a closed one stands as it must.
use Rattle.std.proofs.Common.{◌≡◌, ◌≢◌, ◌⊎◌, inl, inr, ℕ, suc, ◌<◌, ◌==◌, ◌||◌, Bool, true, false, List, [], ◌∷◌, ◌++◌, length, map, Option, Some, None, subst, sym, ap, ◌∙◌, refl, eq-eqb}
use Rattle.std.proofs.lemmas.Bool.{both_ways}
use Rattle.std.proofs.lemmas.List.{length-set}
use Rattle.std.specs.List.{list_any}
use Rattle.wdt_units.specs.LaneSets.{has_lane}
use Rattle.wdt_units.specs.declared.numbers.Lane.{Lane}
use Rattle.wdt_codec.specs.declared.frames.Mark.{Mark}
use Rattle.wdt_sender_fsm.specs.declared.events.SendEvent.{SendEvent}
use Rattle.wdt_sender_fsm.specs.declared.inputs.SendIn.{SendIn}
use Rattle.wdt_sender_fsm.specs.declared.states.SendLane.{SendLane}
use Rattle.wdt_sender_fsm.specs.Phases.{Message}
use Rattle.wdt_sender_fsm.specs.PlainSender.{PlainSender, is_closed, lane_at, past_at}
use Rattle.wdt_sender_fsm.specs.Reasons.{Comes}
use Rattle.wdt_sender_fsm.specs.SenderHistory.{LanePast}
use Rattle.wdt_sender_fsm.specs.Touches.{AsItWas, Beside, NowClosed, NowFinished}
use Rattle.wdt_sender_fsm.specs.Turn.{Step as SendStep, send_turn}
use Rattle.wdt_receiver_fsm.specs.declared.acts.RecvAct.{RecvAct}
use Rattle.wdt_receiver_fsm.specs.declared.events.RecvEvent.{RecvEvent}
use Rattle.wdt_receiver_fsm.specs.declared.events.RecvEvent.TheVariants as events
use Rattle.wdt_receiver_fsm.specs.declared.states.RecvLane.{RecvLane}
use Rattle.wdt_receiver_fsm.specs.Plan.{EndsIn}
use Rattle.wdt_receiver_fsm.specs.PlainReceiver as recv
use Rattle.wdt_receiver_fsm.specs.PlainReceiver.{PlainReceiver, mark_of}
use Rattle.wdt_receiver_fsm.specs.ReceiverHistory.{RecvPast, past_of, past_of-append}
use Rattle.wdt_receiver_fsm.specs.Sets.{has, lanes_of, numbers, set_of}
use Rattle.wdt_receiver_fsm.specs.Touches.{Touches as RecvTouches}
use Rattle.wdt_receiver_fsm.specs.Turn.{Put, Step, turn_plan}
use Rattle.wdt_receiver_fsm.specs.Receiver.{terms_of}
use Rattle.wdt_receiver_fsm.proofs.ForCallers.{legal_sound, turn_touches}
use Rattle.wdt_pact.specs.Belongs.{SendBelongs}
use Rattle.wdt_pact.specs.Finishing.{Finishing, IsTelling, down_sent, marked_in, receives_at, sends_at, telling}
use Rattle.wdt_pact.specs.Fitting.{IsSound, lane_of}
use Rattle.wdt_pact.specs.Links.{Link, cut_link}
use Rattle.wdt_pact.specs.Lists.{has_done, in_hand}
use Rattle.wdt_pact.specs.Conversation.{send_in_hand, to_say}
use Rattle.wdt_pact.specs.Pairs.{Pair, RecvHold, RecvDoes, SendHold, SendHas, cuts_by, recv_does, recv_gets, send_does, send_takes, top_by}
use Rattle.wdt_pact.specs.Stances.{IsTalking, Stance, recv_stance, send_stance}
use Rattle.wdt_pact.specs.World.{PlainWorld, WorldEvent, Sends, Receives, Cut, Deny, Refuse, happens, number, pair_at, recv_turn, recv_turned, send_turned, with_pair}
use Rattle.wdt_pact.proofs.Busy.{marked_none}
use Rattle.wdt_pact.proofs.Confirming.{SenderTouches, StayClosed, closed_stays, point_telling}
use Rattle.wdt_pact.proofs.Events.{recv_cases, send_cases}
use Rattle.wdt_pact.proofs.Frame.{each_pair}
use Rattle.wdt_pact.proofs.Lists.{has_done-append}
use Rattle.wdt_pact.proofs.Moving.{lane_holds}
use Rattle.wdt_pact.proofs.RecvFailing.{hands_mute}
use Rattle.wdt_pact.proofs.RecvHands.{Hands}
use Rattle.wdt_pact.proofs.RecvOwn.{others_past}
use Rattle.wdt_pact.proofs.RecvRows.{ends_in}
use Rattle.wdt_pact.proofs.RecvSeen as recv_seen
use Rattle.wdt_pact.proofs.RecvSeen.{Asks, Closes, Drops, Ends, Seen, Stays, Tells}
use Rattle.wdt_pact.proofs.RecvSteps.{mark_tells}
use Rattle.wdt_pact.proofs.RecvTalks.{turn_spoke}
use Rattle.wdt_pact.proofs.SendSeen as send_seen
use Rattle.wdt_pact.proofs.SendSeen.{Empties, Frees, Hushes, Talks-on, stands_behind}
use Rattle.wdt_pact.proofs.Steps.{does_recv, does_send}
use Rattle.wdt_pact.proofs.Telling.{TellsOn, hushed, some_not_none, turn_tells}
use Rattle.wdt_pact.proofs.TellingSteps.{phase_in, recv_act_tells, send_act_tells}
use Rattle.wdt_pact.proofs.TellingUp.{steps_tell}
use Rattle.wdt_pact.proofs.ToldLanes.{has_set, in_filter}

abbrev pub SenderComes : Type 0
SenderComes = (s : PlainSender) (k : Lane) (i : SendIn) → Comes s k i (send_turn s k i)

-- each lane of a world that told of a closed one stands as it must
abbrev pub Tellings : PlainWorld → Type 0
Tellings w = (l q : ℕ) → l < length w.pairs → IsTalking (receives_at w l) → has (telling w l) q ≡ true → IsTelling w l q

-- ---- small steps

tells_known : (before after : Type 0) (q : ℕ) (p : Pair) (ss : Stance) → (before → after) → TellsOn before q p ss → TellsOn after q p ss
tells_known before after q p ss f (inl x) = inl (f x)
tells_known before after q p ss f (inr x) = inr x

acked_beside : (k : ℕ) (es : List SendEvent) (before after : LanePast) → Beside k es before after → after.is_acked ≡ before.is_acked
acked_beside k es before after (AsItWas e) = ap (λ (p : LanePast). p.is_acked) e
acked_beside k es before after (NowClosed count any opens e) = ap (λ (p : LanePast). p.is_acked) e
acked_beside k es before after (NowFinished l is e) = ap (λ (p : LanePast). p.is_acked) e

done_behind : (hand ds : List Message) → has_done (hand ++ ds) ≡ false → has_done ds ≡ false
done_behind hand ds e = go (has_done hand) (sym (has_done-append hand ds) ∙ e) where
  go : (b : Bool) → (b || has_done ds) ≡ false → has_done ds ≡ false
  go true x = cc
  go false x = x

-- a cut leaves what was written
cut_tells : (known : Type 0) (q : ℕ) (ss : Stance) (sh : SendHold) (rh : RecvHold) (taken : Option Link) (between : List Link) (newest : Option Link) (denies refusals d u : ℕ)
    → TellsOn known q record { send = sh; recv = rh; taken = taken; between = between; newest = newest; denies = denies; refusals = refusals } ss
    → TellsOn known q
    (cuts_by record { send = sh; recv = rh; taken = taken; between = between; newest = newest; denies = denies; refusals = refusals } d u (top_by newest taken)) ss
cut_tells known q ss sh rh taken between (Some k) denies refusals d u t =
    hushed known q record { send = sh; recv = rh; taken = taken; between = between; newest = Some k; denies = denies; refusals = refusals } record { send = sh; recv = rh; taken = taken; between = between; newest = Some (cut_link d u k); denies = denies; refusals = refusals } ss ss
    (λ n. some_not_none k n) (λ n. some_not_none (cut_link d u k) n) refl refl t
cut_tells known q ss sh rh None between None denies refusals d u t = t
cut_tells known q ss sh rh (Some k) between None denies refusals d u t = t

-- the lanes of which a frame tells
pub marks_has : (h : List RecvEvent) (q : ℕ) (ks : List ℕ) → list_any (λ (m : Mark). m.lane.0 == q) (map (mark_of h) ks) ≡ has ks q
marks_has h q [] = refl
marks_has h q (k ∷ ks) = ap (λ (i : ℕ). (i == q) || list_any (λ (m : Mark). m.lane.0 == q) (map (mark_of h) ks)) (mark_tells h k (λ b. record { path = []; size = 0; stamp = 0; offset = b.offset; length = b.length })).0 ∙ ap (λ (b : Bool). (k == q) || b) (marks_has h q ks)

cuts_send : (p : Pair) (d u : ℕ) (o : Option Link) → (cuts_by p d u o).send ≡ p.send
cuts_send p d u None = refl
cuts_send p d u (Some k) = refl

pub cuts_recv : (p : Pair) (d u : ℕ) (o : Option Link) → (cuts_by p d u o).recv ≡ p.recv
cuts_recv p d u None = refl
cuts_recv p d u (Some k) = refl

-- ---- a world with one lane's pair another

-- the lane's part
abbrev Part : PlainWorld → ℕ → Pair → Type 0
Part w k p =
    (q : ℕ) → IsTalking (recv_stance (recv.lane_at w.receiver k) (recv.past_at w.receiver k).is_idle (recv.past_at w.receiver k).is_acked p.recv) → has
    (telling w k) q ≡ true
    → TellsOn (is_closed w.sender q ≡ true) q p (send_stance (lane_at w.sender k) (past_at w.sender k).is_acked p.send)

pair_tells : (w : PlainWorld) (l : ℕ) (p : Pair) → l < length w.pairs → Tellings w → Part w l p → Tellings (with_pair w l p)
pair_tells w l p within all own k q small =
    each_pair (Part w) w.pairs l p within own (λ i b ne j. all i j b) k (subst (λ (n : ℕ). k < n) (length-set w.pairs l p) small) q

-- ---- a turn of the sender's lane

module _ (stay : StayClosed) (touches : SenderTouches) (comes : SenderComes) (w : PlainWorld) (l : ℕ) (input : SendIn) (s : IsSound w) (f : Finishing w)
    (within : l < length w.pairs) (holds : (pair_at w l).send ≡ SendHas input) where
  abbrev step : SendStep
  step = send_turn w.sender (number l) input

  abbrev after : Pair
  after = send_takes (pair_at w l) input (past_at step.1 l).is_greeted step.0

  seen : send_seen.Seen w l input step
  seen = send_seen.turn_seen comes w l input s.talk f.empty f.planned within holds (subst (λ (h : SendHold). SendBelongs h (lane_at w.sender l)) holds (s.belongs.send l within))

  own_hand : (q : ℕ) → marked_in q (send_in_hand (SendHas input)) ≡ true → (is_closed step.1 q ≡ true) ⊎ (IsTalking (stands_behind l step) → ⊥)
  own_hand q m = go seen where
    go : send_seen.Seen w l input step → (is_closed step.1 q ≡ true) ⊎ (IsTalking (stands_behind l step) → ⊥)
    go (Hushes quiet same word) = inr quiet
    go (Talks-on talks knows same word) = inl (knows q m)
    go (Empties talks knows none) = inl (knows q m)
    go (Frees talks knows on) = inl (knows q m)

  own_talks : IsTalking (stands_behind l step) → IsTalking (sends_at w l)
  own_talks t = go seen where
    go : send_seen.Seen w l input step → IsTalking (sends_at w l)
    go (Hushes quiet same word) = absurd (quiet t)
    go (Talks-on talks knows same word) = talks
    go (Empties talks knows none) = talks
    go (Frees talks knows on) = talks

  abbrev Turned : ℕ → Pair → Type 0
  Turned k p =
      (q : ℕ) → IsTalking (recv_stance (recv.lane_at w.receiver k) (recv.past_at w.receiver k).is_idle (recv.past_at w.receiver k).is_acked p.recv) → has
      (telling w k) q ≡ true
      → TellsOn (is_closed step.1 q ≡ true) q p (send_stance (lane_at step.1 k) (past_at step.1 k).is_acked p.send)

  own : Turned l after
  own q talks e =
      let r = phase_in (receives_at w l) talks in
      turn_tells (is_closed w.sender q ≡ true) (is_closed step.1 q ≡ true) q (pair_at w l) input (past_at step.1 l).is_greeted step.0 (sends_at w l)
      (stands_behind l step) holds (closed_stays stay touches w.sender (number l) input q) (own_hand q) own_talks
      (λ top t m. marked_none w l q s.talk within (lane_holds w l s within) r.0 r.1 top t m) (f.tellings l q within talks e)

  others : (i : ℕ) → i < length w.pairs → i ≢ l → Turned i (pair_at w i)
  others i b ne q talks e =
      subst (λ (x : SendLane). TellsOn (is_closed step.1 q ≡ true) q (pair_at w i) (send_stance x (past_at step.1 i).is_acked (pair_at w i).send))
      (sym ((touches w.sender (number l) input).others i ne))
      (subst (λ (x : Bool). TellsOn (is_closed step.1 q ≡ true) q (pair_at w i) (send_stance (lane_at w.sender i) x (pair_at w i).send)) (sym (acked_beside i _ _ _ ((touches w.sender (number l) input).pasts i ne)))
      (tells_known (is_closed w.sender q ≡ true) (is_closed step.1 q ≡ true) q (pair_at w i) (sends_at w i) (closed_stays stay touches w.sender (number l) input q) (f.tellings i q b talks e)))

  pub send_turn_tells : Tellings (send_turned w l input step)
  send_turn_tells k q small = each_pair Turned w.pairs l after within own others k (subst (λ (n : ℕ). k < n) (length-set w.pairs l after) small) q

-- ---- a turn of the receiver's lane

module _ (w : PlainWorld) (l : ℕ) (s : IsSound w) (f : Finishing w) (within : l < length w.pairs) (put : Put) (hands : Hands (pair_at w l).recv put)
    (step : Step) (ends : EndsIn (Unit {0}) (turn_plan w.receiver (number l) put) step) where
  abbrev Stepped : ℕ → Pair → Type 0
  Stepped k p =
      (q : ℕ) → IsTalking (recv_stance (recv.lane_at step.1 k) (recv.past_at step.1 k).is_idle (recv.past_at step.1 k).is_acked p.recv) → has
      (recv.past_at step.1 k).telling q ≡ true
      → TellsOn (is_closed w.sender q ≡ true) q p (send_stance (lane_at w.sender k) (past_at w.sender k).is_acked p.send)

  touched : RecvTouches w.receiver (number l) step.1
  touched = turn_touches w.receiver (number l) put step ends

  past_there : (k : ℕ) → k ≢ l → recv.past_at step.1 k ≡ recv.past_at w.receiver k
  past_there k ne =
      ap (λ (g : List RecvEvent). past_of g k) touched.history.behind ∙ others_past w.receiver.history touched.history.entries l k touched.history.own ne

  stepped_others : (i : ℕ) → i < length w.pairs → i ≢ l → Stepped i (pair_at w i)
  stepped_others i b ne q talks e =
      f.tellings i q b
      (subst IsTalking (ap (λ (x : RecvLane). recv_stance x (recv.past_at step.1 i).is_idle (recv.past_at step.1 i).is_acked (pair_at w i).recv) (touched.others i ne) ∙ ap (λ (x : RecvPast). recv_stance (recv.lane_at w.receiver i) x.is_idle x.is_acked (pair_at w i).recv) (past_there i ne)) talks)
      (ap (λ (x : RecvPast). has x.telling q) (sym (past_there i ne)) ∙ e)

  none_told : {P : Type 0} (q : ℕ) → (recv.past_at step.1 l).telling ≡ [] → has (recv.past_at step.1 l).telling q ≡ true → P
  none_told q none e = absurd (both_ways (has (recv.past_at step.1 l).telling q) (ap (λ (ks : List ℕ). has ks q) none) e)

  legal : (recv.past_at w.receiver l).is_idle ≡ true → (recv.past_at w.receiver l).telling ≡ []
  legal e = (legal_sound (terms_of w.receiver) w.receiver.history l s.talk.receiver.legal).idle e

  stepped_own : Stepped l (recv_gets (pair_at w l) step.0)
  stepped_own q talks e = go (recv_seen.turn_seen w l s.talk within put hands (s.belongs.recv l within) step ends) where
    go : Seen w.receiver l put step → TellsOn (is_closed w.sender q ≡ true) q (recv_gets (pair_at w l) step.0) (sends_at w l)
    go (Stays st) =
        steps_tell (is_closed w.sender q ≡ true) q (pair_at w l).send (sends_at w l) (pair_at w l).between (pair_at w l).newest (pair_at w l).denies
        (pair_at w l).refusals (pair_at w l).recv step.0 (pair_at w l).taken (hands_mute (pair_at w l).recv put hands)
        (done_behind (in_hand (pair_at w l).recv) (down_sent (pair_at w l).taken))
        (f.tellings l q within (turn_spoke w l s.talk within put hands (s.belongs.recv l within) step ends talks) (ap (λ (ks : List ℕ). has ks q) (sym (st.telling l)) ∙ e))
    go (Drops o) = none_told q o.telling e
    go (Closes come o) = none_told q o.telling e
    go (Asks p why) = none_told q (point_telling w.receiver l put step.1.history legal p) e
    go (Tells t k ks p many untold is) = inr (inl (ap (λ (x : Step). marked_in q (to_say (RecvDoes x.0))) is ∙ (one (list_any (λ (m : Mark). m.lane.0 == q) (map (mark_of t.history) (k ∷ ks))) ∙ (marks_has t.history q (k ∷ ks) ∙ told)))) where
      one : (b : Bool) → (b || false) ≡ b
      one true = refl
      one false = refl

      past : recv.past_at step.1 l ≡ record (past_of t.history l) { is_idle = false; told = (past_of t.history l).told ++ lanes_of (set_of (k ∷ ks)); telling = lanes_of (set_of (k ∷ ks)) }
      past = ap (λ (x : Step). recv.past_at x.1 l) is ∙ (past_of-append t.history (events.Told (number l) (set_of (k ∷ ks)) ∷ []) l ∙ rw (eq-eqb l l refl) refl)

      told : has (k ∷ ks) q ≡ true
      told = sym (has_set (k ∷ ks) q) ∙ in_filter (has_lane (set_of (k ∷ ks))) (numbers 16) q (ap (λ (x : RecvPast). has x.telling q) (sym past) ∙ e)
    go (Ends t sound p many first ready is) =
        none_told q
        (ap (λ (g : List RecvEvent). (past_of g l).telling) is ∙ (ap (λ (x : RecvPast). x.telling) (past_of-append t.history (events.Finish ∷ []) l) ∙ point_telling w.receiver l put t.history legal p)) e

  pub recv_turn_tells : Tellings (recv_turned w l step)
  recv_turn_tells k q small =
      each_pair Stepped w.pairs l (recv_gets (pair_at w l) step.0) within stepped_own stepped_others k
      (subst (λ (n : ℕ). k < n) (length-set w.pairs l (recv_gets (pair_at w l) step.0)) small) q

-- ---- whatever happens

module _ (stay : StayClosed) (touches : SenderTouches) (comes : SenderComes) where
  pub tellings_after : (w : PlainWorld) (e : WorldEvent) → IsSound w → Finishing w → lane_of e < length w.pairs → Tellings (happens w e)
  tellings_after w (Sends l lost) s f within =
      send_cases Tellings w l lost
      (λ act is. pair_tells w l (send_does (pair_at w l) lost act) within f.tellings (λ q talks e.
      let t : IsTalking (receives_at w l) = subst IsTalking (ap (recv_stance (recv.lane_at w.receiver l) (recv.past_at w.receiver l).is_idle (recv.past_at w.receiver l).is_acked) (does_recv (pair_at w l) lost act)) talks in
      send_act_tells w l s f within q lost act is t (f.tellings l q within t e)))
      (λ input is. send_turn_tells stay touches comes w l input s f within is)
  tellings_after w (Receives l broken) s f within =
      recv_cases Tellings w l broken f.tellings
      (λ act is. pair_tells w l (recv_does (pair_at w l) act) within f.tellings (λ q talks e. acts_so act is q talks e))
      (λ put hands. recv_turn_tells w l s f within put hands (recv_turn w.receiver l put broken) (ends_in (turn_plan w.receiver (number l) put) broken)) where
        acts_so : (act : RecvAct) → (pair_at w l).recv ≡ RecvDoes act → Part w l (recv_does (pair_at w l) act)
        acts_so act is q talks e =
            subst (TellsOn (is_closed w.sender q ≡ true) q (recv_does (pair_at w l) act))
            (ap (send_stance (lane_at w.sender l) (past_at w.sender l).is_acked) (sym (does_send (pair_at w l) act)))
            (recv_act_tells w l s f within q act is talks e)
  tellings_after w (Cut l down up) s f within =
      let p : Pair = pair_at w l in
      pair_tells w l (cuts_by (pair_at w l) down up (top_by (pair_at w l).newest (pair_at w l).taken)) within f.tellings (λ q talks e.
      subst (TellsOn (is_closed w.sender q ≡ true) q (cuts_by p down up (top_by p.newest p.taken)))
      (ap (send_stance (lane_at w.sender l) (past_at w.sender l).is_acked) (sym (cuts_send p down up (top_by p.newest p.taken))))
      (cut_tells (is_closed w.sender q ≡ true) q (sends_at w l) p.send p.recv p.taken p.between p.newest p.denies p.refusals down up
      (f.tellings l q within (subst IsTalking (ap (recv_stance (recv.lane_at w.receiver l) (recv.past_at w.receiver l).is_idle (recv.past_at w.receiver l).is_acked) (cuts_recv p down up (top_by p.newest p.taken))) talks) e)))
  tellings_after w (Deny l) s f within =
      pair_tells w l (record (pair_at w l) { denies = suc (pair_at w l).denies }) within f.tellings (λ q talks e. f.tellings l q within talks e)
  tellings_after w (Refuse l) s f within =
      pair_tells w l (record (pair_at w l) { refusals = suc (pair_at w l).refusals }) within f.tellings (λ q talks e. f.tellings l q within talks e)
