-- What was left behind stays cut in a world, whatever happens.
use Rattle.std.proofs.Common.{◌≡◌, inl, inr, ℕ, zero, suc, ◌<◌, Bool, true, false, List, [], ◌∷◌, length, Option, Some, subst, sym, ap, ◌∙◌, refl}
use Rattle.std.proofs.lemmas.Bool.{both_ways}
use Rattle.std.proofs.lemmas.List.{length-set}
use Rattle.wdt_units.specs.declared.numbers.Lane.{Lane}
use Rattle.wdt_codec.specs.declared.frames.Frame.{Frame}
use Rattle.wdt_sender_fsm.specs.declared.acts.SendAct.{SendAct}
use Rattle.wdt_sender_fsm.specs.declared.acts.SendAct.TheVariants as acts
use Rattle.wdt_sender_fsm.specs.declared.events.SendEvent.{SendEvent}
use Rattle.wdt_sender_fsm.specs.declared.events.SendEvent.TheVariants as events
use Rattle.wdt_sender_fsm.specs.declared.inputs.SendIn.{SendIn}
use Rattle.wdt_sender_fsm.specs.declared.inputs.SendIn.TheVariants as inputs
use Rattle.wdt_sender_fsm.specs.declared.states.SendLane.{SendLane}
use Rattle.wdt_sender_fsm.specs.declared.states.SendState.{SendState}
use Rattle.wdt_sender_fsm.specs.declared.states.SendState.TheVariants as states
use Rattle.wdt_sender_fsm.specs.Outcomes as sends
use Rattle.wdt_sender_fsm.specs.Phases.{Framed, Phase}
use Rattle.wdt_sender_fsm.specs.PlainSender as sender
use Rattle.wdt_sender_fsm.specs.PlainSender.{PlainSender}
use Rattle.wdt_sender_fsm.specs.Reasons as reasons
use Rattle.wdt_sender_fsm.specs.Reasons.{Comes}
use Rattle.wdt_sender_fsm.specs.Rows as send_rows
use Rattle.wdt_sender_fsm.specs.Touches.{Touches}
use Rattle.wdt_sender_fsm.specs.Turn.{greeted_by, send_turn, Step as SendStep}
use Rattle.wdt_receiver_fsm.specs.declared.acts.RecvAct.{RecvAct}
use Rattle.wdt_receiver_fsm.specs.declared.acts.RecvAct.TheVariants as recv_acts
use Rattle.wdt_receiver_fsm.specs.declared.inputs.RecvIn.TheVariants as recv_inputs
use Rattle.wdt_receiver_fsm.specs.declared.states.RecvLane.{RecvLane}
use Rattle.wdt_receiver_fsm.specs.declared.states.RecvState.{RecvState}
use Rattle.wdt_receiver_fsm.specs.declared.states.RecvState.TheVariants as recv_states
use Rattle.wdt_receiver_fsm.specs.Outcomes as outcomes
use Rattle.wdt_receiver_fsm.specs.Phases.{FitsLane, phase_by}
use Rattle.wdt_receiver_fsm.specs.Plan.{EndsIn}
use Rattle.wdt_receiver_fsm.specs.PlainReceiver as recv
use Rattle.wdt_receiver_fsm.specs.PlainReceiver.{PlainReceiver}
use Rattle.wdt_receiver_fsm.specs.ReceiverHistory.{RecvPast}
use Rattle.wdt_receiver_fsm.specs.Rows.{is_reading}
use Rattle.wdt_receiver_fsm.specs.Turn.{Bytes, Given, Put, Step, begins_by, greets_by, meets, turn_plan}
use Rattle.wdt_receiver_fsm.proofs.ForCallers.{end_comes, turn_touches}
use Rattle.wdt_pact.specs.Belongs.{RecvBelongs, RecvBelongsAt, SendBelongs, SendBelongsAt, SendFrameIn}
use Rattle.wdt_pact.specs.Pairs.{Pair, RecvHold, RecvDoes, RecvHas, RecvTook, SendHold, SendDoes, SendHas, recv_does, recv_gets, recv_stops, send_does, send_takes}
use Rattle.wdt_pact.specs.Progress.{is_recv_off, is_send_off}
use Rattle.wdt_pact.specs.World.{PlainWorld, number, pair_at, recv_steps, recv_steps_by, recv_turn, recv_turned, recv_woken, send_steps, send_steps_by, some_bytes, with_pair}
use Rattle.wdt_pact.specs.Conversation.{Conversation}
use Rattle.wdt_pact.proofs.CutSteps as of_sends
use Rattle.wdt_pact.proofs.CutSteps.{cuts_split, recv_turn_split, send_turn_split}
use Rattle.wdt_pact.proofs.Cuts as of_recvs
use Rattle.wdt_pact.proofs.Cuts.{IsSplit}
use Rattle.wdt_pact.proofs.Frame.{each_pair}
use Rattle.wdt_pact.proofs.RecvBelonging.{fits_writing, own_belongs as recv_own_belongs}
use Rattle.wdt_pact.proofs.RecvHands.{Hands, holds_input}
use Rattle.wdt_pact.proofs.RecvRows.{ends_in}
use Rattle.wdt_pact.proofs.SendLaw.{frame_writing, own_belongs as send_own_belongs}

-- each lane of a world is so
abbrev pub AllSplit : PlainWorld → Type 0
AllSplit w = (l : ℕ) → l < length w.pairs → IsSplit (sender.state_at w.sender l) (recv.state_at w.receiver l) (pair_at w l)

pub pair_splits : (w : PlainWorld) (l : ℕ) (p : Pair) → l < length w.pairs → IsSplit (sender.state_at w.sender l) (recv.state_at w.receiver l) p → AllSplit w → AllSplit (with_pair w l p)
pair_splits w l p within own all k below =
    each_pair (λ (i : ℕ) (q : Pair). IsSplit (sender.state_at w.sender i) (recv.state_at w.receiver i) q) w.pairs l p within own (λ i b ne. all i b) k (subst (λ (n : ℕ). k < n) (length-set w.pairs l p) below)

-- ---- the receiver

off_listens : (act : RecvAct) (rs : RecvState) → is_recv_off (RecvDoes act) rs ≡ true → rs ≡ recv_states.Listen
off_listens act recv_states.Listen e = refl
off_listens act rs e = cc

abbrev is_accept : RecvAct → Bool
is_accept recv_acts.Accept = true
is_accept _ = false

listens_phase : {P : Type 0} (lane : RecvLane) (idle : Bool) (st : RecvState) (p : Phase) → st ≡ recv_states.Listen → phase_by lane idle false st ≡ Some p → P
listens_phase lane idle recv_states.Listen p e h = cc
listens_phase lane idle st p e h = cc

-- a lane that listens takes a connection
accepts : (lane : RecvLane) (past : RecvPast) (act : RecvAct) → FitsLane lane past act → lane.state ≡ recv_states.Listen → is_accept act ≡ true
accepts lane past recv_acts.Accept f here = refl
accepts lane past (recv_acts.Write frame) (inl f) here = let x : recv_states.Listen ≡ recv_states.SendAbort = sym here ∙ f.1 in cc
accepts lane past (recv_acts.Write frame) (inr f) here = listens_phase lane past.is_idle lane.state f.from here f.before
accepts lane past recv_acts.Read f here = absurd (both_ways (is_reading lane.state) (ap is_reading here) f)
accepts lane past (recv_acts.TakePiece n) f here = let x : recv_states.Listen ≡ recv_states.TakeBlock = sym here ∙ f.at in cc
accepts lane past recv_acts.Park f here = let x : recv_states.Listen ≡ recv_states.WaitForFinish = sym here ∙ f in cc
accepts lane past recv_acts.Stop f here = let x : recv_states.Listen ≡ recv_states.Ended = sym here ∙ f in cc

hands_stops : (held : RecvHold) (put : Put) → Hands held put → recv_stops held ≡ false
hands_stops (RecvHas i) put h = refl
hands_stops (RecvTook n) put h = refl
hands_stops (RecvDoes recv_acts.Park) put h = refl
hands_stops (RecvDoes act) put h = absurd h

module _ (w : PlainWorld) (l : ℕ) (put : Put) (hands : Hands (pair_at w l).recv put) (belongs : RecvBelongsAt w l) where
  abbrev Off : Type 0
  Off = is_recv_off (pair_at w l).recv (recv.state_at w.receiver l) ≡ true

  wants_off : (t : PlainReceiver) → outcomes.Listens w.receiver (number l) put t → Off
  wants_off t (outcomes.AtFirst serves given) = absurd (subst (λ (h : RecvHold). RecvBelongs h (recv.lane_at w.receiver l) (recv.past_at w.receiver l)) (holds_input (pair_at w l).recv put recv_inputs.Start hands given refl) belongs)
  wants_off t (outcomes.ByNoLink serves given) = ap (λ (h : RecvHold). is_recv_off h (recv.state_at w.receiver l)) (holds_input (pair_at w l).recv put recv_inputs.NoLink hands given refl) ∙ ap (is_recv_off (RecvHas recv_inputs.NoLink)) serves.here
  wants_off t (outcomes.ByLoss st serves linked given) = ap (λ (h : RecvHold). is_recv_off h (recv.state_at w.receiver l)) (holds_input (pair_at w l).recv put recv_inputs.Lost hands given refl)

  -- only a lane without a connection comes to take one
  accept_of : (o : outcomes.Outcome) → outcomes.ComesOf w.receiver (number l) put o → is_accept (outcomes.came_to w.receiver (number l) o).0 ≡ true → Off
  accept_of (outcomes.Listened t) of e = wants_off t of.0
  accept_of outcomes.Rested of e = cc
  accept_of outcomes.Left of e = cc
  accept_of outcomes.Warned of e = cc
  accept_of (outcomes.Failed t answer true) of e = cc
  accept_of (outcomes.Failed t answer false) of e = cc
  accept_of (outcomes.GivenUp t) of e = cc
  accept_of outcomes.Linked of e = cc
  accept_of (outcomes.Greeted s) of e = absurd (either (recv.has_finish w.receiver) e) where
    either : (b : Bool) → is_accept (greets_by (meets w.receiver (number l) s) (number l) s b).0 ≡ true → ⊥
    either true e = cc
    either false e = cc
  accept_of outcomes.Listed of e = cc
  accept_of (outcomes.ReadOn t) of e = cc
  accept_of (outcomes.Sized files bytes) of e = cc
  accept_of (outcomes.Begun t b) of e = absurd (either b.length e) where
    either : (n : ℕ) → is_accept (begins_by t (number l) b n).0 ≡ true → ⊥
    either zero e = cc
    either (suc n) e = cc
  accept_of (outcomes.Taken left) of e = cc
  accept_of (outcomes.Concluded t) of e = cc
  accept_of (outcomes.Told t q qs) of e = cc
  accept_of (outcomes.Waited t true) of e = cc
  accept_of (outcomes.Waited t false) of e = cc
  accept_of outcomes.Ended of e = cc
  accept_of outcomes.Acknowledged of e = cc

  pub recv_turn_splits : (step : Step) → EndsIn (Unit {0}) (turn_plan w.receiver (number l) put) step → l < length w.pairs → FitsLane (recv.lane_at step.1 l) (recv.past_at step.1 l) step.0 → AllSplit w → AllSplit (recv_turned w l step)
  recv_turn_splits step ends within fits all k below =
      each_pair (λ (i : ℕ) (q : Pair). IsSplit (sender.state_at w.sender i) (recv.state_at step.1 i) q) w.pairs l (recv_gets (pair_at w l) step.0) within
      (recv_turn_split (sender.state_at w.sender l) (recv.state_at w.receiver l) (recv.state_at step.1 l) (pair_at w l) step.0 (hands_stops (pair_at w l).recv put hands)
      (λ e. let x = end_comes w.receiver (number l) put (Unit {0}) step ends in
      accept_of x.outcome x.of (ap (λ (y : Step). is_accept y.0) (sym x.is) ∙ accepts (recv.lane_at step.1 l) (recv.past_at step.1 l) step.0 fits (off_listens step.0 (recv.state_at step.1 l) e)))
      (all l within))
      (λ i b ne. subst (λ (x : RecvLane). IsSplit (sender.state_at w.sender i) x.state (pair_at w i)) (sym ((turn_touches w.receiver (number l) put step ends).others i ne)) (all i b)) k
      (subst (λ (n : ℕ). k < n) (length-set w.pairs l (recv_gets (pair_at w l) step.0)) below)

woken_splits : (w : PlainWorld) (l : ℕ) (act : RecvAct) (r : PlainReceiver) → AllSplit w → AllSplit (recv_turned w l (act, r)) → AllSplit (recv_woken w l (act, r))
woken_splits w l recv_acts.Park r all x = all
woken_splits w l act r all x = x

module _ (w : PlainWorld) (l : ℕ) (broken : Option ℕ) (c : Conversation w) (within : l < length w.pairs) (belong : (k : ℕ) → k < length w.pairs → RecvBelongsAt w k) (all : AllSplit w) where
  abbrev p : Pair
  p = pair_at w l

  has : (h : RecvHold) → (pair_at w l).recv ≡ h → RecvBelongs h (recv.lane_at w.receiver l) (recv.past_at w.receiver l)
  has h is = subst (λ (x : RecvHold). RecvBelongs x (recv.lane_at w.receiver l) (recv.past_at w.receiver l)) is (belong l within)

  -- a turn, where what it holds then belongs to its state
  turns : (put : Put) → Hands (pair_at w l).recv put → AllSplit (recv_turned w l (recv_turn w.receiver l put broken))
  turns put hands =
      recv_turn_splits w l put hands (belong l within) (recv_turn w.receiver l put broken) (ends_in (turn_plan w.receiver (number l) put) broken) within
      (recv_own_belongs w l c within put hands (belong l within) (recv_turn w.receiver l put broken) (ends_in (turn_plan w.receiver (number l) put) broken)) all

  at : (h : RecvHold) → (pair_at w l).recv ≡ h → IsSplit (sender.state_at w.sender l) (recv.state_at w.receiver l) (record p { recv = h })
  at h is = subst (λ (x : RecvHold). IsSplit (sender.state_at w.sender l) (recv.state_at w.receiver l) (record p { recv = x })) is (all l within)

  does : (act : RecvAct) → (pair_at w l).recv ≡ RecvDoes act → IsSplit (sender.state_at w.sender l) (recv.state_at w.receiver l) (recv_does (record p { recv = RecvDoes act }) act)
  does recv_acts.Accept is =
      subst (λ (x : RecvState). IsSplit (sender.state_at w.sender l) x (recv_does (record p { recv = RecvDoes recv_acts.Accept }) recv_acts.Accept)) (sym (has (RecvDoes recv_acts.Accept) is))
      (of_recvs.accepts_split (sender.state_at w.sender l) p.send p.denies p.taken p.between p.newest p.refusals (c.lanes l within).waits.order
      (subst (λ (x : RecvState). IsSplit (sender.state_at w.sender l) x (record p { recv = RecvDoes recv_acts.Accept })) (has (RecvDoes recv_acts.Accept) is) (at (RecvDoes recv_acts.Accept) is)))
  does (recv_acts.Write f) is =
      of_recvs.writes_split (sender.state_at w.sender l) (recv.state_at w.receiver l) p.send p.between p.denies p.refusals f p.taken p.newest (fits_writing (recv.lane_at w.receiver l) (recv.past_at w.receiver l) f (has (RecvDoes (recv_acts.Write f)) is)) (at (RecvDoes (recv_acts.Write f)) is)
  does recv_acts.Read is = of_recvs.reads_split (sender.state_at w.sender l) (recv.state_at w.receiver l) p.send p.between p.denies p.refusals p.taken p.newest (has (RecvDoes recv_acts.Read) is) (at (RecvDoes recv_acts.Read) is)
  does (recv_acts.TakePiece n) is = of_recvs.takes_split (sender.state_at w.sender l) (recv.state_at w.receiver l) p.send p.between p.denies p.refusals n p.taken p.newest (has (RecvDoes (recv_acts.TakePiece n)) is).at (at (RecvDoes (recv_acts.TakePiece n)) is)
  does recv_acts.Park is = at (RecvDoes recv_acts.Park) is
  does recv_acts.Stop is = at (RecvDoes recv_acts.Stop) is

  acted : (act : RecvAct) → (pair_at w l).recv ≡ RecvDoes act → AllSplit (with_pair w l (recv_does p act))
  acted act is = pair_splits w l (recv_does p act) within (subst (λ (h : RecvHold). IsSplit (sender.state_at w.sender l) (recv.state_at w.receiver l) (recv_does (record p { recv = h }) act)) (sym is) (does act is)) all

  pub recv_splits : AllSplit (recv_steps w l broken)
  recv_splits = go (pair_at w l).recv refl where
    go : (h : RecvHold) → (pair_at w l).recv ≡ h → AllSplit (recv_steps w l broken)
    go (RecvDoes recv_acts.Park) is =
        subst (λ (x : RecvHold). AllSplit (recv_steps_by w l broken x)) (sym is)
        (woken_splits w l (recv_turn w.receiver l (Given recv_inputs.Woken) broken).0 (recv_turn w.receiver l (Given recv_inputs.Woken) broken).1 all (turns (Given recv_inputs.Woken) (subst (λ (x : RecvHold). Hands x (Given recv_inputs.Woken)) (sym is) refl)))
    go (RecvDoes recv_acts.Accept) is = subst (λ (x : RecvHold). AllSplit (recv_steps_by w l broken x)) (sym is) (acted recv_acts.Accept is)
    go (RecvDoes (recv_acts.Write f)) is = subst (λ (x : RecvHold). AllSplit (recv_steps_by w l broken x)) (sym is) (acted (recv_acts.Write f) is)
    go (RecvDoes recv_acts.Read) is = subst (λ (x : RecvHold). AllSplit (recv_steps_by w l broken x)) (sym is) (acted recv_acts.Read is)
    go (RecvDoes (recv_acts.TakePiece n)) is = subst (λ (x : RecvHold). AllSplit (recv_steps_by w l broken x)) (sym is) (acted (recv_acts.TakePiece n) is)
    go (RecvDoes recv_acts.Stop) is = subst (λ (x : RecvHold). AllSplit (recv_steps_by w l broken x)) (sym is) (acted recv_acts.Stop is)
    go (RecvHas i) is = subst (λ (x : RecvHold). AllSplit (recv_steps_by w l broken x)) (sym is) (turns (Given i) (subst (λ (x : RecvHold). Hands x (Given i)) (sym is) refl))
    go (RecvTook n) is = subst (λ (x : RecvHold). AllSplit (recv_steps_by w l broken x)) (sym is) (turns (Bytes (some_bytes n)) (subst (λ (x : RecvHold). Hands x (Bytes (some_bytes n))) (sym is) refl))

-- ---- the sender

off_connects : (act : SendAct) (ss : SendState) → is_send_off (SendDoes act) ss ≡ true → ss ≡ states.Connect
off_connects act states.Connect e = refl
off_connects act ss e = cc

abbrev is_dial : SendAct → Bool
is_dial (acts.Dial conn) = true
is_dial _ = false

connects_frame : {P : Type 0} (lane : SendLane) (st : SendState) (f : Frame) → st ≡ states.Connect → SendFrameIn lane st f → P
connects_frame lane states.Connect f e x = absurd x
connects_frame lane st f e x = cc

-- a lane that has no connection makes one
dials : (lane : SendLane) (act : SendAct) → SendBelongs (SendDoes act) lane → lane.state ≡ states.Connect → is_dial act ≡ true
dials lane (acts.Dial conn) b here = refl
dials lane (acts.Write f) b here = connects_frame lane lane.state f here b
dials lane (acts.SendBlock h) b here = let x : states.Connect ≡ states.SendBlocks = sym here ∙ b in cc
dials lane acts.Read b here = absurd (both_ways (send_rows.is_reading lane.state) (ap send_rows.is_reading here) b)
dials lane acts.Stop b here = let x : states.Connect ≡ states.Ended = sym here ∙ b in cc

module _ (comes : (s : PlainSender) (k : Lane) (i : SendIn) → Comes s k i (send_turn s k i)) (touches : (s : PlainSender) (k : Lane) (i : SendIn) → Touches s k i (send_turn s k i).1) (w : PlainWorld) (l : ℕ) (lost : Option ℕ) (c : Conversation w) (within : l < length w.pairs) (belong : (k : ℕ) → k < length w.pairs → SendBelongsAt w k) (all : AllSplit w) where
  abbrev q : Pair
  q = pair_at w l

  holds : (h : SendHold) → (pair_at w l).send ≡ h → SendBelongs h (sender.lane_at w.sender l)
  holds h is = subst (λ (x : SendHold). SendBelongs x (sender.lane_at w.sender l)) is (belong l within)

  split_at : (h : SendHold) → (pair_at w l).send ≡ h → IsSplit (sender.state_at w.sender l) (recv.state_at w.receiver l) (record q { send = h })
  split_at h is = subst (λ (x : SendHold). IsSplit (sender.state_at w.sender l) (recv.state_at w.receiver l) (record q { send = x })) is (all l within)

  dials_off : (input : SendIn) (es : List SendEvent) → SendBelongs (SendHas input) (sender.lane_at w.sender l) → reasons.Dials w.sender (number l) input es → is_send_off (SendHas input) (sender.state_at w.sender l) ≡ true
  dials_off input es b (reasons.AtFirst serves given) = absurd (subst (λ (x : SendIn). SendBelongs (SendHas x) (sender.lane_at w.sender l)) given b)
  dials_off input es b (reasons.ByNoLink serves given) = ap (λ (x : SendIn). is_send_off (SendHas x) (sender.state_at w.sender l)) given ∙ ap (is_send_off (SendHas inputs.NoLink)) serves.here
  dials_off input es b (reasons.ByLoss st serves allowed given) = ap (λ (x : SendIn). is_send_off (SendHas x) (sender.state_at w.sender l)) given

  -- only a lane without a connection comes to make one
  dial_of : (input : SendIn) → SendBelongs (SendHas input) (sender.lane_at w.sender l) → (o : sends.Outcome) → reasons.ComesOf w.sender (number l) input o → is_dial (sends.came_to w.sender (number l) o).0 ≡ true → is_send_off (SendHas input) (sender.state_at w.sender l) ≡ true
  dial_of input b (sends.Redialed es) of e = dials_off input es b of.0
  dial_of input b sends.Rested of e = cc
  dial_of input b sends.Waited of e = cc
  dial_of input b sends.Left of e = cc
  dial_of input b sends.Warned of e = cc
  dial_of input b (sends.Failed answer true) of e = cc
  dial_of input b (sends.Failed answer false) of e = cc
  dial_of input b (sends.GivenUp es) of e = cc
  dial_of input b sends.Introduced of e = cc
  dial_of input b sends.Presented of e = cc
  dial_of input b (sends.Greeted count) of e = absurd (either (sender.lane_at w.sender l).ask e) where
    either : (x : Bool) → is_dial (greeted_by (sender.noted w.sender (events.Greet (number l) count ∷ [])) (number l) x).0 ≡ true → ⊥
    either true e = cc
    either false e = cc
  dial_of input b sends.Listed of e = cc
  dial_of input b (sends.Planned have) of e = cc
  dial_of input b (sends.Claimed es block) of e = cc
  dial_of input b (sends.Emptied es) of e = cc
  dial_of input b sends.Concluded of e = cc
  dial_of input b sends.Finished of e = cc
  dial_of input b sends.Acknowledged of e = cc

  sends_act : (act : SendAct) → (pair_at w l).send ≡ SendDoes act → IsSplit (sender.state_at w.sender l) (recv.state_at w.receiver l) (send_does (record q { send = SendDoes act }) lost act)
  sends_act (acts.Dial conn) is =
      subst (λ (x : SendState). IsSplit x (recv.state_at w.receiver l) (send_does (record q { send = SendDoes (acts.Dial conn) }) lost (acts.Dial conn))) (sym (holds (SendDoes (acts.Dial conn)) is))
      (of_sends.dials_split (recv.state_at w.receiver l) q.recv q.refusals conn q.taken q.between q.newest q.denies q.denies (recv_stops q.recv) refl (c.lanes l within).waits.order
      (subst (λ (x : SendState). IsSplit x (recv.state_at w.receiver l) (record q { send = SendDoes (acts.Dial conn) })) (holds (SendDoes (acts.Dial conn)) is) (split_at (SendDoes (acts.Dial conn)) is)))
  sends_act (acts.Write f) is =
      of_sends.writes_split (sender.state_at w.sender l) (recv.state_at w.receiver l) q.recv q.between q.denies q.refusals (SendDoes (acts.Write f)) (Framed f ∷ []) q.taken q.newest refl
      (frame_writing (sender.lane_at w.sender l) (sender.state_at w.sender l) f (holds (SendDoes (acts.Write f)) is)) (split_at (SendDoes (acts.Write f)) is)
  sends_act (acts.SendBlock h) is = of_sends.block_split (sender.state_at w.sender l) (recv.state_at w.receiver l) q.recv q.between q.denies q.refusals h lost q.taken q.newest (holds (SendDoes (acts.SendBlock h)) is) (split_at (SendDoes (acts.SendBlock h)) is)
  sends_act acts.Read is = of_sends.reads_split (sender.state_at w.sender l) (recv.state_at w.receiver l) q.recv q.between q.denies q.refusals q.taken q.newest (holds (SendDoes acts.Read) is) (split_at (SendDoes acts.Read) is)
  sends_act acts.Stop is = split_at (SendDoes acts.Stop) is

  pub send_splits : AllSplit (send_steps w l lost)
  send_splits = go (pair_at w l).send refl where
    go : (h : SendHold) → (pair_at w l).send ≡ h → AllSplit (send_steps w l lost)
    go (SendDoes act) is =
        subst (λ (x : SendHold). AllSplit (send_steps_by w l lost x)) (sym is)
        (pair_splits w l (send_does q lost act) within (subst (λ (h : SendHold). IsSplit (sender.state_at w.sender l) (recv.state_at w.receiver l) (send_does (record q { send = h }) lost act)) (sym is) (sends_act act is)) all)
    go (SendHas input) is =
        let b = holds (SendHas input) is in
        let t = send_turn w.sender (number l) input in
        let x = comes w.sender (number l) input in
        subst (λ (y : SendHold). AllSplit (send_steps_by w l lost y)) (sym is)
        (λ k below.
        each_pair (λ (i : ℕ) (y : Pair). IsSplit (sender.state_at t.1 i) (recv.state_at w.receiver i) y) w.pairs l (send_takes q input (sender.past_at t.1 l).is_greeted t.0) within
        (subst (λ (h : SendHold). IsSplit (sender.state_at t.1 l) (recv.state_at w.receiver l) (send_takes (record q { send = h }) input (sender.past_at t.1 l).is_greeted t.0)) (sym is)
        (send_turn_split input (sender.past_at t.1 l).is_greeted t.0 (sender.state_at w.sender l) (sender.state_at t.1 l) (recv.state_at w.receiver l) q
        (λ e. dial_of input b x.outcome x.of (ap (λ (y : SendStep). is_dial y.0) (sym x.is) ∙ dials (sender.lane_at t.1 l) t.0 (send_own_belongs comes touches w l input c within b) (off_connects t.0 (sender.state_at t.1 l) e)))
        (split_at (SendHas input) is)))
        (λ i small ne. subst (λ (y : SendLane). IsSplit y.state (recv.state_at w.receiver i) (pair_at w i)) (sym ((touches w.sender (number l) input).others i ne)) (all i small)) k
        (subst (λ (n : ℕ). k < n) (length-set w.pairs l (send_takes q input (sender.past_at t.1 l).is_greeted t.0)) below))
