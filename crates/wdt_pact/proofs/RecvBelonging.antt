-- Behind a step of the receiver's lane, what it holds belongs to its state.
use Rattle.std.proofs.Common.{◌≡◌, inl, inr, ℕ, zero, suc, ◌<◌, ◌||◌, ◌&&◌, not, Bool, true, false, List, [], ◌∷◌, length, Option, Some, None, subst, sym, ap, ◌∙◌, refl}
use Rattle.std.proofs.lemmas.Bool.{both_ways}
use Rattle.std.proofs.lemmas.List.{length-set}
use Rattle.wdt_units.specs.declared.blocks.Block.{Block}
use Rattle.wdt_codec.specs.declared.frames.Frame.{Frame}
use Rattle.wdt_sender_fsm.specs.Phases.{Message, Framed, Piece}
use Rattle.wdt_receiver_fsm.specs.declared.acts.RecvAct.{RecvAct}
use Rattle.wdt_receiver_fsm.specs.declared.acts.RecvAct.TheVariants as recv_acts
use Rattle.wdt_receiver_fsm.specs.declared.events.RecvEvent.{RecvEvent}
use Rattle.wdt_receiver_fsm.specs.declared.events.RecvEvent.TheVariants as recv_events
use Rattle.wdt_receiver_fsm.specs.declared.inputs.RecvIn.TheVariants as recv_inputs
use Rattle.wdt_receiver_fsm.specs.declared.states.RecvLane.{RecvLane}
use Rattle.wdt_receiver_fsm.specs.declared.states.RecvState.{RecvState}
use Rattle.wdt_receiver_fsm.specs.declared.states.RecvState.TheVariants as recv_states
use Rattle.wdt_receiver_fsm.specs.Acts.{IsActOf}
use Rattle.wdt_receiver_fsm.specs.Outcomes.{ComesOf, Outcome, Rested, Left, Warned, Failed, GivenUp, Listened, Linked, Greeted, Listed, ReadOn, Sized, Begun, Taken, Concluded, Told, Waited, Ended, Acknowledged, came_to, is_linked}
use Rattle.wdt_receiver_fsm.specs.Outcomes.{WasOver, WasStray, WasSettled, WasNoBlock}
use Rattle.wdt_receiver_fsm.specs.Outcomes as outcomes
use Rattle.wdt_receiver_fsm.specs.Phases.{FitsLane}
use Rattle.wdt_receiver_fsm.specs.Plan.{EndsIn}
use Rattle.wdt_receiver_fsm.specs.PlainReceiver.{PlainReceiver, failed, goes, has_finish, is_ended, lane_at, lane_or_ended, noted, past_at, state_at}
use Rattle.wdt_receiver_fsm.specs.Receiver.{HasLeft}
use Rattle.wdt_receiver_fsm.specs.ReceiverHistory.{RecvPast, past_of}
use Rattle.wdt_receiver_fsm.specs.Rows.{is_reading, is_stray}
use Rattle.wdt_receiver_fsm.specs.Touches.{Touches}
use Rattle.wdt_receiver_fsm.specs.Turn.{Bytes, Given, Put, Step, begins_by, given_up, greets_by, meets, rests, row_at, turn_plan}
use Rattle.wdt_receiver_fsm.proofs.ForCallers.{act_fits, end_comes, turn_acts, turn_touches}
use Rattle.wdt_pact.specs.Belongs.{RecvBelongs, RecvBelongsAt, receives_writing}
use Rattle.wdt_pact.specs.Links.{Link, Way, front, is_cut, size_down}
use Rattle.wdt_pact.specs.Pairs.{Pair, RecvHold, RecvDoes, RecvHas, RecvTook, recv_accepts, recv_accepts_by, recv_does, recv_gets, recv_nothing, recv_reads, recv_reads_by, recv_takes, recv_takes_by, recv_writes, recv_wrote_or_lost, send_left, send_stops}
use Rattle.wdt_pact.specs.World.{PlainWorld, number, pair_at, recv_steps, recv_steps_by, recv_turn, recv_turned, recv_woken, some_bytes, with_pair}
use Rattle.wdt_pact.specs.Conversation.{Conversation}
use Rattle.wdt_pact.proofs.Below.{get_set, if_has}
use Rattle.wdt_pact.proofs.Frame.{each_pair}
use Rattle.wdt_pact.proofs.RecvAll.{no_stray}
use Rattle.wdt_pact.proofs.RecvFailing.{hands_lives}
use Rattle.wdt_pact.proofs.RecvHands.{Hands, holds_input}
use Rattle.wdt_pact.proofs.RecvOwn.{others_past}
use Rattle.wdt_pact.proofs.RecvRows.{ends_in, recv_fares}
use Rattle.wdt_pact.proofs.RecvWriting.{writing_in}

-- ---- what an act makes of it

writes_linked : (st : RecvState) → receives_writing st ≡ true → is_linked st ≡ true
writes_linked recv_states.Listen e = cc
writes_linked recv_states.Ended e = cc
writes_linked st e = refl

reads_linked : (st : RecvState) → is_reading st ≡ true → is_linked st ≡ true
reads_linked recv_states.Listen e = cc
reads_linked recv_states.Ended e = cc
reads_linked st e = refl

-- a lane that writes stands where it does
pub fits_writing : (lane : RecvLane) (past : RecvPast) (f : Frame) → FitsLane lane past (recv_acts.Write f) → receives_writing lane.state ≡ true
fits_writing lane past f (inl e) = ap receives_writing e.1
fits_writing lane past f (inr e) = writing_in lane e.to lane.state e.after

wrote_belongs : (b : Bool) (lane : RecvLane) (past : RecvPast) → receives_writing lane.state ≡ true → RecvBelongs (RecvHas (recv_wrote_or_lost b)) lane past
wrote_belongs true lane past e = e
wrote_belongs false lane past e = writes_linked lane.state e

module _ (lane : RecvLane) (past : RecvPast) where
  abbrev Has : Pair → Type 0
  Has p = RecvBelongs p.recv lane past

  nothing_belongs : (p : Pair) (k : Link) → Has p → is_linked lane.state ≡ true → Has (recv_nothing p k)
  nothing_belongs p k b e = if_has Has (is_cut k.down || send_left p.newest p.send) (record p { recv = RecvHas recv_inputs.Lost }) p e b

  reads_belongs : (p : Pair) (taken : Option Link) → Has p → is_reading lane.state ≡ true → Has (recv_reads p taken)
  reads_belongs p None b e = b
  reads_belongs p (Some k) b e = go (front size_down k.down) where
    go : (o : Option (Message × Way Message)) → Has (recv_reads_by p k o)
    go (Some (Framed f, rest)) = e
    go (Some (Piece n, rest)) = b
    go None = nothing_belongs p k b (reads_linked lane.state e)

  takes_belongs : (p : Pair) (taken : Option Link) → Has p → lane.state ≡ recv_states.TakeBlock → Has (recv_takes p taken)
  takes_belongs p None b e = b
  takes_belongs p (Some k) b e = go (front size_down k.down) where
    go : (o : Option (Message × Way Message)) → Has (recv_takes_by p k o)
    go (Some (Piece n, rest)) = e
    go (Some (Framed f, rest)) = b
    go None = nothing_belongs p k b (ap is_linked e)

  writes_belongs : (p : Pair) (f : Frame) (taken : Option Link) → Has p → receives_writing lane.state ≡ true → Has (recv_writes p f taken)
  writes_belongs p f None b e = b
  writes_belongs p f (Some k) b e = wrote_belongs (not (is_cut k.up) && not (send_left p.newest p.send)) lane past e

  accepts_belongs : (p : Pair) (n : ℕ) (between : List Link) (newest : Option Link) → Has p → lane.state ≡ recv_states.Listen → Has (recv_accepts_by p between newest)
  accepts_belongs p n (k ∷ ks) newest b e = e
  accepts_belongs p n [] (Some k) b e = e
  accepts_belongs p n [] None b e = if_has Has (send_stops p.send) (record p { recv = RecvHas recv_inputs.NoLink }) p e b

  tries_belongs : (p : Pair) (n : ℕ) → Has p → lane.state ≡ recv_states.Listen → Has (recv_accepts p n)
  tries_belongs p (suc n) b e = e
  tries_belongs p zero b e = accepts_belongs p zero p.between p.newest b e

  does_belong : (p : Pair) (act : RecvAct) → Has p → FitsLane lane past act → Has (recv_does p act)
  does_belong p recv_acts.Accept b e = tries_belongs p p.refusals b e
  does_belong p (recv_acts.Write f) b e = writes_belongs p f p.taken b (fits_writing lane past f e)
  does_belong p recv_acts.Read b e = reads_belongs p p.taken b e
  does_belong p (recv_acts.TakePiece n) b e = takes_belongs p p.taken b e.at
  does_belong p recv_acts.Park b e = b
  does_belong p recv_acts.Stop b e = b

-- ---- what a turn makes of it

goes_state : (t : PlainReceiver) (l : ℕ) (st : RecvState) → l < length (goes t l st).lanes → state_at (goes t l st) l ≡ st
goes_state t l st within = ap (λ (o : Option RecvLane). (lane_or_ended o).state) (get_set t.lanes l (record (lane_at t l) { state = st }) (subst (λ (n : ℕ). l < n) (length-set t.lanes l (record (lane_at t l) { state = st })) within))

module _ (w : PlainWorld) (l : ℕ) (c : Conversation w) (within : l < length w.pairs) (put : Put) (hands : Hands (pair_at w l).recv put) (belongs : RecvBelongsAt w l) (step : Step) (ends : EndsIn (Unit {0}) (turn_plan w.receiver (number l) put) step) where
  small : l < length w.receiver.lanes
  small = subst (λ (n : ℕ). l < n) (sym c.recv_lanes) within

  touches : Touches w.receiver (number l) step.1
  touches = turn_touches w.receiver (number l) put step ends

  lives : is_ended (state_at w.receiver l) ≡ false
  lives = hands_lives (pair_at w l).recv put (lane_at w.receiver l) (past_at w.receiver l) hands belongs

  -- a step that changed nothing is none of a lane that handed something in
  ended_not : (t : PlainReceiver) → length t.lanes ≡ length w.receiver.lanes → (goes t l recv_states.Ended) ≡ w.receiver → ⊥
  ended_not t many e =
      both_ways (is_ended (state_at w.receiver l)) lives
      (ap (λ (r : PlainReceiver). is_ended (state_at r l)) (sym e) ∙ ap is_ended (goes_state t l recv_states.Ended (subst (λ (n : ℕ). l < n) (sym (length-set t.lanes l (record (lane_at t l) { state = recv_states.Ended }) ∙ many)) small)))

  abbrev is_stop : RecvAct → Bool
  is_stop recv_acts.Stop = true
  is_stop _ = false

  abbrev Changes : Step → Type 0
  Changes x = x ≡ rests w.receiver → ⊥

  acts_on : (x : Step) → is_stop x.0 ≡ false → Changes x
  acts_on x quiet e = both_ways (is_stop x.0) quiet (ap (λ (y : Step). is_stop y.0) e)

  length_of : (t : PlainReceiver) (st : RecvState) (act : RecvAct) → step ≡ (act, goes t l st) → length t.lanes ≡ length w.receiver.lanes
  length_of t st act is = sym (length-set t.lanes l (record (lane_at t l) { state = st })) ∙ (ap (λ (x : Step). length x.1.lanes) (sym is) ∙ touches.lanes)

  leaves_on : (t : PlainReceiver) → step ≡ (recv_acts.Stop, goes t l recv_states.Ended) → Changes (recv_acts.Stop, goes t l recv_states.Ended)
  leaves_on t is e = ended_not t (length_of t recv_states.Ended recv_acts.Stop is) (ap (λ (x : Step). x.1) e)

  -- a lane that handed something in doesn't rest
  rested_not : outcomes.Rests w.receiver (number l) put → ⊥
  rested_not (WasOver here) = both_ways (is_ended (state_at w.receiver l)) lives (ap is_ended here)
  rested_not (WasStray sound stray) = both_ways (is_stray (row_at w.receiver (number l) put)) (no_stray w.receiver l (pair_at w l).recv put hands belongs) stray
  rested_not (WasSettled sound here given answer) = subst (λ (h : RecvHold). RecvBelongs h (lane_at w.receiver l) (past_at w.receiver l)) (holds_input (pair_at w l).recv put recv_inputs.Starved hands given refl) belongs
  rested_not (WasNoBlock bytes serves given none) = subst (λ (o : Option Block). HasLeft o (lane_at w.receiver l).left) none (recv_fares w l recv_states.TakeBlock c within serves.here).1

  changes : (o : Outcome) → ComesOf w.receiver (number l) put o → step ≡ came_to w.receiver (number l) o → Changes (came_to w.receiver (number l) o)
  changes Rested of is = absurd (rested_not of)
  changes Left of is = leaves_on w.receiver is
  changes Warned of is = acts_on _ refl
  changes (Failed t answer true) of is = leaves_on (failed t answer) is
  changes (Failed t answer false) of is = acts_on _ refl
  changes (GivenUp t) of is = leaves_on (noted t (given_up (number l) (has_finish t) ∷ [])) is
  changes (Listened t) of is = acts_on _ refl
  changes Linked of is = acts_on _ refl
  changes (Greeted s) of is = acts_on _ (either (has_finish w.receiver)) where
    either : (b : Bool) → is_stop (greets_by (meets w.receiver (number l) s) (number l) s b).0 ≡ false
    either true = refl
    either false = refl
  changes Listed of is = acts_on _ refl
  changes (ReadOn t) of is = acts_on _ refl
  changes (Sized files bytes) of is = acts_on _ refl
  changes (Begun t b) of is = acts_on _ (either b.length) where
    either : (n : ℕ) → is_stop (begins_by t (number l) b n).0 ≡ false
    either zero = refl
    either (suc n) = refl
  changes (Taken left) of is = acts_on _ refl
  changes (Concluded t) of is = acts_on _ refl
  changes (Told t q qs) of is = acts_on _ refl
  changes (Waited t true) of is = acts_on _ refl
  changes (Waited t false) of is = acts_on _ refl
  changes Ended of is = acts_on _ refl
  changes Acknowledged of is = leaves_on (noted w.receiver (recv_events.Acked (number l) ∷ [])) is

  pub own_belongs : FitsLane (lane_at step.1 l) (past_at step.1 l) step.0
  own_belongs = go (turn_acts w.receiver (number l) put step c.receiver.few small ends) where
    go : IsActOf w.receiver (number l) step → FitsLane (lane_at step.1 l) (past_at step.1 l) step.0
    go (inl e) = subst (λ (a : RecvAct). FitsLane (lane_at step.1 l) (past_at step.1 l) a) (sym e) (act_fits step.1 (number l))
    go (inr e) = let x = end_comes w.receiver (number l) put (Unit {0}) step ends in absurd (changes x.outcome x.of x.is (sym x.is ∙ e))

  -- the other lanes hold what they held, and stand as they did
  pub turn_belongs : ((k : ℕ) → k < length w.pairs → RecvBelongsAt w k) → (k : ℕ) → k < length (recv_turned w l step).pairs → RecvBelongsAt (recv_turned w l step) k
  turn_belongs all k below =
      each_pair (λ (i : ℕ) (p : Pair). RecvBelongs p.recv (lane_at step.1 i) (past_at step.1 i)) w.pairs l (recv_gets (pair_at w l) step.0) within own_belongs
      (λ i b ne.
      subst (λ (x : RecvLane). RecvBelongs (pair_at w i).recv x (past_at step.1 i)) (sym (touches.others i ne))
      (subst (λ (p : RecvPast). RecvBelongs (pair_at w i).recv (lane_at w.receiver i) p) (sym (ap (λ (g : List RecvEvent). past_of g i) touches.history.behind ∙ others_past w.receiver.history touches.history.entries l i touches.history.own ne)) (all i b))) k
      (subst (λ (n : ℕ). k < n) (length-set w.pairs l (recv_gets (pair_at w l) step.0)) below)

-- ---- a step

pub pair_belongs : (w : PlainWorld) (l : ℕ) (p : Pair) → l < length w.pairs → ((k : ℕ) → k < length w.pairs → RecvBelongsAt w k) → RecvBelongs p.recv (lane_at w.receiver l) (past_at w.receiver l) → (k : ℕ) → k < length (with_pair w l p).pairs → RecvBelongsAt (with_pair w l p) k
pair_belongs w l p within all own k below =
    each_pair (λ (i : ℕ) (q : Pair). RecvBelongs q.recv (lane_at w.receiver i) (past_at w.receiver i)) w.pairs l p within own (λ i b ne. all i b) k (subst (λ (n : ℕ). k < n) (length-set w.pairs l p) below)

-- what each receiver's lane of a world holds belongs to its state
abbrev pub AllBelong : PlainWorld → Type 0
AllBelong w = (k : ℕ) → k < length w.pairs → RecvBelongsAt w k

woken_belongs : (w : PlainWorld) (l : ℕ) (act : RecvAct) (r : PlainReceiver) → AllBelong w → AllBelong (recv_turned w l (act, r)) → AllBelong (recv_woken w l (act, r))
woken_belongs w l recv_acts.Park r c x = c
woken_belongs w l act r c x = x

pub recv_belongs : (w : PlainWorld) (l : ℕ) (broken : Option ℕ) → Conversation w → l < length w.pairs → AllBelong w → AllBelong (recv_steps w l broken)
recv_belongs w l broken c within all = go (pair_at w l).recv refl where
  has : (h : RecvHold) → (pair_at w l).recv ≡ h → RecvBelongs h (lane_at w.receiver l) (past_at w.receiver l)
  has h is = subst (λ (x : RecvHold). RecvBelongs x (lane_at w.receiver l) (past_at w.receiver l)) is (all l within)

  acts : (act : RecvAct) → (pair_at w l).recv ≡ RecvDoes act → AllBelong (with_pair w l (recv_does (pair_at w l) act))
  acts act is = pair_belongs w l (recv_does (pair_at w l) act) within all (does_belong (lane_at w.receiver l) (past_at w.receiver l) (pair_at w l) act (all l within) (has (RecvDoes act) is))

  turns : (put : Put) → Hands (pair_at w l).recv put → AllBelong (recv_turned w l (recv_turn w.receiver l put broken))
  turns put hands = turn_belongs w l c within put hands (all l within) (recv_turn w.receiver l put broken) (ends_in (turn_plan w.receiver (number l) put) broken) all

  go : (h : RecvHold) → (pair_at w l).recv ≡ h → AllBelong (recv_steps w l broken)
  go (RecvDoes recv_acts.Park) is =
      subst (λ (x : RecvHold). AllBelong (recv_steps_by w l broken x)) (sym is)
      (woken_belongs w l (recv_turn w.receiver l (Given recv_inputs.Woken) broken).0 (recv_turn w.receiver l (Given recv_inputs.Woken) broken).1 all
      (turns (Given recv_inputs.Woken) (subst (λ (x : RecvHold). Hands x (Given recv_inputs.Woken)) (sym is) refl)))
  go (RecvDoes recv_acts.Accept) is = subst (λ (x : RecvHold). AllBelong (recv_steps_by w l broken x)) (sym is) (acts recv_acts.Accept is)
  go (RecvDoes (recv_acts.Write f)) is = subst (λ (x : RecvHold). AllBelong (recv_steps_by w l broken x)) (sym is) (acts (recv_acts.Write f) is)
  go (RecvDoes recv_acts.Read) is = subst (λ (x : RecvHold). AllBelong (recv_steps_by w l broken x)) (sym is) (acts recv_acts.Read is)
  go (RecvDoes (recv_acts.TakePiece n)) is = subst (λ (x : RecvHold). AllBelong (recv_steps_by w l broken x)) (sym is) (acts (recv_acts.TakePiece n) is)
  go (RecvDoes recv_acts.Stop) is = subst (λ (x : RecvHold). AllBelong (recv_steps_by w l broken x)) (sym is) (acts recv_acts.Stop is)
  go (RecvHas input) is = subst (λ (x : RecvHold). AllBelong (recv_steps_by w l broken x)) (sym is) (turns (Given input) (subst (λ (x : RecvHold). Hands x (Given input)) (sym is) refl))
  go (RecvTook n) is = subst (λ (x : RecvHold). AllBelong (recv_steps_by w l broken x)) (sym is) (turns (Bytes (some_bytes n)) (subst (λ (x : RecvHold). Hands x (Bytes (some_bytes n))) (sym is) refl))
