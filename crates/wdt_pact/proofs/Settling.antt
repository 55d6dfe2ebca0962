-- The measure falls with each step that changes a sound world: so as many rounds as it says are enough, and then both ends have stopped.
use Rattle.std.proofs.Common.{◌≡◌, ◌≢◌, ◌⊎◌, inl, inr, ℕ, zero, suc, ◌+◌, ◌-◌, ◌*◌, ◌<◌, ◌≤◌, ◌||◌, not, Bool, true, false, List, [], ◌∷◌, ◌++◌, length, is_some, slice_get, slice_set, sum_by, Option, Some, None, IfSome, subst, sym, ap, ◌∙◌, refl, arith}
use Rattle.std.proofs.lemmas.Bool.{both_ways, cases_eq}
use Rattle.std.proofs.lemmas.List.{length-set}
use Rattle.std.specs.Option.{option_map}
use Rattle.wdt_units.specs.Have.{HaveFile}
use Rattle.wdt_units.specs.declared.blocks.Block.{Block}
use Rattle.wdt_units.specs.declared.numbers.Lane.{Lane}
use Rattle.wdt_codec.specs.declared.frames.Frame.{Frame}
use Rattle.wdt_logfmt.specs.View.{have_of}
use Rattle.wdt_rest.specs.RestOf.{rest_of}
use Rattle.wdt_tree.specs.declared.entry.Entry.{Entry}
use Rattle.wdt_sender_fsm.specs.declared.acts.SendAct.{SendAct}
use Rattle.wdt_sender_fsm.specs.declared.acts.SendAct.TheVariants as send_acts
use Rattle.wdt_sender_fsm.specs.declared.inputs.SendIn.{SendIn}
use Rattle.wdt_sender_fsm.specs.declared.inputs.SendIn.TheVariants as send_inputs
use Rattle.wdt_sender_fsm.specs.declared.states.SendLane.{SendLane}
use Rattle.wdt_sender_fsm.specs.declared.states.SendState.{SendState}
use Rattle.wdt_sender_fsm.specs.PlainSender.{HasPlaces, PlainSender, blocks_of, lane_at, listed_blocks, past_at, state_at}
use Rattle.wdt_sender_fsm.specs.Reasons.{Comes}
use Rattle.wdt_sender_fsm.specs.Sender.{plan_of}
use Rattle.wdt_sender_fsm.specs.Touches.{Touches}
use Rattle.wdt_sender_fsm.specs.Turn.{Step as SendStep, send_turn}
use Rattle.wdt_receiver_fsm.specs.declared.acts.RecvAct.{RecvAct}
use Rattle.wdt_receiver_fsm.specs.declared.acts.RecvAct.TheVariants as acts
use Rattle.wdt_receiver_fsm.specs.declared.inputs.RecvIn.{RecvIn}
use Rattle.wdt_receiver_fsm.specs.declared.inputs.RecvIn.TheVariants as inputs
use Rattle.wdt_receiver_fsm.specs.declared.states.RecvLane.{RecvLane}
use Rattle.wdt_receiver_fsm.specs.declared.states.RecvState.{RecvState}
use Rattle.wdt_receiver_fsm.specs.Phases.{FitsLane, phase_by}
use Rattle.wdt_receiver_fsm.specs.Plan.{EndsIn}
use Rattle.wdt_receiver_fsm.specs.PlainReceiver as recv
use Rattle.wdt_receiver_fsm.specs.PlainReceiver.{PlainReceiver, have_now}
use Rattle.wdt_receiver_fsm.specs.ReceiverHistory.{RecvPast}
use Rattle.wdt_receiver_fsm.specs.Touches.{Touches as RecvTouches}
use Rattle.wdt_receiver_fsm.specs.Turn.{Bytes, Given, Put, Step as RecvStep, turn_plan}
use Rattle.wdt_receiver_fsm.proofs.ForCallers.{end_comes, turn_touches}
use Rattle.wdt_pact.specs.Belongs.{RecvBelongs, SendBelongs}
use Rattle.wdt_pact.specs.Conversation.{receives, receiving, sending, sends}
use Rattle.wdt_pact.specs.Finishing.{Finishing}
use Rattle.wdt_pact.specs.Fitting.{IsSound, lane_of}
use Rattle.wdt_pact.specs.Links.{Link, cut_link}
use Rattle.wdt_pact.specs.Measure.{flight, flight_by, high, highs, lane_high, lane_low, low, low_at, lows, measure, queued_cost, recv_rank, send_rank, sum_to, wait_rank, weight}
use Rattle.wdt_pact.specs.Pairs.{Pair, RecvDoes, RecvHas, RecvHold, RecvTook, SendDoes, SendHas, SendHold, cuts_by, noted_below, noted_newest, noted_taken, recv_does, recv_gets, send_does, send_takes, top, top_by}
use Rattle.wdt_pact.specs.Progress.{GoesOn, HasStopped, is_parked, recv_moves, send_moves}
use Rattle.wdt_pact.specs.Stances.{AgreeOn, Agrees, Silent, Stance, recv_aborts, recv_stance, send_aborts, send_stance, send_there, stand}
use Rattle.wdt_pact.specs.World.{Cut, PlainWorld, Receives, Sends, WorldEvent, happens, number, pair_at, pair_or, recv_steps, recv_steps_by, recv_turn, recv_turned, recv_woken, round_of, round_to, rounds, send_steps, send_steps_by, send_turned, some_bytes, with_pair}
use Rattle.wdt_pact.proofs.Below.{get_set, set_other}
use Rattle.wdt_pact.proofs.Falls.{sum_change, sum_same}
use Rattle.wdt_pact.proofs.Flights.{cut_flight, pays_off, sinks}
use Rattle.wdt_pact.proofs.KnownFiles.{had}
use Rattle.wdt_pact.proofs.Limits.{sum_both}
use Rattle.wdt_pact.proofs.RecvActFalls as recv_acts
use Rattle.wdt_pact.proofs.RecvFalls as recv_falls
use Rattle.wdt_pact.proofs.RecvFalls.{recv_highs, recv_low}
use Rattle.wdt_pact.proofs.RecvHands.{Hands, same_input}
use Rattle.wdt_pact.proofs.RecvHighs.{recv_high}
use Rattle.wdt_pact.proofs.RecvRows.{ends_in}
use Rattle.wdt_pact.proofs.RecvWriting.{talks_in}
use Rattle.wdt_pact.proofs.SendActFalls as send_falls
use Rattle.wdt_pact.proofs.SendFalls as turns
use Rattle.wdt_pact.proofs.SendFalls.{queue, send_highs}
use Rattle.wdt_pact.proofs.SendHighs.{send_high}
use Rattle.wdt_pact.proofs.Still.{stands_not}
use Rattle.wdt_pact.proofs.Within.{ArePlaced}

-- ---- a list of which an item is set to itself

set_same : (ps : List Pair) (l : ℕ) → l < length ps → slice_set ps l (pair_or (slice_get ps l)) ≡ ps
set_same [] l small = absurd (omega (arith, small))
set_same (p ∷ ps) zero small = refl
set_same (p ∷ ps) (suc l) small = ap (λ (xs : List Pair). p ∷ xs) (set_same ps l (omega (arith, small)))

pair_same : (w : PlainWorld) (l : ℕ) (p : Pair) → l < length w.pairs → p ≡ pair_at w l → with_pair w l p ≡ w
pair_same w l p small is = ap (λ (q : Pair). with_pair w l q) is ∙ ap (λ (ps : List Pair). record w { pairs = ps }) (set_same w.pairs l small)

-- ---- worlds of which one lane stands otherwise

lane_high_is : (n : ℕ) (w : PlainWorld) (k : ℕ) → lane_high n (past_at w.sender k) (recv.past_at w.receiver k) ≡ send_high (past_at w.sender k) + recv_high n (recv.past_at w.receiver k)
lane_high_is n w k = omega arith

high_is : (n : ℕ) (w : PlainWorld) → highs n w ≡ send_highs n w.sender + recv_highs n w.receiver.history
high_is n w =
    omega (
      arith,
      sum_same n (λ k. send_high (past_at w.sender k) + recv_high n (recv.past_at w.receiver k)) (λ k. lane_high n (past_at w.sender k) (recv.past_at w.receiver k)) (λ k small. lane_high_is n w k),
      sum_both n (λ k. send_high (past_at w.sender k)) (λ k. recv_high n (recv.past_at w.receiver k)),
    )

-- less is left to do at lane l, or it is paid for
abbrev IsLess : PlainWorld → PlainWorld → ℕ → Type 0
IsLess v w l = ((high v ≤ high w) × (queue v.sender + low_at v l < queue w.sender + low_at w l)) ⊎ ((high v + 1 ≤ high w) × (queue v.sender + low_at v l < weight w + (queue w.sender + low_at w l)))

falls_by : (v w : PlainWorld) (l : ℕ) → l < length w.pairs → length v.pairs ≡ length w.pairs → weight v ≡ weight w → ((k : ℕ) → k < length w.pairs → k ≢ l → low_at v k ≡ low_at w k) → IsLess v w l → measure v < measure w
falls_by v w l small many heavy others less = go less where
  n : ℕ
  n = length w.pairs

  count : lows (length v.pairs) v ≡ lows (length w.pairs) v
  count = ap (λ (i : ℕ). lows i v) many

  change : lows (length w.pairs) v + low_at w l ≡ lows (length w.pairs) w + low_at v l
  change = sum_change (length w.pairs) l (low_at w) (low_at v) small others

  same : weight v * high v ≡ weight w * high v
  same = ap (λ (i : ℕ). i * high v) heavy

  go : IsLess v w l → measure v < measure w
  go (inl x) = let a = sinks (weight w) (high v) (high w) (low v) (low w) x.0 (let b = x.1 in omega (arith, b, count, change)) in omega (arith, a, same)
  go (inr x) = let a = pays_off (weight w) (high v) (high w) (low v) (low w) x.0 (let b = x.1 in omega (arith, b, count, change)) in omega (arith, a, same)

-- ---- an act

-- a lane that acts has less to do
act_falls : (w : PlainWorld) (l : ℕ) (p : Pair) → l < length w.pairs → lane_low (state_at w.sender l) (recv.state_at w.receiver l) p < lane_low (state_at w.sender l) (recv.state_at w.receiver l) (pair_at w l) → measure (with_pair w l p) < measure w
act_falls w l p small less =
    falls_by (with_pair w l p) w l small (length-set w.pairs l p) refl
    (λ k below ne. ap (λ (o : Option Pair). lane_low (state_at w.sender k) (recv.state_at w.receiver k) (pair_or o) + wait_rank (recv.lane_at w.receiver k)) (set_other w.pairs l k p ne))
    (let own : low_at (with_pair w l p) l ≡ lane_low (state_at w.sender l) (recv.state_at w.receiver l) p + wait_rank (recv.lane_at w.receiver l) =
    ap (λ (o : Option Pair). lane_low (state_at w.sender l) (recv.state_at w.receiver l) (pair_or o) + wait_rank (recv.lane_at w.receiver l)) (get_set w.pairs l p small) in
    let e : high (with_pair w l p) ≡ high w = ap (λ (i : ℕ). highs i w) (length-set w.pairs l p) in
    inl (omega (arith, e), omega (arith, own, less)))

-- one that has no more to do
act_most : (w : PlainWorld) (l : ℕ) (p : Pair) → l < length w.pairs → lane_low (state_at w.sender l) (recv.state_at w.receiver l) p ≤ lane_low (state_at w.sender l) (recv.state_at w.receiver l) (pair_at w l) → measure (with_pair w l p) ≤ measure w
act_most w l p small most =
    let own : low_at (with_pair w l p) l ≡ lane_low (state_at w.sender l) (recv.state_at w.receiver l) p + wait_rank (recv.lane_at w.receiver l) =
    ap (λ (o : Option Pair). lane_low (state_at w.sender l) (recv.state_at w.receiver l) (pair_or o) + wait_rank (recv.lane_at w.receiver l)) (get_set w.pairs l p small) in
    let e : high (with_pair w l p) ≡ high w = ap (λ (i : ℕ). highs i w) (length-set w.pairs l p) in
    let product : weight w * high (with_pair w l p) ≡ weight w * high w = ap (λ (i : ℕ). weight w * i) e in
    let count : lows (length (with_pair w l p).pairs) (with_pair w l p) ≡ lows (length w.pairs) (with_pair w l p) = ap (λ (i : ℕ). lows i (with_pair w l p)) (length-set w.pairs l p) in
    let change =
    sum_change (length w.pairs) l (low_at w) (low_at (with_pair w l p)) small
    (λ k below ne. ap (λ (o : Option Pair). lane_low (state_at w.sender k) (recv.state_at w.receiver k) (pair_or o) + wait_rank (recv.lane_at w.receiver k)) (set_other w.pairs l k p ne)) in
    omega (arith, own, product, count, change, most)

pub cut_most : (w : PlainWorld) (l down up : ℕ) → l < length w.pairs → measure (happens w (Cut l down up)) ≤ measure w
cut_most w l down up small = act_most w l (cuts_by (pair_at w l) down up (top (pair_at w l))) small (go (top_by (pair_at w l).newest (pair_at w l).taken) refl) where
  go : (o : Option Link) → top_by (pair_at w l).newest (pair_at w l).taken ≡ o → lane_low (state_at w.sender l) (recv.state_at w.receiver l) (cuts_by (pair_at w l) down up o) ≤ lane_low (state_at w.sender l) (recv.state_at w.receiver l) (pair_at w l)
  go None is = omega arith
  go (Some k) is =
      let a = cut_flight down up k in
      let b = send_falls.top_flights (pair_at w l).newest (pair_at w l).taken k (cut_link down up k) 0 is (omega (arith, a)) in
      omega (arith, b)

-- ---- a turn of the sender's lane

noted_flight : (input : SendIn) (b : Bool) (newest taken : Option Link) → flight_by (noted_taken input b newest taken) + flight_by (noted_newest input b newest) ≡ flight_by taken + flight_by newest
noted_flight (send_inputs.Got f) b None None = refl
noted_flight (send_inputs.Got f) b None (Some k) = refl
noted_flight (send_inputs.Got f) b (Some t) taken = refl
noted_flight input b newest taken = refl

-- the plan is no more than the weight
light : (v : PlainWorld) → IsSound v → Finishing v → sum_by queued_cost (blocks_of v.sender) + 100 ≤ weight v
light v s f = go v.sender.have refl where
  go : (o : Option (List HaveFile)) → v.sender.have ≡ o → sum_by queued_cost (blocks_of v.sender) + 100 ≤ weight v
  go None is =
      let e : sum_by queued_cost (blocks_of v.sender) ≡ 0 = ap (λ (x : Option (List Block)). sum_by queued_cost (listed_blocks x)) (s.talk.sender.plan.planned ∙ ap (plan_of v.sender.manifest v.sender.block) is) in
      omega (arith, e)
  go (Some have) is =
      let e : sum_by queued_cost (blocks_of v.sender) ≡ sum_by queued_cost (rest_of v.sender.manifest have v.sender.block) =
      ap (λ (x : Option (List Block)). sum_by queued_cost (listed_blocks x)) (s.talk.sender.plan.planned ∙ ap (plan_of v.sender.manifest v.sender.block) is) in
      let d : sum_by queued_cost (rest_of v.sender.manifest have v.sender.block) ≡ sum_by queued_cost (rest_of v.sender.manifest (have_now v.receiver.opening v.receiver.history) v.sender.block) =
      ap (λ (files : List HaveFile). sum_by queued_cost (rest_of v.sender.manifest files v.sender.block)) (f.list have is) in
      omega (arith, e, d)

module _ (comes : (s : PlainSender) (k : Lane) (i : SendIn) → Comes s k i (send_turn s k i)) (touches : (s : PlainSender) (k : Lane) (i : SendIn) → Touches s k i (send_turn s k i).1) (places : ArePlaced) where
  -- ---- a step of the sender's lane

  module _ (w : PlainWorld) (l : ℕ) (input : SendIn) (s : IsSound w) (f : Finishing w) (within : l < length w.pairs) (holds : (pair_at w l).send ≡ SendHas input) where
    abbrev step : SendStep
    step = send_turn w.sender (number l) input

    abbrev v : PlainWorld
    v = send_turned w l input (send_turn w.sender (number l) input)

    abbrev p : Pair
    p = send_takes (pair_at w l) input (past_at (send_turn w.sender (number l) input).1 l).is_greeted (send_turn w.sender (number l) input).0

    heavy : weight v ≡ weight w
    heavy =
        ap (λ (xs : List Entry). 100 + sum_by queued_cost (rest_of xs (have_now w.receiver.opening w.receiver.history) v.sender.block)) (touches w.sender (number l) input).manifest
        ∙ ap (λ (i : ℕ). 100 + sum_by queued_cost (rest_of w.sender.manifest (have_now w.receiver.opening w.receiver.history) i)) (touches w.sender (number l) input).block

    has : HasPlaces w.sender
    has = places w.sender s.talk.sender s.fits.sender.block.0

    lighter : IsSound v → Finishing v → turns.Lighter comes w l input s f within holds (subst (λ (h : SendHold). SendBelongs h (lane_at w.sender l)) holds (s.belongs.send l within)) has (send_turn w.sender (number l) input)
    lighter sv fv =
        let b = subst (λ (h : SendHold). SendBelongs h (lane_at w.sender l)) holds (s.belongs.send l within) in
        let x = comes w.sender (number l) input in
        let good : turns.Planned-well comes w l input s f within holds b has (send_turn w.sender (number l) input).1 =
        record { has = places v.sender sv.talk.sender sv.fits.sender.block.0; light = (let a = light v sv fv in omega (arith, a, heavy)) } in
        subst (turns.Lighter comes w l input s f within holds b has) (sym x.is)
        (turns.outcome_lighter comes w l input s f within holds b has x.outcome x.of (subst (λ (y : SendStep). turns.Planned-well comes w l input s f within holds b has y.1) x.is good))

    -- how much the lane has to do behind it
    own : low_at v l + send_rank (state_at w.sender l) (SendHas input) ≡ low_at w l + send_rank (state_at v.sender l) (SendDoes (send_turn w.sender (number l) input).0)
    own =
        let a : low_at v l ≡ lane_low (state_at v.sender l) (recv.state_at w.receiver l) p + wait_rank (recv.lane_at w.receiver l) =
        ap (λ (o : Option Pair). lane_low (state_at v.sender l) (recv.state_at w.receiver l) (pair_or o) + wait_rank (recv.lane_at w.receiver l)) (get_set w.pairs l p within) in
        let b : send_rank (state_at w.sender l) (pair_at w l).send ≡ send_rank (state_at w.sender l) (SendHas input) = ap (send_rank (state_at w.sender l)) holds in
        let c = noted_flight input (past_at (send_turn w.sender (number l) input).1 l).is_greeted (pair_at w l).newest (pair_at w l).taken in
        omega (arith, a, b, c)

    many : length v.pairs ≡ length w.pairs
    many = length-set w.pairs l p

    turn_falls : IsSound v → Finishing v → measure v < measure w
    turn_falls sv fv =
        falls_by v w l within many heavy
        (λ k below ne. ap (λ (o : Option Pair). lane_low (state_at v.sender k) (recv.state_at w.receiver k) (pair_or o) + wait_rank (recv.lane_at w.receiver k)) (set_other w.pairs l k p ne)
        ∙ ap (λ (x : SendLane). lane_low x.state (recv.state_at w.receiver k) (pair_at w k) + wait_rank (recv.lane_at w.receiver k)) ((touches w.sender (number l) input).others k ne))
        (go (lighter sv fv)) where
          high_v : high v ≡ send_highs (length w.sender.lanes) v.sender + recv_highs (length w.sender.lanes) w.receiver.history
          high_v = ap (λ (i : ℕ). highs i v) (many ∙ sym s.talk.send_lanes) ∙ high_is (length w.sender.lanes) v

          high_w : high w ≡ send_highs (length w.sender.lanes) w.sender + recv_highs (length w.sender.lanes) w.receiver.history
          high_w = ap (λ (i : ℕ). highs i w) (sym s.talk.send_lanes) ∙ high_is (length w.sender.lanes) w

          go : turns.Lighter comes w l input s f within holds (subst (λ (h : SendHold). SendBelongs h (lane_at w.sender l)) holds (s.belongs.send l within)) has (send_turn w.sender (number l) input) → IsLess v w l
          go (inl x) = let a = x.0 in let b = x.1 in inl (omega (arith, a, high_v, high_w), omega (arith, b, own))
          go (inr x) = let a = x.0 in let b = x.1 in inr (omega (arith, a, high_v, high_w), omega (arith, b, own))

  -- it leaves less to do, or the lane can't move, and nothing changes
  pub send_step : (w : PlainWorld) (l : ℕ) (lost : Option ℕ) → IsSound w → Finishing w → l < length w.pairs → IsSound (send_steps w l lost) → Finishing (send_steps w l lost)
      → (measure (send_steps w l lost) < measure w) ⊎ ((send_moves (pair_at w l) ≡ false) × (send_steps w l lost ≡ w))
  send_step w l lost s f within = go (pair_at w l).send refl where
    Stepped : PlainWorld → Type 0
    Stepped x = IsSound x → Finishing x → (measure x < measure w) ⊎ ((send_moves (pair_at w l) ≡ false) × (x ≡ w))

    q : SendHold → Pair
    q h = record (pair_at w l) { send = h }

    acts_on : (act : SendAct) → (pair_at w l).send ≡ SendDoes act → (b : Bool) → send_moves (q (SendDoes act)) ≡ b → Stepped (with_pair w l (send_does (pair_at w l) lost act))
    acts_on act is true moves sv fv =
        inl (act_falls w l (send_does (pair_at w l) lost act) within
        (subst (λ (h : SendHold). lane_low (state_at w.sender l) (recv.state_at w.receiver l) (send_does (q h) lost act) < lane_low (state_at w.sender l) (recv.state_at w.receiver l) (q h)) (sym is)
        (send_falls.act_less (lane_at w.sender l) (past_at w.sender l).is_acked (receives (receiving w.receiver l) (pair_at w l)) (recv.state_at w.receiver l) act (pair_at w l).recv (pair_at w l).taken (pair_at w l).between (pair_at w l).newest (pair_at w l).denies (pair_at w l).refusals lost
        (subst (λ (h : SendHold). SendBelongs h (lane_at w.sender l)) is (s.belongs.send l within))
        (subst (λ (h : SendHold). Agrees (send_stance (lane_at w.sender l) (past_at w.sender l).is_acked h) (receives (receiving w.receiver l) (pair_at w l)) (pair_at w l).taken (pair_at w l).between (pair_at w l).newest) is (s.talk.lanes l within).agrees) moves)))
    acts_on act is false moves sv fv =
        inr (
          ap (λ (h : SendHold). send_moves (q h)) is ∙ moves,
          pair_same w l (send_does (pair_at w l) lost act) within
              (subst (λ (h : SendHold). send_does (q h) lost act ≡ q h) (sym is)
              (send_falls.act_still (state_at w.sender l) (recv.state_at w.receiver l) act (pair_at w l).recv (pair_at w l).taken (pair_at w l).between (pair_at w l).newest (pair_at w l).denies (pair_at w l).refusals lost moves)),
        )

    go : (h : SendHold) → (pair_at w l).send ≡ h → Stepped (send_steps w l lost)
    go (SendDoes act) is = subst (λ (x : SendHold). Stepped (send_steps_by w l lost x)) (sym is) (acts_on act is (send_moves (q (SendDoes act))) refl)
    go (SendHas input) is = subst (λ (x : SendHold). Stepped (send_steps_by w l lost x)) (sym is) (λ sv fv. inl (turn_falls w l input s f within is sv fv))

-- ---- a turn of the receiver's lane

module _ (w : PlainWorld) (l : ℕ) (s : IsSound w) (within : l < length w.pairs) (put : Put) (hands : Hands (pair_at w l).recv put) (broken : Option ℕ) where
  abbrev turn : RecvStep
  turn = recv_turn w.receiver l put broken

  abbrev u : PlainWorld
  u = recv_turned w l (recv_turn w.receiver l put broken)

  abbrev q : Pair
  q = recv_gets (pair_at w l) (recv_turn w.receiver l put broken).0

  ends : EndsIn (Unit {0}) (turn_plan w.receiver (number l) put) (recv_turn w.receiver l put broken)
  ends = ends_in (turn_plan w.receiver (number l) put) broken

  touch : RecvTouches w.receiver (number l) (recv_turn w.receiver l put broken).1
  touch = turn_touches w.receiver (number l) put (recv_turn w.receiver l put broken) ends

  recv_lighter : recv_falls.Lighter w l s within put hands (recv_turn w.receiver l put broken)
  recv_lighter =
      let x = end_comes w.receiver (number l) put (Unit {0}) (recv_turn w.receiver l put broken) ends in
      subst (recv_falls.Lighter w l s within put hands) (sym x.is) (recv_falls.outcome_lighter w l s within put hands x.outcome x.of)

  recv_heavy : weight u ≡ weight w
  recv_heavy =
      ap (λ (files : List HaveFile). 100 + sum_by queued_cost (rest_of w.sender.manifest files w.sender.block))
      (had u.receiver.opening u.receiver.history ∙ (ap have_of touch.opening ∙ sym (had w.receiver.opening w.receiver.history)))

  recv_own : low_at u l + recv_low (recv.lane_at w.receiver l) (pair_at w l).recv ≡ low_at w l + recv_low (recv.lane_at u.receiver l) (RecvDoes (recv_turn w.receiver l put broken).0)
  recv_own =
      let a : low_at u l ≡ lane_low (state_at w.sender l) (recv.state_at u.receiver l) q + wait_rank (recv.lane_at u.receiver l) =
      ap (λ (o : Option Pair). lane_low (state_at w.sender l) (recv.state_at u.receiver l) (pair_or o) + wait_rank (recv.lane_at u.receiver l)) (get_set w.pairs l q within) in
      omega (arith, a)

  recv_turn_falls : (measure u < measure w) ⊎ (((recv_turn w.receiver l put broken).0 ≡ acts.Park) × (put ≡ Given inputs.Woken))
  recv_turn_falls = go recv_lighter where
    high_u : high u ≡ send_highs (length w.receiver.lanes) w.sender + recv_highs (length w.receiver.lanes) u.receiver.history
    high_u = ap (λ (i : ℕ). highs i u) (length-set w.pairs l q ∙ sym s.talk.recv_lanes) ∙ high_is (length w.receiver.lanes) u

    high_w : high w ≡ send_highs (length w.receiver.lanes) w.sender + recv_highs (length w.receiver.lanes) w.receiver.history
    high_w = ap (λ (i : ℕ). highs i w) (sym s.talk.recv_lanes) ∙ high_is (length w.receiver.lanes) w

    less : IsLess u w l → measure u < measure w
    less x =
        falls_by u w l within (length-set w.pairs l q) recv_heavy
        (λ k below ne. ap (λ (o : Option Pair). lane_low (state_at w.sender k) (recv.state_at u.receiver k) (pair_or o) + wait_rank (recv.lane_at u.receiver k)) (set_other w.pairs l k q ne)
        ∙ ap (λ (x : RecvLane). lane_low (state_at w.sender k) x.state (pair_at w k) + wait_rank x) (touch.others k ne)) x

    go : recv_falls.Lighter w l s within put hands (recv_turn w.receiver l put broken) → (measure u < measure w) ⊎ (((recv_turn w.receiver l put broken).0 ≡ acts.Park) × (put ≡ Given inputs.Woken))
    go (inl x) = let a = x.0 in let b = x.1 in inl (less (inl (omega (arith, a, high_u, high_w), omega (arith, b, recv_own))))
    go (inr (inl x)) = let a = x.0 in let b = x.1 in inl (less (inr (omega (arith, a, high_u, high_w), omega (arith, b, recv_own))))
    go (inr (inr x)) = inr x

-- a write of the receiver's isn't silence
frame_says : (lane : RecvLane) (past : RecvPast) (f : Frame) → FitsLane lane past (acts.Write f) → stand (recv_aborts lane.state) (phase_by lane past.is_idle past.is_acked lane.state) ≡ Silent → ⊥
frame_says lane past f (inl a) silent = let e = ap (λ (x : RecvState). stand (recv_aborts x) (phase_by lane past.is_idle past.is_acked x)) (sym a.1) ∙ silent in cc
frame_says lane past f (inr b) silent = let e = sym (talks_in lane past.is_idle past.is_acked b.from b.to lane.state b.before b.after) ∙ silent in cc

-- it leaves less to do; or the lane can't move, or waits on once woken, and nothing changes
pub recv_step : (w : PlainWorld) (l : ℕ) (broken : Option ℕ) → IsSound w → l < length w.pairs
    → (measure (recv_steps w l broken) < measure w)
    ⊎ ((recv_moves (pair_at w l) ≡ false) × (is_parked (pair_at w l).recv ≡ true → is_parked (RecvDoes (recv_turn w.receiver l (Given inputs.Woken) broken).0) ≡ true) × (recv_steps w l broken ≡ w))
recv_step w l broken s within = go (pair_at w l).recv refl where
  Stepped : PlainWorld → Type 0
  Stepped x = (measure x < measure w) ⊎ ((recv_moves (pair_at w l) ≡ false) × (is_parked (pair_at w l).recv ≡ true → is_parked (RecvDoes (recv_turn w.receiver l (Given inputs.Woken) broken).0) ≡ true) × (x ≡ w))

  by : (h : RecvHold) → (pair_at w l).recv ≡ h → Stepped (recv_steps_by w l broken h) → Stepped (recv_steps w l broken)
  by h is x = subst (λ (y : RecvHold). Stepped (recv_steps_by w l broken y)) (sym is) x

  handed : (h : RecvHold) (put : Put) → (pair_at w l).recv ≡ h → Hands h put → Hands (pair_at w l).recv put
  handed h put is hands = subst (λ (y : RecvHold). Hands y put) (sym is) hands

  q : RecvHold → Pair
  q h = record (pair_at w l) { recv = h }

  acts_on : (act : RecvAct) → (pair_at w l).recv ≡ RecvDoes act → is_parked (RecvDoes act) ≡ false → (b : Bool) → recv_moves (q (RecvDoes act)) ≡ b → Stepped (with_pair w l (recv_does (pair_at w l) act))
  acts_on act is none true moves =
      inl (act_falls w l (recv_does (pair_at w l) act) within
      (subst (λ (h : RecvHold). lane_low (state_at w.sender l) (recv.state_at w.receiver l) (recv_does (q h) act) < lane_low (state_at w.sender l) (recv.state_at w.receiver l) (q h)) (sym is)
      (recv_acts.act_less (recv.lane_at w.receiver l) (recv.past_at w.receiver l) (send_there (pair_at w l).newest (sends (sending w.sender l) (pair_at w l))) (state_at w.sender l) act (pair_at w l).send (pair_at w l).taken (pair_at w l).between (pair_at w l).newest (pair_at w l).denies (pair_at w l).refusals fits
      (subst (λ (h : RecvHold). AgreeOn (send_there (pair_at w l).newest (sends (sending w.sender l) (pair_at w l))) (recv_stance (recv.lane_at w.receiver l) (recv.past_at w.receiver l).is_idle (recv.past_at w.receiver l).is_acked h) (pair_at w l).taken) is (s.talk.lanes l within).agrees.on_taken)
      (λ f same. frame_says (recv.lane_at w.receiver l) (recv.past_at w.receiver l) f (subst (FitsLane (recv.lane_at w.receiver l) (recv.past_at w.receiver l)) same fits)) moves))) where
        fits : FitsLane (recv.lane_at w.receiver l) (recv.past_at w.receiver l) act
        fits = subst (λ (h : RecvHold). RecvBelongs h (recv.lane_at w.receiver l) (recv.past_at w.receiver l)) is (s.belongs.recv l within)
  acts_on act is none false moves =
      inr (
        ap (λ (h : RecvHold). recv_moves (q h)) is ∙ moves,
        (λ parks. absurd (both_ways (is_parked (pair_at w l).recv) (ap is_parked is ∙ none) parks)),
        pair_same w l (recv_does (pair_at w l) act) within
            (subst (λ (h : RecvHold). recv_does (q h) act ≡ q h) (sym is)
            (recv_acts.act_still (state_at w.sender l) (recv.state_at w.receiver l) act (pair_at w l).send (pair_at w l).taken (pair_at w l).between (pair_at w l).newest (pair_at w l).denies (pair_at w l).refusals moves)),
      )

  acts_all : (act : RecvAct) → (pair_at w l).recv ≡ RecvDoes act → is_parked (RecvDoes act) ≡ false → Stepped (with_pair w l (recv_does (pair_at w l) act))
  acts_all act is none = acts_on act is none (recv_moves (q (RecvDoes act))) refl

  -- what a lane hands in that doesn't wait
  turns_on : (h : RecvHold) (put : Put) → (pair_at w l).recv ≡ h → Hands h put → (put ≡ Given inputs.Woken → ⊥) → Stepped (recv_turned w l (recv_turn w.receiver l put broken))
  turns_on h put is hands none = elim (recv_turn_falls w l s within put (handed h put is hands) broken) [ inl x ↦ inl x | inr x ↦ absurd (none x.1) ]

  woken : (act : RecvAct) (r : PlainReceiver) → (recv_turn w.receiver l (Given inputs.Woken) broken) ≡ (act, r) → (pair_at w l).recv ≡ RecvDoes acts.Park
      → (measure (recv_turned w l (act, r)) < measure w) ⊎ ((act ≡ acts.Park) × (Given inputs.Woken ≡ Given inputs.Woken)) → Stepped (recv_woken w l (act, r))
  woken acts.Park r is holds x =
      inr (ap (λ (h : RecvHold). recv_moves (q h)) holds, (λ parks. ap (λ (y : RecvStep). is_parked (RecvDoes y.0)) is), refl)
  woken acts.Accept r is holds (inl x) = inl x
  woken acts.Accept r is holds (inr x) = let e = x.0 in cc
  woken (acts.Write f) r is holds (inl x) = inl x
  woken (acts.Write f) r is holds (inr x) = let e = x.0 in cc
  woken acts.Read r is holds (inl x) = inl x
  woken acts.Read r is holds (inr x) = let e = x.0 in cc
  woken (acts.TakePiece n) r is holds (inl x) = inl x
  woken (acts.TakePiece n) r is holds (inr x) = let e = x.0 in cc
  woken acts.Stop r is holds (inl x) = inl x
  woken acts.Stop r is holds (inr x) = let e = x.0 in cc

  go : (h : RecvHold) → (pair_at w l).recv ≡ h → Stepped (recv_steps w l broken)
  go (RecvDoes acts.Park) is =
      by (RecvDoes acts.Park) is
      (woken (recv_turn w.receiver l (Given inputs.Woken) broken).0 (recv_turn w.receiver l (Given inputs.Woken) broken).1 refl is (recv_turn_falls w l s within (Given inputs.Woken) (handed (RecvDoes acts.Park) (Given inputs.Woken) is refl) broken))
  go (RecvDoes acts.Accept) is = by (RecvDoes acts.Accept) is (acts_all acts.Accept is refl)
  go (RecvDoes (acts.Write f)) is = by (RecvDoes (acts.Write f)) is (acts_all (acts.Write f) is refl)
  go (RecvDoes acts.Read) is = by (RecvDoes acts.Read) is (acts_all acts.Read is refl)
  go (RecvDoes (acts.TakePiece n)) is = by (RecvDoes (acts.TakePiece n)) is (acts_all (acts.TakePiece n) is refl)
  go (RecvDoes acts.Stop) is = by (RecvDoes acts.Stop) is (acts_all acts.Stop is refl)
  go (RecvHas input) is =
      by (RecvHas input) is
      (turns_on (RecvHas input) (Given input) is refl
      (λ e. subst (λ (i : RecvIn). RecvBelongs (RecvHas i) (recv.lane_at w.receiver l) (recv.past_at w.receiver l)) (same_input input inputs.Woken e)
      (subst (λ (h : RecvHold). RecvBelongs h (recv.lane_at w.receiver l) (recv.past_at w.receiver l)) is (s.belongs.recv l within))))
  go (RecvTook n) is = by (RecvTook n) is (turns_on (RecvTook n) (Bytes (some_bytes n)) is refl (λ e. cc))

-- ---- a round

module _ (comes : (s : PlainSender) (k : Lane) (i : SendIn) → Comes s k i (send_turn s k i)) (touches : (s : PlainSender) (k : Lane) (i : SendIn) → Touches s k i (send_turn s k i).1) (places : ArePlaced)
    (keeps : (w : PlainWorld) (e : WorldEvent) → IsSound w → Finishing w → lane_of e < length w.pairs → IsSound (happens w e))
    (goes : (w : PlainWorld) (e : WorldEvent) → IsSound w → Finishing w → lane_of e < length w.pairs → Finishing (happens w e))
    (many : (w : PlainWorld) (e : WorldEvent) → length (happens w e).pairs ≡ length w.pairs) where
  -- a world of a round
  record Round (w v : PlainWorld) (n : ℕ) : Type 0 where
    sound : IsSound v
    finishing : Finishing v
    lanes : length v.pairs ≡ length w.pairs
    falls : (measure v < measure w) ⊎ ((v ≡ w) × ((l : ℕ) → l < n → GoesOn w l → ⊥))

  -- a lane that neither end of which changes anything doesn't go on
  at_rest : (w : PlainWorld) (l : ℕ) → send_moves (pair_at w l) ≡ false → recv_moves (pair_at w l) ≡ false
      → (is_parked (pair_at w l).recv ≡ true → is_parked (RecvDoes (recv_turn w.receiver l (Given inputs.Woken) None).0) ≡ true) → GoesOn w l → ⊥
  at_rest w l sends receives waits (inl x) = both_ways (send_moves (pair_at w l)) sends x
  at_rest w l sends receives waits (inr (inl x)) = both_ways (recv_moves (pair_at w l)) receives x
  at_rest w l sends receives waits (inr (inr x)) = both_ways (is_parked (RecvDoes (recv_turn w.receiver l (Given inputs.Woken) None).0)) (x.1 None) (waits x.0)

  -- a step of one lane of both ends
  next : (w v : PlainWorld) (l : ℕ) → l < length w.pairs → Round w v l → Round w (send_steps (recv_steps v l None) l None) (suc l)
  next w v l small x = record { sound = sound_t; finishing = fine_t; lanes = many u (Sends l None) ∙ (many v (Receives l None) ∙ x.lanes); falls = go x.falls } where
    u : PlainWorld
    u = recv_steps v l None

    t : PlainWorld
    t = send_steps u l None

    in_v : l < length v.pairs
    in_v = subst (λ (n : ℕ). l < n) (sym x.lanes) small

    sound_u : IsSound u
    sound_u = keeps v (Receives l None) x.sound x.finishing in_v

    fine_u : Finishing u
    fine_u = goes v (Receives l None) x.sound x.finishing in_v

    in_u : l < length u.pairs
    in_u = subst (λ (n : ℕ). l < n) (sym (many v (Receives l None))) in_v

    sound_t : IsSound t
    sound_t = keeps u (Sends l None) sound_u fine_u in_u

    fine_t : Finishing t
    fine_t = goes u (Sends l None) sound_u fine_u in_u

    down : measure t ≤ measure u
    down = elim (send_step comes touches places u l None sound_u fine_u in_u sound_t fine_t) [ inl y ↦ omega (arith, y) | inr y ↦ (let e = ap measure y.1 in omega (arith, e)) ]

    down_u : measure u ≤ measure v
    down_u = elim (recv_step v l None x.sound in_v) [ inl y ↦ omega (arith, y) | inr y ↦ (let e = ap measure y.2 in omega (arith, e)) ]

    go : (measure v < measure w) ⊎ ((v ≡ w) × ((k : ℕ) → k < l → GoesOn w k → ⊥)) → (measure t < measure w) ⊎ ((t ≡ w) × ((k : ℕ) → k < suc l → GoesOn w k → ⊥))
    go (inl less) = inl (omega (arith, down, down_u, less))
    go (inr rest) = elim (recv_step v l None x.sound in_v) [
      | inl y ↦ (let e = ap measure rest.0 in inl (omega (arith, down, y, e)))
      | inr y ↦ elim (send_step comes touches places u l None sound_u fine_u in_u sound_t fine_t) [
        | inl z ↦ (let e = ap measure y.2 in let d = ap measure rest.0 in inl (omega (arith, z, e, d)))
        | inr z ↦ inr (z.1 ∙ (y.2 ∙ rest.0), still y z)
      ]
    ] where
      still : (recv_moves (pair_at v l) ≡ false) × (is_parked (pair_at v l).recv ≡ true → is_parked (RecvDoes (recv_turn v.receiver l (Given inputs.Woken) None).0) ≡ true) × (u ≡ v) → (send_moves (pair_at u l) ≡ false) × (t ≡ u)
          → (k : ℕ) → k < suc l → GoesOn w k → ⊥
      still y z k less on = elim (last k less) [
        | inr before ↦ rest.1 k before on
        | inl same ↦
            at_rest v l (ap (λ (a : PlainWorld). send_moves (pair_at a l)) (sym y.2) ∙ z.0) y.0 y.1 (subst (λ (a : PlainWorld). GoesOn a l) (sym rest.0) (subst (GoesOn w) same on))
      ] where
        last : (k : ℕ) → k < suc l → (k ≡ l) ⊎ (k < l)
        last k less = elim (cases_eq k l) [ inl e ↦ inl e | inr ne ↦ inr (omega (arith, less, ne)) ]

  round_at : (n : ℕ) (w : PlainWorld) → n ≤ length w.pairs → IsSound w → Finishing w → Round w (round_to n w) n
  round_at zero w few s f = record { sound = s; finishing = f; lanes = refl; falls = inr (refl, λ l small. absurd (omega (arith, small))) }
  round_at (suc l) w few s f = next w (round_to l w) l (omega (arith, few)) (round_at l w (omega (arith, few)) s f)

  whole : (w : PlainWorld) → IsSound w → Finishing w → Round w (round_of w) (length w.pairs)
  whole w s f = round_at (length w.pairs) w (omega arith) s f

  -- where nothing changes, so it stays
  rests_on : (n : ℕ) (w : PlainWorld) → round_of w ≡ w → rounds n w ≡ w
  rests_on zero w is = refl
  rests_on (suc n) w is = ap (rounds n) is ∙ rests_on n w is

  settles : (n : ℕ) (w : PlainWorld) → measure w ≤ n → IsSound w → Finishing w → round_of (rounds n w) ≡ rounds n w
  settles zero w few s f = elim (whole w s f).falls [ inl y ↦ absurd (omega (arith, y, few)) | inr y ↦ y.0 ]
  settles (suc n) w few s f = elim (whole w s f).falls [
    | inl y ↦ settles n (round_of w) (omega (arith, y, few)) (whole w s f).sound (whole w s f).finishing
    | inr y ↦ ap round_of (rests_on (suc n) w y.0) ∙ (y.0 ∙ sym (rests_on (suc n) w y.0))
  ]

  -- as many rounds as the measure says are enough
  pub settled : (w : PlainWorld) → IsSound w → Finishing w → round_of (rounds (measure w) w) ≡ rounds (measure w) w
  settled w s f = settles (measure w) w (omega arith) s f

  -- where a round changes nothing, both ends of each lane have stopped
  pub ended : (w : PlainWorld) → IsSound w → Finishing w → round_of w ≡ w → (l : ℕ) → l < length w.pairs → HasStopped w l
  ended w s f same = elim (stands_not w s) [
    | inr all ↦ all
    | inl x ↦ (λ l small. absurd (elim (whole w s f).falls [ inl less ↦ (let e = ap measure same in omega (arith, less, e)) | inr y ↦ y.1 x.0 x.1 x.2 ]))
  ]

  -- each world on the way is sound
  pub on_the_way : (n : ℕ) (w : PlainWorld) → IsSound w → Finishing w → IsSound (rounds n w) × Finishing (rounds n w) × (length (rounds n w).pairs ≡ length w.pairs)
  on_the_way zero w s f = (s, f, refl)
  on_the_way (suc n) w s f = let x = whole w s f in let y = on_the_way n (round_of w) x.sound x.finishing in (y.0, y.1, y.2 ∙ x.lanes)
