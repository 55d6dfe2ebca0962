-- A turn of the sender's lane leaves less to do, or uses up something that pays for what it gives back.
use Rattle.std.proofs.Common.{◌≡◌, ◌≢◌, ◌⊎◌, inl, inr, ℕ, zero, suc, ◌+◌, ◌-◌, ◌*◌, ◌<◌, ◌≤◌, ◌==◌, ◌||◌, ◌&&◌, not, Bool, true, false, if◌then◌else◌, List, [], ◌∷◌, ◌++◌, length, is_some, slice_get, sum_by, Option, Some, None, subst, sym, ap, ◌∙◌, refl, arith, append-nil, eq-eqb}
use Rattle.std.specs.List.{list_any}
use Rattle.std.proofs.lemmas.Bool.{and_parts, both_ways, ne_eqb}
use Rattle.std.proofs.lemmas.List.{length-set}
use Rattle.std.proofs.lemmas.List.Sums.{sum_by-append, sum_by-cons}
use Rattle.wdt_units.specs.Have.{HaveFile}
use Rattle.wdt_units.specs.declared.blocks.Block.{Block}
use Rattle.wdt_units.specs.declared.limits.TheConstants.{MAX_CONNECTIONS}
use Rattle.wdt_units.specs.declared.numbers.Lane.{Lane}
use Rattle.wdt_claims.specs.LaneWords.{Claims}
use Rattle.wdt_codec.specs.declared.frames.Frame.TheVariants as frames
use Rattle.wdt_codec.specs.declared.frames.Mark.{Mark}
use Rattle.wdt_rest.specs.RestOf.{rest_of}
use Rattle.wdt_sender_fsm.specs.declared.acts.SendAct.{SendAct}
use Rattle.wdt_sender_fsm.specs.declared.acts.SendAct.TheVariants as acts
use Rattle.wdt_sender_fsm.specs.declared.answers.EndAnswer.{EndAnswer}
use Rattle.wdt_sender_fsm.specs.declared.answers.EndAnswer.TheVariants as answers
use Rattle.wdt_sender_fsm.specs.declared.events.SendEvent.{SendEvent}
use Rattle.wdt_sender_fsm.specs.declared.events.SendEvent.TheVariants as events
use Rattle.wdt_sender_fsm.specs.declared.inputs.SendIn.{SendIn}
use Rattle.wdt_sender_fsm.specs.declared.inputs.SendIn.TheVariants as inputs
use Rattle.wdt_sender_fsm.specs.declared.states.SendLane.{SendLane}
use Rattle.wdt_sender_fsm.specs.declared.states.SendState.{SendState}
use Rattle.wdt_sender_fsm.specs.declared.states.SendState.TheVariants as states
use Rattle.wdt_sender_fsm.specs.Outcomes.{Outcome, Rested, Waited, Left, Warned, Failed, GivenUp, Redialed, Introduced, Presented, Greeted, Listed, Planned, Claimed, Emptied, Concluded, Finished, Acknowledged, came_to}
use Rattle.wdt_sender_fsm.specs.Phases.{pieces_in}
use Rattle.wdt_sender_fsm.specs.Places.{queued}
use Rattle.wdt_sender_fsm.specs.PlainSender.{HasPlaces, PlainSender, blocks_of, failed, goes, header_of, is_ended, lane_at, least_queued, listed_blocks, noted, past_at, settings_of, size_of_tree, state_at, waiting_blocks, with_lane}
use Rattle.wdt_sender_fsm.specs.Reasons as reasons
use Rattle.wdt_sender_fsm.specs.Reasons.{Comes, ComesOf}
use Rattle.wdt_sender_fsm.specs.Reasons.{OfMemory, OfReceiver, OfSource, OfPlan, OfPeer, AtFirst, ByNoLink, ByLoss, BySize, ByBlock, ByMarks, Behind, AtOnce}
use Rattle.wdt_sender_fsm.specs.Rows.{is_allowed, is_mute, is_reading, row_of}
use Rattle.wdt_sender_fsm.specs.Rules.{is_failure}
use Rattle.wdt_sender_fsm.specs.Sender.{Fares, plan_of}
use Rattle.wdt_sender_fsm.specs.SenderHistory.{LanePast, end_of, past_after, past_from, past_of}
use Rattle.wdt_sender_fsm.specs.Turn.{Step, globals, greeted_by, next_conn, send_turn, with_plan}
use Rattle.wdt_pact.specs.Belongs.{SendBelongs}
use Rattle.wdt_pact.specs.Finishing.{Finishing}
use Rattle.wdt_pact.specs.Fitting.{IsSound}
use Rattle.wdt_pact.specs.Measure.{one_if, queued_cost, send_rank, sum_to, weight}
use Rattle.wdt_pact.specs.Pairs.{SendDoes, SendHas}
use Rattle.wdt_pact.specs.World.{PlainWorld, number, pair_at}
use Rattle.wdt_pact.proofs.Falls.{header_length, sum_change, sum_same, sum_to_le}
use Rattle.wdt_pact.proofs.Limits.{term_below}
use Rattle.wdt_pact.proofs.Rows.{fares_in, past_of-append}
use Rattle.wdt_pact.proofs.SendFrees.{past_from-append}
use Rattle.wdt_pact.proofs.SendHighs.{all_link, all_open, any_below, greeted_pays, is_linking, link_high, linked_pays, open_high, open_same, quiet_marks, send_high, shut_same, tried_pays}
use Rattle.wdt_pact.proofs.SendLaw.{put_is}
use Rattle.wdt_pact.proofs.SendMarks.{claim_closed, none_least, none_of}
use Rattle.wdt_pact.proofs.SendMoves.{has_lives}
use Rattle.wdt_pact.proofs.SendSeen as send_seen
use Rattle.wdt_pact.proofs.Sums.{plan_sum, sum_more}

-- what waits at a sender, as it is weighed
abbrev pub queue : PlainSender → ℕ
queue s = sum_by queued_cost (waiting_blocks s)

-- what n lanes of a sender may do again, and the plan
abbrev pub send_highs : ℕ → PlainSender → ℕ
send_highs n s = one_if (not (is_some s.planned)) + sum_to n (λ k. send_high (past_at s k))

-- ---- ranks

-- a lane has a connection on an end that hasn't failed
abbrev serves_in : SendState → Bool
serves_in states.Connect = false
serves_in states.SendAbort = false
serves_in states.Ended = false
serves_in st = true

rank_high : (st : SendState) (i : SendIn) → serves_in st ≡ true → 8 ≤ send_rank st (SendHas i)
rank_high states.Connect i e = cc
rank_high states.SendAbort i e = cc
rank_high states.Ended i e = cc
rank_high states.SendSettings inputs.Wrote e = omega arith
rank_high states.SendSettings (inputs.Got f) e = omega arith
rank_high states.SendSettings i e = omega arith
rank_high states.ReadLocalCheckpoint inputs.Wrote e = omega arith
rank_high states.ReadLocalCheckpoint (inputs.Got f) e = omega arith
rank_high states.ReadLocalCheckpoint i e = omega arith
rank_high states.ReadFileChunks inputs.Wrote e = omega arith
rank_high states.ReadFileChunks (inputs.Got f) e = omega arith
rank_high states.ReadFileChunks i e = omega arith
rank_high states.SendSize inputs.Wrote e = omega arith
rank_high states.SendSize (inputs.Got f) e = omega arith
rank_high states.SendSize i e = omega arith
rank_high states.SendBlocks inputs.Wrote e = omega arith
rank_high states.SendBlocks (inputs.Got f) e = omega arith
rank_high states.SendBlocks i e = omega arith
rank_high states.SendDone inputs.Wrote e = omega arith
rank_high states.SendDone (inputs.Got f) e = omega arith
rank_high states.SendDone i e = omega arith
rank_high states.ReadReceiverCmd inputs.Wrote e = omega arith
rank_high states.ReadReceiverCmd (inputs.Got f) e = omega arith
rank_high states.ReadReceiverCmd i e = omega arith
rank_high states.AnswerDone inputs.Wrote e = omega arith
rank_high states.AnswerDone (inputs.Got f) e = omega arith
rank_high states.AnswerDone i e = omega arith

rank_some : (st : SendState) (i : SendIn) → is_ended st ≡ false → 2 ≤ send_rank st (SendHas i)
rank_some states.Connect i e = omega arith
rank_some states.SendAbort i e = omega arith
rank_some states.Ended i e = cc
rank_some states.SendSettings i e = let a = rank_high states.SendSettings i refl in omega (arith, a)
rank_some states.ReadLocalCheckpoint i e = let a = rank_high states.ReadLocalCheckpoint i refl in omega (arith, a)
rank_some states.ReadFileChunks i e = let a = rank_high states.ReadFileChunks i refl in omega (arith, a)
rank_some states.SendSize i e = let a = rank_high states.SendSize i refl in omega (arith, a)
rank_some states.SendBlocks i e = let a = rank_high states.SendBlocks i refl in omega (arith, a)
rank_some states.SendDone i e = let a = rank_high states.SendDone i refl in omega (arith, a)
rank_some states.ReadReceiverCmd i e = let a = rank_high states.ReadReceiverCmd i refl in omega (arith, a)
rank_some states.AnswerDone i e = let a = rank_high states.AnswerDone i refl in omega (arith, a)

-- where a failure can be told the lane has a connection, and doesn't tell it already
voice_in : (st : SendState) (i : SendIn) → is_mute (row_of st i) ≡ false → serves_in st ≡ true
voice_in states.Connect inputs.Starved e = cc
voice_in states.Connect inputs.Start e = cc
voice_in states.Connect inputs.NoLink e = cc
voice_in states.Connect inputs.Linked e = cc
voice_in states.Connect i e = cc
voice_in states.SendAbort inputs.Starved e = cc
voice_in states.SendAbort inputs.Lost e = cc
voice_in states.SendAbort inputs.Wrote e = cc
voice_in states.SendAbort i e = cc
voice_in states.Ended i e = cc
voice_in st i e = refl

reads_in : (st : SendState) → is_reading st ≡ true → serves_in st ≡ true
reads_in states.ReadLocalCheckpoint e = refl
reads_in states.ReadFileChunks e = refl
reads_in states.ReadReceiverCmd e = refl
reads_in st e = cc

-- a connection is lost in such a state
lost_in : (st : SendState) → is_allowed st inputs.Lost ≡ true → (st ≡ states.SendAbort) ⊎ (serves_in st ≡ true)
lost_in states.Connect e = cc
lost_in states.Ended e = cc
lost_in states.SendAbort e = inl refl
lost_in st e = inr refl

lost_rank : (st : SendState) → serves_in st ≡ true → send_rank st (SendHas inputs.Lost) ≡ 8
lost_rank states.Connect e = cc
lost_rank states.SendAbort e = cc
lost_rank states.Ended e = cc
lost_rank st e = refl

one_most : (b : Bool) → one_if b ≤ 1
one_most true = omega arith
one_most false = omega arith

-- ---- each outcome

module _ (comes : (s : PlainSender) (k : Lane) (i : SendIn) → Comes s k i (send_turn s k i)) (w : PlainWorld) (l : ℕ) (input : SendIn) (s : IsSound w) (f : Finishing w) (within : l < length w.pairs) (holds : (pair_at w l).send ≡ SendHas input)
    (belongs : SendBelongs (SendHas input) (lane_at w.sender l)) (had : HasPlaces w.sender) where
  abbrev n : ℕ
  n = length w.sender.lanes

  abbrev before : ℕ
  before = send_rank (state_at w.sender l) (SendHas input)

  -- less is left to do, or it is paid for
  abbrev pub Lighter : Step → Type 0
  Lighter step =
      ((send_highs (length w.sender.lanes) step.1 ≤ send_highs (length w.sender.lanes) w.sender) × (queue step.1 + send_rank (state_at step.1 l) (SendDoes step.0) < queue w.sender + send_rank (state_at w.sender l) (SendHas input)))
      ⊎ ((send_highs (length w.sender.lanes) step.1 + 1 ≤ send_highs (length w.sender.lanes) w.sender) × (queue step.1 + send_rank (state_at step.1 l) (SendDoes step.0) < weight w + (queue w.sender + send_rank (state_at w.sender l) (SendHas input))))

  -- what is known of the sender behind: each block has its place, and the plan is no more than its weight
  pub record Planned-well (t : PlainSender) : Type 0 where
    pub has : HasPlaces t
    pub light : sum_by queued_cost (blocks_of t) + 100 ≤ weight w

  below : l < length w.sender.lanes
  below = subst (λ (k : ℕ). l < k) (sym s.talk.send_lanes) within

  rank_here : (st : SendState) (i : SendIn) → state_at w.sender l ≡ st → input ≡ i → before ≡ send_rank st (SendHas i)
  rank_here st i here given = ap (λ (x : SendState). send_rank x (SendHas input)) here ∙ ap (λ (x : SendIn). send_rank st (SendHas x)) given

  past_is : (t : PlainSender) (es : List SendEvent) (k : ℕ) → t.history ≡ w.sender.history ++ es → past_at t k ≡ past_from k (past_at w.sender k) es
  past_is t es k is = ap (λ (g : List SendEvent). past_of g k) is ∙ past_of-append w.sender.history es k

  -- ---- what may be done again

  highs_less : (t : PlainSender) (es : List SendEvent) → t.planned ≡ w.sender.planned → t.history ≡ w.sender.history ++ es → ((k : ℕ) → send_high (past_from k (past_at w.sender k) es) ≤ send_high (past_at w.sender k))
      → send_highs (length w.sender.lanes) t ≤ send_highs (length w.sender.lanes) w.sender
  highs_less t es plan is less =
      let a : one_if (not (is_some t.planned)) ≡ one_if (not (is_some w.sender.planned)) = ap (λ (o : Option (List Block)). one_if (not (is_some o))) plan in
      let b =
      sum_to_le (length w.sender.lanes) (λ k. send_high (past_at t k)) (λ k. send_high (past_at w.sender k)) (λ k small. (let c : send_high (past_at t k) ≡ send_high (past_from k (past_at w.sender k) es) = ap send_high (past_is t es k is) in
      let d = less k in omega (arith, c, d))) in
      omega (arith, a, b)

  highs_fall : (t : PlainSender) (es : List SendEvent) (j : ℕ) → t.planned ≡ w.sender.planned → t.history ≡ w.sender.history ++ es → j < length w.sender.lanes
      → ((k : ℕ) → send_high (past_from k (past_at w.sender k) es) ≤ send_high (past_at w.sender k)) → send_high (past_from j (past_at w.sender j) es) + 1 ≤ send_high (past_at w.sender j)
      → send_highs (length w.sender.lanes) t + 1 ≤ send_highs (length w.sender.lanes) w.sender
  highs_fall t es j plan is small less falls =
      let a : one_if (not (is_some t.planned)) ≡ one_if (not (is_some w.sender.planned)) = ap (λ (o : Option (List Block)). one_if (not (is_some o))) plan in
      let e : (k : ℕ) → send_high (past_at t k) ≡ send_high (past_from k (past_at w.sender k) es) = λ k. ap send_high (past_is t es k is) in
      let b =
      sum_more (length w.sender.lanes) j (λ k. send_high (past_at w.sender k)) (λ k. send_high (past_at t k)) 1 small (λ k _. (let c = e k in let d = less k in omega (arith, c, d)))
      (let c = e j in omega (arith, c, falls)) in
      omega (arith, a, b)

  quiet : (es : List SendEvent) → list_any is_linking es ≡ false → (k : ℕ) → send_high (past_from k (past_at w.sender k) es) ≤ send_high (past_at w.sender k)
  quiet es none k = omega (arith, all_link k (past_at w.sender k) es none, all_open k (past_at w.sender k) es)

  -- ---- what waits

  abbrev kept_cost : PlainSender → ℕ → ℕ
  kept_cost t k = sum_by queued_cost (past_at t k).claims.kept

  sums : (t : PlainSender) → length t.lanes ≡ length w.sender.lanes → HasPlaces t → sum_by queued_cost (blocks_of t) ≡ queue t + sum_to (length w.sender.lanes) (kept_cost t)
  sums t many placed = plan_sum queued_cost t placed ∙ ap (λ (m : ℕ). queue t + sum_to m (kept_cost t)) many

  queue_most : (t : PlainSender) → length t.lanes ≡ length w.sender.lanes → Planned-well t → queue t + 100 ≤ weight w
  queue_most t many good = let a = sums t many good.has in let b = good.light in omega (arith, a, b)

  queue_same : (t : PlainSender) (es : List SendEvent) → t.planned ≡ w.sender.planned → length t.lanes ≡ length w.sender.lanes → t.history ≡ w.sender.history ++ es → HasPlaces t
      → ((k : ℕ) → k < length w.pairs → (past_from k (past_at w.sender k) es).claims.kept ≡ (past_at w.sender k).claims.kept) → queue t ≡ queue w.sender
  queue_same t es plan many is placed same =
      omega (
        arith,
        sums t many placed,
        sums w.sender refl had,
        ap (λ (o : Option (List Block)). sum_by queued_cost (listed_blocks o)) plan,
        sum_same (length w.sender.lanes) (kept_cost w.sender) (kept_cost t)
            (λ k small. ap (λ (p : LanePast). sum_by queued_cost p.claims.kept) (past_is t es k is) ∙ ap (sum_by queued_cost) (same k (subst (λ (m : ℕ). k < m) s.talk.send_lanes small))),
      )

  -- ---- a step that puts the lane into a state

  set_many : (t : PlainSender) (lane : SendLane) → t.lanes ≡ w.sender.lanes → length (with_lane t (number l) lane).lanes ≡ length w.sender.lanes
  set_many t lane is = length-set t.lanes l lane ∙ ap (λ (xs : List SendLane). length xs) is

  set_state : (t : PlainSender) (lane : SendLane) → t.lanes ≡ w.sender.lanes → state_at (with_lane t (number l) lane) l ≡ lane.state
  set_state t lane is = ap (λ (x : SendLane). x.state) (put_is t l lane (subst (λ (xs : List SendLane). l < length xs) (sym is) below))

  set_rank : (t : PlainSender) (lane : SendLane) (act : SendAct) → t.lanes ≡ w.sender.lanes → send_rank (state_at (with_lane t (number l) lane) l) (SendDoes act) ≡ send_rank lane.state (SendDoes act)
  set_rank t lane act is = ap (λ (x : SendState). send_rank x (SendDoes act)) (set_state t lane is)

  -- less is left to do
  falls : (t : PlainSender) (es : List SendEvent) (lane : SendLane) (act : SendAct) → t.lanes ≡ w.sender.lanes → t.planned ≡ w.sender.planned → t.history ≡ w.sender.history ++ es
      → list_any is_linking es ≡ false → ((k : ℕ) → k < length w.pairs → (past_from k (past_at w.sender k) es).claims.kept ≡ (past_at w.sender k).claims.kept)
      → send_rank lane.state (SendDoes act) < before → Planned-well (with_lane t (number l) lane) → Lighter (act, with_lane t (number l) lane)
  falls t es lane act lanes plan history none kept less good =
      let q = queue_same (with_lane t (number l) lane) es plan (set_many t lane lanes) history good.has kept in
      let r = set_rank t lane act lanes in
      inl (highs_less (with_lane t (number l) lane) es plan history (quiet es none), omega (arith, q, r, less))

  -- or it is paid for
  pays : (t : PlainSender) (es : List SendEvent) (lane : SendLane) (act : SendAct) → t.lanes ≡ w.sender.lanes → t.planned ≡ w.sender.planned → t.history ≡ w.sender.history ++ es
      → ((k : ℕ) → send_high (past_from k (past_at w.sender k) es) ≤ send_high (past_at w.sender k)) → send_high (past_from l (past_at w.sender l) es) + 1 ≤ send_high (past_at w.sender l)
      → send_rank lane.state (SendDoes act) < 100 → Planned-well (with_lane t (number l) lane) → Lighter (act, with_lane t (number l) lane)
  pays t es lane act lanes plan history less strictly few good =
      let q = queue_most (with_lane t (number l) lane) (set_many t lane lanes) good in
      let r = set_rank t lane act lanes in
      inr (highs_fall (with_lane t (number l) lane) es l plan history below less strictly, omega (arith, q, r, few))

  -- ---- the outcomes

  nothing : w.sender.history ≡ w.sender.history ++ []
  nothing = sym (append-nil w.sender.history)

  ends : (t : PlainSender) (es : List SendEvent) → t.lanes ≡ w.sender.lanes → t.planned ≡ w.sender.planned → t.history ≡ w.sender.history ++ es → list_any is_linking es ≡ false
      → ((k : ℕ) → k < length w.pairs → (past_from k (past_at w.sender k) es).claims.kept ≡ (past_at w.sender k).claims.kept) → Planned-well (goes t (number l) states.Ended) → Lighter (acts.Stop, goes t (number l) states.Ended)
  ends t es lanes plan history none kept good =
      falls t es record { state = states.Ended; ask = (lane_at t l).ask } acts.Stop lanes plan history none kept (let a = rank_some (state_at w.sender l) input (has_lives input (lane_at w.sender l) belongs) in omega (arith, a)) good

  warns : (t : PlainSender) (es : List SendEvent) (code : ℕ) → t.lanes ≡ w.sender.lanes → t.planned ≡ w.sender.planned → t.history ≡ w.sender.history ++ es → list_any is_linking es ≡ false
      → ((k : ℕ) → k < length w.pairs → (past_from k (past_at w.sender k) es).claims.kept ≡ (past_at w.sender k).claims.kept) → serves_in (state_at w.sender l) ≡ true
      → Planned-well (goes t (number l) states.SendAbort) → Lighter (acts.Write (frames.Abort code), goes t (number l) states.SendAbort)
  warns t es code lanes plan history none kept serves good =
      falls t es record { state = states.SendAbort; ask = (lane_at t l).ask } (acts.Write (frames.Abort code)) lanes plan history none kept (let a = rank_high (state_at w.sender l) input serves in omega (arith, a)) good

  failing : (answer : EndAnswer) (mute : Bool) → reasons.Fails w.sender (number l) input answer mute → Planned-well (came_to w.sender (number l) (Failed answer mute)).1 → Lighter (came_to w.sender (number l) (Failed answer mute))
  failing answer mute (OfMemory m going given here is) good = absurd (subst (λ (x : SendIn). SendBelongs (SendHas x) (lane_at w.sender l)) given belongs)
  failing answer mute (OfReceiver st code serves reads given) good =
      ends (failed (noted w.sender (events.Abort (number l) code ∷ [])) (answers.Aborted code)) (events.Abort (number l) code ∷ []) refl refl refl refl (λ k small. refl) good
  failing answer mute (OfSource true serves given) good =
      warns (failed w.sender answers.Source) [] 2 refl refl nothing refl (λ k small. refl) (ap serves_in serves.here) good
  failing answer mute (OfSource false serves given) good = ends (failed w.sender answers.Source) [] refl refl nothing refl (λ k small. refl) good
  failing answer mute (OfPlan kind serves refuses) good = warns (failed w.sender (answers.Refused kind)) [] 7 refl refl nothing refl (λ k small. refl) (ap serves_in serves.here) good
  failing answer mute (OfPeer st kind serves reads mistake) good =
      warns (failed (noted w.sender (events.Peer (number l) kind ∷ [])) (answers.Peer kind)) (events.Peer (number l) kind ∷ []) 5 refl refl refl refl (λ k small. refl)
      (ap serves_in serves.here ∙ reads_in st reads) good

  gives_up : (es : List SendEvent) → reasons.Dials w.sender (number l) input es → Planned-well (came_to w.sender (number l) (GivenUp es)).1 → Lighter (came_to w.sender (number l) (GivenUp es))
  gives_up es (AtFirst serves given) good = absurd (subst (λ (x : SendIn). SendBelongs (SendHas x) (lane_at w.sender l)) given belongs)
  gives_up es (ByNoLink serves given) good =
      ends (noted w.sender (events.NoLink (number l) ∷ events.Quit (number l) ∷ [])) (events.NoLink (number l) ∷ events.Quit (number l) ∷ []) refl refl refl refl (λ k small. refl) good
  gives_up es (ByLoss st serves allowed given) good =
      ends (noted w.sender (events.Lost (number l) ∷ events.Quit (number l) ∷ [])) (events.Lost (number l) ∷ events.Quit (number l) ∷ []) refl refl refl refl (λ k small. refl) good

  -- how the lane stands in its state
  fares : (st : SendState) → reasons.Serves w.sender (number l) st → Fares (is_failure w.sender.answer) st (lane_at w.sender l).ask (past_at w.sender l) (end_of w.sender.history)
  fares st serves = fares_in w l st s.talk within serves.here (none_of (past_at w.sender l).claims.closed serves.is_open)

  dials : (es : List SendEvent) → reasons.Dials w.sender (number l) input es → Planned-well (came_to w.sender (number l) (Redialed es)).1 → Lighter (came_to w.sender (number l) (Redialed es))
  dials es (AtFirst serves given) good = absurd (subst (λ (x : SendIn). SendBelongs (SendHas x) (lane_at w.sender l)) given belongs)
  dials es (ByNoLink serves given) good =
      let t : PlainSender = noted w.sender (events.NoLink (number l) ∷ []) in
      pays t (events.NoLink (number l) ∷ []) record { state = states.Connect; ask = (lane_at w.sender l).ask } (acts.Dial (next_conn t (number l))) refl refl refl (quiet (events.NoLink (number l) ∷ []) refl)
      (tried_pays (past_at w.sender l) (number l) (fares states.Connect serves).failed_tries) (omega arith) good
  dials es (ByLoss st serves allowed given) good = elim (lost_in st allowed) [
    | inl here ↦ absurd (both_ways (is_failure w.sender.answer) serves.sound (fares states.SendAbort record { is_open = serves.is_open; sound = serves.sound; here = serves.here ∙ here }).failed)
    | inr linked ↦
        let t : PlainSender = noted w.sender (events.Lost (number l) ∷ []) in
        falls t (events.Lost (number l) ∷ []) record { state = states.Connect; ask = (lane_at w.sender l).ask } (acts.Dial (next_conn t (number l))) refl refl refl refl (λ k small. refl)
        (let a = rank_here st inputs.Lost serves.here given in omega (arith, a, lost_rank st linked)) good
  ]

  introduces : reasons.Serves w.sender (number l) states.Connect → Planned-well (came_to w.sender (number l) Introduced).1 → Lighter (came_to w.sender (number l) Introduced)
  introduces serves good =
      let e : SendEvent = events.Linked (number l) (next_conn w.sender (number l)) in
      let few : (k : ℕ) → l ≡ k → (past_at w.sender k).connections < MAX_CONNECTIONS = λ k same. subst (λ (i : ℕ). (past_at w.sender i).connections < MAX_CONNECTIONS) same (fares states.Connect serves).connections in
      pays (noted w.sender (e ∷ [])) (e ∷ []) record { state = states.SendSettings; ask = not (is_some w.sender.have) } (acts.Write (settings_of w.sender (number l) (next_conn w.sender (number l)) (not (is_some w.sender.have)))) refl refl refl (λ k. (linked_pays k (past_at w.sender k) (number l) (next_conn w.sender (number l)) (few k)).0)
      ((linked_pays l (past_at w.sender l) (number l) (next_conn w.sender (number l)) (few l)).1 refl) (omega arith) good

  greets : (count : ℕ) (ask : Bool) → reasons.Serves w.sender (number l) states.ReadLocalCheckpoint → Planned-well (greeted_by (noted w.sender (events.Greet (number l) count ∷ [])) (number l) ask).1
      → Lighter (greeted_by (noted w.sender (events.Greet (number l) count ∷ [])) (number l) ask)
  greets count true serves good =
      pays (noted w.sender (events.Greet (number l) count ∷ [])) (events.Greet (number l) count ∷ []) record { state = states.ReadFileChunks; ask = (lane_at w.sender l).ask } acts.Read refl refl refl
      (quiet (events.Greet (number l) count ∷ []) refl) (greeted_pays (past_at w.sender l) (number l) count (fares states.ReadLocalCheckpoint serves).greeted) (omega arith) good
  greets count false serves good =
      pays (noted w.sender (events.Greet (number l) count ∷ [])) (events.Greet (number l) count ∷ []) record { state = states.SendSize; ask = (lane_at w.sender l).ask } (acts.Write (size_of_tree (noted w.sender (events.Greet (number l) count ∷ [])))) refl refl refl
      (quiet (events.Greet (number l) count ∷ []) refl) (greeted_pays (past_at w.sender l) (number l) count (fares states.ReadLocalCheckpoint serves).greeted) (omega arith) good

  -- what the destination has is read first: the plan pays
  plans : (have : List HaveFile) → w.sender.have ≡ None → Planned-well (came_to w.sender (number l) (Planned have)).1 → Lighter (came_to w.sender (number l) (Planned have))
  plans have none good =
      let t : PlainSender = noted (with_plan w.sender have) (events.Chunks (number l) ∷ []) in
      let lane : SendLane = record { state = states.SendSize; ask = (lane_at w.sender l).ask } in
      let v : PlainSender = with_lane t (number l) lane in
      let q = queue_most v (set_many t lane refl) good in
      let old : one_if (not (is_some w.sender.planned)) ≡ 1 = ap (λ (o : Option (List Block)). one_if (not (is_some o))) (s.talk.sender.plan.planned ∙ ap (plan_of w.sender.manifest w.sender.block) none) in
      let sum =
      sum_to_le (length w.sender.lanes) (λ k. send_high (past_at v k)) (λ k. send_high (past_at w.sender k))
      (λ k small. (let c : send_high (past_at v k) ≡ send_high (past_from k (past_at w.sender k) (events.Chunks (number l) ∷ [])) = ap send_high (past_is v (events.Chunks (number l) ∷ []) k refl) in
      let d = quiet (events.Chunks (number l) ∷ []) refl k in omega (arith, c, d))) in
      let r : send_rank (state_at v l) (SendDoes (came_to w.sender (number l) (Planned have)).0) ≡ 30 = ap (λ (x : SendState). send_rank x (SendDoes (came_to w.sender (number l) (Planned have)).0)) (set_state t lane refl) in
      inr (omega (arith, old, sum), omega (arith, q, r))

  -- ---- a block is taken

  module _ (es : List SendEvent) (b : Block) (none : list_any is_linking es ≡ false) (good : Planned-well (came_to w.sender (number l) (Claimed es b)).1) where
    abbrev tail : List SendEvent
    tail = events.Claim (number l) b ∷ []

    abbrev v : PlainSender
    v = (came_to w.sender (number l) (Claimed es b)).1

    many : length v.lanes ≡ length w.sender.lanes
    many = set_many (noted w.sender (es ++ tail)) record { state = states.SendBlocks; ask = (lane_at w.sender l).ask } refl

    any_append : (xs : List SendEvent) → list_any is_linking xs ≡ false → list_any is_linking (xs ++ events.Claim (number l) b ∷ []) ≡ false
    any_append [] e = refl
    any_append (x ∷ xs) e = go (is_linking x) e (any_append xs) where
      go : (c : Bool) → (c || list_any is_linking xs) ≡ false → (list_any is_linking xs ≡ false → list_any is_linking (xs ++ events.Claim (number l) b ∷ []) ≡ false)
          → (c || list_any is_linking (xs ++ events.Claim (number l) b ∷ [])) ≡ false
      go true y more = cc
      go false y more = more y

    past_v : (k : ℕ) → past_at v k ≡ past_after k (past_from k (past_at w.sender k) es) (events.Claim (number l) b)
    past_v k = past_is v (es ++ tail) k refl ∙ past_from-append k (past_at w.sender k) es (events.Claim (number l) b ∷ [])

    -- the block is the lane's
    kept_own : kept_cost v l ≡ sum_by queued_cost (past_from l (past_at w.sender l) es).claims.kept + queued_cost b
    kept_own =
        ap (λ (p : LanePast). sum_by queued_cost p.claims.kept) (past_v l)
        ∙ (ap (λ (x : Bool). sum_by queued_cost (if x then record { kept = p0.kept ++ b ∷ []; sure = p0.sure; held = true; closed = p0.closed } else p0).kept) (eq-eqb l l refl)
        ∙ (sum_by-append queued_cost p0.kept (b ∷ []) ∙ omega (arith, sum_by-cons queued_cost b []))) where
          p0 : Claims
          p0 = (past_from l (past_at w.sender l) es).claims

    kept_other : (k : ℕ) → k ≢ l → kept_cost v k ≡ sum_by queued_cost (past_from k (past_at w.sender k) es).claims.kept
    kept_other k ne =
        ap (λ (p : LanePast). sum_by queued_cost p.claims.kept) (past_v k)
        ∙ ap (λ (x : Bool). sum_by queued_cost (if x then record { kept = p0.kept ++ b ∷ []; sure = p0.sure; held = true; closed = p0.closed } else p0).kept) (ne_eqb l k (λ e. ne (sym e))) where
          p0 : Claims
          p0 = (past_from k (past_at w.sender k) es).claims

    rank_v : send_rank (state_at v l) (SendDoes (acts.SendBlock (header_of w.sender b))) ≡ 23 + (3 + 3 * pieces_in b.length)
    rank_v =
        set_rank (noted w.sender (es ++ tail)) record { state = states.SendBlocks; ask = (lane_at w.sender l).ask } (acts.SendBlock (header_of w.sender b)) refl
        ∙ ap (λ (x : ℕ). 23 + (3 + 3 * pieces_in x)) (header_length (slice_get w.sender.manifest b.file) b)

    -- where the lanes keep their blocks, it is taken from those that wait
    takes : ((k : ℕ) → k < length w.pairs → (past_from k (past_at w.sender k) es).claims.kept ≡ (past_at w.sender k).claims.kept) → 21 < before → Lighter (came_to w.sender (number l) (Claimed es b))
    takes same few =
        let kept : (k : ℕ) → k < length w.sender.lanes → sum_by queued_cost (past_from k (past_at w.sender k) es).claims.kept ≡ kept_cost w.sender k =
        λ k small. ap (sum_by queued_cost) (same k (subst (λ (m : ℕ). k < m) s.talk.send_lanes small)) in
        let change = sum_change (length w.sender.lanes) l (kept_cost w.sender) (kept_cost v) below (λ k small ne. kept_other k ne ∙ kept k small) in
        let own = kept l below in
        let blocks = sums v many good.has in
        let old = sums w.sender refl had in
        let plan : sum_by queued_cost (blocks_of v) ≡ sum_by queued_cost (blocks_of w.sender) = refl in
        inl (
          highs_less v (es ++ tail) refl refl (quiet (es ++ tail) (any_append es none)),
          omega (arith, change, own, kept_own, blocks, old, plan, rank_v, few),
        )

    -- where a lane is closed by it, that pays
    repays : (j : ℕ) → j < length w.sender.lanes → send_high (past_from j (past_at w.sender j) (es ++ events.Claim (number l) b ∷ [])) + 1 ≤ send_high (past_at w.sender j) → Lighter (came_to w.sender (number l) (Claimed es b))
    repays j small strictly =
        let blocks = sums v many good.has in
        let light = good.light in
        inr (
          highs_fall v (es ++ tail) j refl refl small (quiet (es ++ tail) (any_append es none)) strictly,
          omega (arith, blocks, light, kept_own, term_below (length w.sender.lanes) l (kept_cost v) below, rank_v),
        )

  -- a lane that is closed anew by marks
  abbrev shuts : List Mark → ℕ → Bool
  shuts ms k = not (is_some (past_at w.sender k).claims.closed) && is_some (past_from k (past_at w.sender k) (globals (number l) ms)).claims.closed

  shut_pays : (ms : List Mark) (b : Block) (k : ℕ) → shuts ms k ≡ true → send_high (past_from k (past_at w.sender k) (globals (number l) ms ++ events.Claim (number l) b ∷ [])) + 1 ≤ send_high (past_at w.sender k)
  shut_pays ms b k e =
      let parts = and_parts (not (is_some (past_at w.sender k).claims.closed)) (is_some (past_from k (past_at w.sender k) (globals (number l) ms)).claims.closed) e in
      let p : LanePast = past_from k (past_at w.sender k) (globals (number l) ms) in
      let was : open_high (past_at w.sender k) ≡ 1 = ap one_if parts.0 in
      let is : open_high (past_after k p (events.Claim (number l) b)) ≡ 0 = ap (λ (o : Option ℕ). one_if (not (is_some o))) (claim_closed k p (number l) b) ∙ ap (λ (x : Bool). one_if (not x)) parts.1 in
      let link = all_link k (past_at w.sender k) (globals (number l) ms) (quiet_marks (number l) ms) in
      let whole : send_high (past_from k (past_at w.sender k) (globals (number l) ms ++ events.Claim (number l) b ∷ [])) ≡ send_high (past_after k p (events.Claim (number l) b)) =
      ap send_high (past_from-append k (past_at w.sender k) (globals (number l) ms) (events.Claim (number l) b ∷ [])) in
      omega (arith, was, is, link, whole)

  -- where none is, the lanes keep their blocks
  keeps_all : (ms : List Mark) → ((k : ℕ) → k < length w.sender.lanes → shuts ms k ≡ false) → (k : ℕ) → k < length w.pairs
      → (past_from k (past_at w.sender k) (globals (number l) ms)).claims.kept ≡ (past_at w.sender k).claims.kept
  keeps_all ms none k small = go (is_some (past_at w.sender k).claims.closed) refl (none k (subst (λ (m : ℕ). k < m) (sym s.talk.send_lanes) small)) where
    go : (c : Bool) → is_some (past_at w.sender k).claims.closed ≡ c → (not c && is_some (past_from k (past_at w.sender k) (globals (number l) ms)).claims.closed) ≡ false
        → (past_from k (past_at w.sender k) (globals (number l) ms)).claims.kept ≡ (past_at w.sender k).claims.kept
    go true is e = shut_same k (past_at w.sender k) (number l) ms is
    go false is e = open_same k (past_at w.sender k) (number l) ms e

  claims : (es : List SendEvent) (b : Block) → reasons.Frees w.sender (number l) input es → Planned-well (came_to w.sender (number l) (Claimed es b)).1 → Lighter (came_to w.sender (number l) (Claimed es b))
  claims es b (BySize serves given) good = takes [] b refl good (λ k small. refl) (let a = rank_here states.SendSize inputs.Wrote serves.here given in omega (arith, a))
  claims es b (ByBlock serves given) good =
      takes (events.Sent (number l) ∷ []) b refl good (λ k small. sent_kept k (l == k)) (let a = rank_here states.SendBlocks inputs.Wrote serves.here given in omega (arith, a)) where
        sent_kept : (k : ℕ) (x : Bool) → (if x then record { kept = (past_at w.sender k).claims.kept; sure = (past_at w.sender k).claims.sure; held = false; closed = (past_at w.sender k).claims.closed } else (past_at w.sender k).claims).kept ≡ (past_at w.sender k).claims.kept
        sent_kept k true = refl
        sent_kept k false = refl
  claims es b (ByMarks ms serves given strangers fault) good = elim (any_below (length w.sender.lanes) (shuts ms)) [
    | inl x ↦ repays (globals (number l) ms) b (quiet_marks (number l) ms) good x.0 x.1 (shut_pays ms b x.0 x.2)
    | inr none ↦
        takes (globals (number l) ms) b (quiet_marks (number l) ms) good (keeps_all ms none) (let a = rank_here states.ReadReceiverCmd (inputs.Got (frames.ErrMarks ms)) serves.here given in omega (arith, a))
  ]

  -- no block waits
  empties : (es : List SendEvent) → reasons.Frees w.sender (number l) input es → least_queued (noted w.sender es) ≡ None → Lighter (came_to w.sender (number l) (Emptied es))
  empties es frees least =
      let t : PlainSender = noted w.sender es in
      let lane : SendLane = record { state = states.SendDone; ask = (lane_at w.sender l).ask } in
      let v : PlainSender = with_lane t (number l) lane in
      let none : waiting_blocks v ≡ [] = ap (λ (m : ℕ). queued m (blocks_of t) t.history) (length-set t.lanes l lane) ∙ none_least (waiting_blocks t) least in
      let q : queue v ≡ 0 = ap (sum_by queued_cost) none in
      let r = set_rank t lane (acts.Write frames.Done) refl in
      let few = rank es frees in
      inl (highs_less v es refl refl (quiet es (calm es frees)), omega (arith, q, r, few)) where
        rank : (es : List SendEvent) → reasons.Frees w.sender (number l) input es → 20 < before
        rank es (BySize serves given) = let a = rank_here states.SendSize inputs.Wrote serves.here given in omega (arith, a)
        rank es (ByBlock serves given) = let a = rank_here states.SendBlocks inputs.Wrote serves.here given in omega (arith, a)
        rank es (ByMarks ms serves given strangers fault) = let a = rank_here states.ReadReceiverCmd (inputs.Got (frames.ErrMarks ms)) serves.here given in omega (arith, a)

        calm : (es : List SendEvent) → reasons.Frees w.sender (number l) input es → list_any is_linking es ≡ false
        calm es (BySize serves given) = refl
        calm es (ByBlock serves given) = refl
        calm es (ByMarks ms serves given strangers fault) = quiet_marks (number l) ms

  finishes : reasons.Ends w.sender (number l) → input ≡ inputs.Got frames.Done → 12 < before
  finishes (Behind serves) given = let a = rank_here states.ReadReceiverCmd (inputs.Got frames.Done) serves.here given in omega (arith, a)
  finishes (AtOnce serves known) given = let a = rank_here states.ReadLocalCheckpoint (inputs.Got frames.Done) serves.here given in omega (arith, a)

  never : {P : Type 0} → reasons.Rests w.sender (number l) input → P
  never {P} x = send_seen.rested comes w l input s.talk f.empty f.planned within holds belongs x

  pub outcome_lighter : (o : Outcome) → ComesOf w.sender (number l) input o → Planned-well (came_to w.sender (number l) o).1 → Lighter (came_to w.sender (number l) o)
  outcome_lighter Rested of good = never of
  outcome_lighter Waited of good =
      let a = rank_here states.ReadReceiverCmd (inputs.Got frames.Wait) of.0.here of.1 in
      let b : send_rank (state_at w.sender l) (SendDoes acts.Read) ≡ 14 = ap (λ (x : SendState). send_rank x (SendDoes acts.Read)) of.0.here in
      inl (omega arith, omega (arith, a, b))
  outcome_lighter Left of good = ends w.sender [] refl refl nothing refl (λ k small. refl) good
  outcome_lighter Warned of good = warns w.sender [] _ refl refl nothing refl (λ k small. refl) (voice_in (state_at w.sender l) input of.1.voice) good
  outcome_lighter (Failed answer mute) of good = failing answer mute of good
  outcome_lighter (GivenUp es) of good = gives_up es of.0 good
  outcome_lighter (Redialed es) of good = dials es of.0 good
  outcome_lighter Introduced of good = introduces of.0 good
  outcome_lighter Presented of good =
      falls w.sender [] record { state = states.ReadLocalCheckpoint; ask = (lane_at w.sender l).ask } acts.Read refl refl nothing refl (λ k small. refl)
      (let a = rank_here states.SendSettings inputs.Wrote of.0.here of.1 in omega (arith, a)) good
  outcome_lighter (Greeted count) of good = greets count (lane_at w.sender l).ask of.0 good
  outcome_lighter Listed of good =
      falls (noted w.sender (events.Chunks (number l) ∷ [])) (events.Chunks (number l) ∷ []) record { state = states.SendSize; ask = (lane_at w.sender l).ask } (acts.Write (size_of_tree (noted w.sender (events.Chunks (number l) ∷ [])))) refl refl refl refl (λ k small. refl)
      (let a = rank_here states.ReadFileChunks (inputs.Got (frames.Chunks of.0)) of.1.serves.here of.1.read in omega (arith, a)) good
  outcome_lighter (Planned have) of good = plans have of.1 good
  outcome_lighter (Claimed es b) of good = claims es b of.0 good
  outcome_lighter (Emptied es) of good = empties es of.0 of.1
  outcome_lighter Concluded of good =
      falls (noted w.sender (events.Done (number l) ∷ [])) (events.Done (number l) ∷ []) record { state = states.ReadReceiverCmd; ask = (lane_at w.sender l).ask } acts.Read refl refl refl refl (λ k small. refl)
      (let a = rank_here states.SendDone inputs.Wrote of.0.here of.1 in omega (arith, a)) good
  outcome_lighter Finished of good =
      falls (noted w.sender (events.Finish (number l) ∷ [])) (events.Finish (number l) ∷ []) record { state = states.AnswerDone; ask = (lane_at w.sender l).ask } (acts.Write frames.Done) refl refl refl refl (λ k small. refl)
      (finishes of.0 of.1) good
  outcome_lighter Acknowledged of good =
      falls (noted w.sender (events.Acked (number l) ∷ [])) (events.Acked (number l) ∷ []) record { state = states.Ended; ask = (lane_at w.sender l).ask } acts.Stop refl refl refl refl (λ k small. refl)
      (let a = rank_here states.AnswerDone inputs.Wrote of.0.here of.1 in omega (arith, a)) good
