-- A turn of the receiver's lane leaves less to do, or uses up something that pays for what it gives back.
use Rattle.std.proofs.Common.{◌≡◌, ◌≢◌, ◌⊎◌, inl, inr, ℕ, zero, suc, ◌+◌, ◌-◌, ◌*◌, ◌<◌, ◌≤◌, ◌==◌, ◌||◌, ◌&&◌, not, Bool, true, false, if◌then◌else◌, List, [], ◌∷◌, ◌++◌, length, is_some, Option, Some, None, subst, sym, ap, ◌∙◌, refl, arith, append-nil, append_assoc, eq-eqb, eqb-true, filter}
use Rattle.std.specs.List.{list_any}
use Rattle.std.proofs.lemmas.Bool.{and_parts, both_ways, or_cases}
use Rattle.std.proofs.lemmas.List.{length-set}
use Rattle.wdt_units.specs.declared.blocks.Block.{Block}
use Rattle.wdt_units.specs.LaneSets.{has_lane}
use Rattle.wdt_units.specs.declared.limits.TheConstants.{MAX_CONNECTIONS}
use Rattle.wdt_codec.specs.declared.frames.Frame.{Frame}
use Rattle.wdt_codec.specs.declared.frames.Frame.TheVariants as frames
use Rattle.wdt_codec.specs.declared.frames.Settings.{Settings}
use Rattle.wdt_sender_fsm.specs.declared.answers.EndAnswer.{EndAnswer}
use Rattle.wdt_sender_fsm.specs.declared.answers.EndAnswer.TheVariants as answers
use Rattle.wdt_sender_fsm.specs.Rules.{by_voice, is_failure}
use Rattle.wdt_receiver_fsm.specs.declared.acts.RecvAct.{RecvAct}
use Rattle.wdt_receiver_fsm.specs.declared.acts.RecvAct.TheVariants as acts
use Rattle.wdt_receiver_fsm.specs.declared.events.RecvEvent.{RecvEvent}
use Rattle.wdt_receiver_fsm.specs.declared.events.RecvEvent.TheVariants as events
use Rattle.wdt_receiver_fsm.specs.declared.inputs.RecvIn.{RecvIn}
use Rattle.wdt_receiver_fsm.specs.declared.inputs.RecvIn.TheVariants as inputs
use Rattle.wdt_receiver_fsm.specs.declared.states.RecvLane.{RecvLane}
use Rattle.wdt_receiver_fsm.specs.declared.states.RecvState.{RecvState}
use Rattle.wdt_receiver_fsm.specs.declared.states.RecvState.TheVariants as states
use Rattle.wdt_receiver_fsm.specs.Logging.{all_logged_by}
use Rattle.wdt_receiver_fsm.specs.Outcomes as outcomes
use Rattle.wdt_receiver_fsm.specs.Outcomes.{ComesOf, Outcome, Rested, Left, Warned, Failed, GivenUp, Listened, Linked, Greeted, Listed, ReadOn, Sized, Begun, Taken, Concluded, Told, Waited, Ended, Acknowledged, came_to, is_linked, landed_by}
use Rattle.wdt_receiver_fsm.specs.Outcomes.{ByDone, ByWait, ByWaking, OfMemory, OfSender, OfPeer, OfShort, OfMake, OfWrite, OfLog, OfFinish, AtFirst, ByNoLink, ByLoss, ByGreeting, ByChunks, ByMarks, ByLanding, ByLogging, WasFinished, IsFinished, OfKnown, OfNew}
use Rattle.wdt_receiver_fsm.specs.PlainReceiver.{PlainReceiver, failed, goes, has_finish, is_ended, lane_at, lane_or_ended, noted, past_at, state_at, untold_at, with_lane}
use Rattle.wdt_receiver_fsm.specs.Ready.{is_confirmed, is_closed, is_untold}
use Rattle.wdt_receiver_fsm.specs.ReceiverHistory.{RecvPast, end_of, past_after, past_from, past_of, past_of-append}
use Rattle.wdt_receiver_fsm.specs.Rows.{is_mute, is_reading, piece_row, row_of}
use Rattle.wdt_receiver_fsm.specs.Sets.{has, lanes_of, numbers, set_of}
use Rattle.wdt_receiver_fsm.specs.Turn.{Bytes, Given, Put, Step, begins_by, drops_lane, given_up, greets_by, knows, lands, meets, met_by, next_take, reads, row_at, says_done, sized_by, tells_by, waits_by}
use Rattle.wdt_pact.specs.Belongs.{RecvBelongs, RecvBelongsAt, receives_writing}
use Rattle.wdt_pact.specs.Conversation.{Conversation}
use Rattle.wdt_pact.specs.Fitting.{IsSound}
use Rattle.wdt_pact.specs.Measure.{recv_rank, sum_to, wait_rank}
use Rattle.wdt_pact.specs.Pairs.{RecvDoes, RecvHas, RecvHold, RecvTook}
use Rattle.wdt_pact.specs.World.{PlainWorld, number, pair_at}
use Rattle.wdt_pact.proofs.Below.{get_set}
use Rattle.wdt_pact.proofs.Falls.{sum_to_le}
use Rattle.wdt_pact.proofs.RecvHands.{Hands, holds_input, holds_park, holds_piece}
use Rattle.wdt_pact.proofs.RecvHighs.{all_high, is_taking, recv_high, taken_pays, told_pays, tried_pays}
use Rattle.wdt_pact.proofs.RecvRows.{recv_fares}
use Rattle.wdt_pact.proofs.RecvSeen as recv_seen
use Rattle.wdt_pact.proofs.RecvSeen.{logged_history}
use Rattle.wdt_pact.proofs.Still.{in_numbers}
use Rattle.wdt_pact.proofs.Sums.{sum_more}
use Rattle.wdt_pact.proofs.ToldLanes.{closed_there, has_set, in_filter}

-- what n lanes of a receiver may do again
abbrev pub recv_highs : ℕ → List RecvEvent → ℕ
recv_highs n g = sum_to n (λ k. recv_high n (past_of g k))

-- what a lane of the receiver has still to do, with what it holds
abbrev pub recv_low : RecvLane → RecvHold → ℕ
recv_low lane h = recv_rank lane.state h + wait_rank lane

-- ---- ranks

-- a lane has a connection on an end that hasn't failed
abbrev serves_in : RecvState → Bool
serves_in states.Listen = false
serves_in states.SendAbort = false
serves_in states.Ended = false
serves_in st = true

rank_high : (st : RecvState) (h : RecvHold) → serves_in st ≡ true → (h ≡ RecvHas inputs.Wrote → receives_writing st ≡ true) → 7 ≤ recv_rank st h
rank_high states.Listen h e writes = cc
rank_high states.SendAbort h e writes = cc
rank_high states.Ended h e writes = cc
rank_high states.ReadSettings (RecvDoes act) e writes = omega arith
rank_high states.ReadSettings (RecvTook n) e writes = omega arith
rank_high states.ReadSettings (RecvHas inputs.Wrote) e writes = omega arith
rank_high states.ReadSettings (RecvHas (inputs.Got f)) e writes = omega arith
rank_high states.ReadSettings (RecvHas i) e writes = omega arith
rank_high states.SendLocalCheckpoint (RecvDoes act) e writes = omega arith
rank_high states.SendLocalCheckpoint (RecvTook n) e writes = omega arith
rank_high states.SendLocalCheckpoint (RecvHas inputs.Wrote) e writes = omega arith
rank_high states.SendLocalCheckpoint (RecvHas (inputs.Got f)) e writes = omega arith
rank_high states.SendLocalCheckpoint (RecvHas i) e writes = omega arith
rank_high states.SendFileChunks (RecvDoes act) e writes = omega arith
rank_high states.SendFileChunks (RecvTook n) e writes = omega arith
rank_high states.SendFileChunks (RecvHas inputs.Wrote) e writes = omega arith
rank_high states.SendFileChunks (RecvHas (inputs.Got f)) e writes = omega arith
rank_high states.SendFileChunks (RecvHas i) e writes = omega arith
rank_high states.ReadNextCmd (RecvDoes act) e writes = omega arith
rank_high states.ReadNextCmd (RecvTook n) e writes = omega arith
rank_high states.ReadNextCmd (RecvHas inputs.Wrote) e writes = omega arith
rank_high states.ReadNextCmd (RecvHas (inputs.Got f)) e writes = omega arith
rank_high states.ReadNextCmd (RecvHas i) e writes = omega arith
rank_high states.TakeBlock (RecvDoes act) e writes = omega arith
rank_high states.TakeBlock (RecvTook n) e writes = omega arith
rank_high states.TakeBlock (RecvHas inputs.Wrote) e writes = omega arith
rank_high states.TakeBlock (RecvHas (inputs.Got f)) e writes = omega arith
rank_high states.TakeBlock (RecvHas i) e writes = omega arith
rank_high states.SendWait (RecvDoes act) e writes = omega arith
rank_high states.SendWait (RecvTook n) e writes = omega arith
rank_high states.SendWait (RecvHas inputs.Wrote) e writes = omega arith
rank_high states.SendWait (RecvHas (inputs.Got f)) e writes = omega arith
rank_high states.SendWait (RecvHas i) e writes = omega arith
rank_high states.WaitForFinish (RecvDoes act) e writes = omega arith
rank_high states.WaitForFinish (RecvTook n) e writes = omega arith
rank_high states.WaitForFinish (RecvHas inputs.Wrote) e writes = omega arith
rank_high states.WaitForFinish (RecvHas (inputs.Got f)) e writes = omega arith
rank_high states.WaitForFinish (RecvHas i) e writes = omega arith
rank_high states.SendGlobalCheckpoint (RecvDoes act) e writes = omega arith
rank_high states.SendGlobalCheckpoint (RecvTook n) e writes = omega arith
rank_high states.SendGlobalCheckpoint (RecvHas inputs.Wrote) e writes = omega arith
rank_high states.SendGlobalCheckpoint (RecvHas (inputs.Got f)) e writes = omega arith
rank_high states.SendGlobalCheckpoint (RecvHas i) e writes = omega arith
rank_high states.SendDone (RecvDoes act) e writes = omega arith
rank_high states.SendDone (RecvTook n) e writes = omega arith
rank_high states.SendDone (RecvHas inputs.Wrote) e writes = omega arith
rank_high states.SendDone (RecvHas (inputs.Got f)) e writes = omega arith
rank_high states.SendDone (RecvHas i) e writes = omega arith
rank_high states.ReadAck (RecvDoes act) e writes = omega arith
rank_high states.ReadAck (RecvTook n) e writes = omega arith
rank_high states.ReadAck (RecvHas inputs.Wrote) e writes = let x = writes refl in cc
rank_high states.ReadAck (RecvHas (inputs.Got f)) e writes = omega arith
rank_high states.ReadAck (RecvHas i) e writes = omega arith

rank_some : (st : RecvState) (h : RecvHold) → is_ended st ≡ false → (h ≡ RecvHas inputs.Wrote → receives_writing st ≡ true) → 1 ≤ recv_rank st h
rank_some states.Listen (RecvDoes act) e writes = omega arith
rank_some states.Listen (RecvTook n) e writes = omega arith
rank_some states.Listen (RecvHas i) e writes = omega arith
rank_some states.SendAbort (RecvDoes act) e writes = omega arith
rank_some states.SendAbort (RecvTook n) e writes = omega arith
rank_some states.SendAbort (RecvHas i) e writes = omega arith
rank_some states.Ended h e writes = cc
rank_some states.ReadSettings h e writes = let a = rank_high states.ReadSettings h refl writes in omega (arith, a)
rank_some states.SendLocalCheckpoint h e writes = let a = rank_high states.SendLocalCheckpoint h refl writes in omega (arith, a)
rank_some states.SendFileChunks h e writes = let a = rank_high states.SendFileChunks h refl writes in omega (arith, a)
rank_some states.ReadNextCmd h e writes = let a = rank_high states.ReadNextCmd h refl writes in omega (arith, a)
rank_some states.TakeBlock h e writes = let a = rank_high states.TakeBlock h refl writes in omega (arith, a)
rank_some states.SendWait h e writes = let a = rank_high states.SendWait h refl writes in omega (arith, a)
rank_some states.WaitForFinish h e writes = let a = rank_high states.WaitForFinish h refl writes in omega (arith, a)
rank_some states.SendGlobalCheckpoint h e writes = let a = rank_high states.SendGlobalCheckpoint h refl writes in omega (arith, a)
rank_some states.SendDone h e writes = let a = rank_high states.SendDone h refl writes in omega (arith, a)
rank_some states.ReadAck h e writes = let a = rank_high states.ReadAck h refl writes in omega (arith, a)

-- where a failure can be told the lane has a connection, and doesn't tell it already
voice_of : (sized : Bool) (st : RecvState) (i : RecvIn) → is_mute (row_of sized st i) ≡ false → serves_in st ≡ true
voice_of sized states.Listen inputs.Starved e = cc
voice_of sized states.Listen inputs.Start e = cc
voice_of sized states.Listen inputs.NoLink e = cc
voice_of sized states.Listen inputs.Linked e = cc
voice_of sized states.Listen i e = cc
voice_of sized states.SendAbort inputs.Starved e = cc
voice_of sized states.SendAbort inputs.Lost e = cc
voice_of sized states.SendAbort inputs.Wrote e = cc
voice_of sized states.SendAbort i e = cc
voice_of sized states.Ended i e = cc
voice_of sized st i e = refl

voice_bytes : (st : RecvState) (bytes : List ℕ) → is_mute (piece_row st bytes) ≡ false → serves_in st ≡ true
voice_bytes states.TakeBlock bytes e = refl
voice_bytes states.Ended bytes e = cc
voice_bytes st bytes e = cc

reads_in : (st : RecvState) → is_reading st ≡ true → serves_in st ≡ true
reads_in states.ReadSettings e = refl
reads_in states.ReadNextCmd e = refl
reads_in states.ReadAck e = refl
reads_in st e = cc

-- a connection is lost in such a state
lost_in : (st : RecvState) → is_linked st ≡ true → (st ≡ states.SendAbort) ⊎ (serves_in st ≡ true)
lost_in states.Listen e = cc
lost_in states.Ended e = cc
lost_in states.SendAbort e = inl refl
lost_in st e = inr refl

lost_rank : (st : RecvState) → serves_in st ≡ true → recv_rank st (RecvHas inputs.Lost) ≡ 8
lost_rank states.Listen e = cc
lost_rank states.SendAbort e = cc
lost_rank states.Ended e = cc
lost_rank st e = refl

-- what passes stays among those that pass
has_filter : (f : ℕ → Bool) (xs : List ℕ) (q : ℕ) → f q ≡ true → has xs q ≡ true → has (filter f xs) q ≡ true
has_filter f [] q e h = cc
has_filter f (x ∷ xs) q e h = go (f x) refl (or_cases (x == q) (has xs q) h) (has_filter f xs q e) where
  or_right : (a b : Bool) → b ≡ true → (a || b) ≡ true
  or_right true b y = refl
  or_right false b y = y

  go : (b : Bool) → f x ≡ b → ((x == q) ≡ true) ⊎ (has xs q ≡ true) → (has xs q ≡ true → has (filter f xs) q ≡ true) → has (if b then x ∷ filter f xs else filter f xs) q ≡ true
  go true is (inl here) later = ap (λ (b : Bool). b || has (filter f xs) q) here
  go true is (inr there) later = or_right (x == q) (has (filter f xs) q) (later there)
  go false is (inl here) later = absurd (both_ways (f x) is (ap f (eqb-true x q here) ∙ e))
  go false is (inr there) later = later there

past_more : (k : ℕ) (p : RecvPast) (es : List RecvEvent) (e : RecvEvent) → past_from k p (es ++ e ∷ []) ≡ past_after k (past_from k p es) e
past_more k p [] e = refl
past_more k p (x ∷ es) e = past_more k (past_after k p x) es e

recv_put : (t : PlainReceiver) (l : ℕ) (lane : RecvLane) → l < length t.lanes → lane_at (with_lane t l lane) l ≡ lane
recv_put t l lane small = ap lane_or_ended (get_set t.lanes l lane small)

-- ---- each outcome

module _ (w : PlainWorld) (l : ℕ) (s : IsSound w) (within : l < length w.pairs) (put : Put) (hands : Hands (pair_at w l).recv put) where
  abbrev r : PlainReceiver
  r = w.receiver

  abbrev n : ℕ
  n = length w.receiver.lanes

  abbrev before : ℕ
  before = recv_low (lane_at w.receiver l) (pair_at w l).recv

  -- less is left to do, or it is paid for; or the lane waits on, and nothing changes
  abbrev pub Lighter : Step → Type 0
  Lighter step =
      ((recv_highs (length w.receiver.lanes) step.1.history ≤ recv_highs (length w.receiver.lanes) w.receiver.history) × (recv_low (lane_at step.1 l) (RecvDoes step.0) < recv_low (lane_at w.receiver l) (pair_at w l).recv))
      ⊎ (((recv_highs (length w.receiver.lanes) step.1.history + 1 ≤ recv_highs (length w.receiver.lanes) w.receiver.history) × (recv_low (lane_at step.1 l) (RecvDoes step.0) < 100))
      ⊎ ((step.0 ≡ acts.Park) × (put ≡ Given inputs.Woken)))

  below : l < length w.receiver.lanes
  below = subst (λ (k : ℕ). l < k) (sym s.talk.recv_lanes) within

  belongs : RecvBelongs (pair_at w l).recv (lane_at w.receiver l) (past_at w.receiver l)
  belongs = s.belongs.recv l within

  writes_in : (pair_at w l).recv ≡ RecvHas inputs.Wrote → receives_writing (state_at w.receiver l) ≡ true
  writes_in is = subst (λ (h : RecvHold). RecvBelongs h (lane_at w.receiver l) (past_at w.receiver l)) is belongs

  -- what the lane had to do
  had : (st : RecvState) (h : RecvHold) → state_at w.receiver l ≡ st → (pair_at w l).recv ≡ h → recv_rank st h ≤ before
  had st h here is =
      let e : recv_rank (state_at w.receiver l) (pair_at w l).recv ≡ recv_rank st h = ap (λ (x : RecvState). recv_rank x (pair_at w l).recv) here ∙ ap (recv_rank st) is in
      omega (arith, e)

  past_is : (h : List RecvEvent) (es : List RecvEvent) (k : ℕ) → h ≡ w.receiver.history ++ es → past_of h k ≡ past_from k (past_at w.receiver k) es
  past_is h es k is = ap (λ (g : List RecvEvent). past_of g k) is ∙ past_of-append w.receiver.history es k

  -- ---- what may be done again

  highs_less : (h es : List RecvEvent) → h ≡ w.receiver.history ++ es → list_any is_taking es ≡ false → recv_highs (length w.receiver.lanes) h ≤ recv_highs (length w.receiver.lanes) w.receiver.history
  highs_less h es is none =
      sum_to_le (length w.receiver.lanes) (λ k. recv_high (length w.receiver.lanes) (past_of h k)) (λ k. recv_high (length w.receiver.lanes) (past_at w.receiver k))
      (λ k small. (let c : recv_high (length w.receiver.lanes) (past_of h k) ≡ recv_high (length w.receiver.lanes) (past_from k (past_at w.receiver k) es) = ap (recv_high (length w.receiver.lanes)) (past_is h es k is) in
      let d = all_high (length w.receiver.lanes) k (past_at w.receiver k) es none in omega (arith, c, d)))

  highs_fall : (h es : List RecvEvent) → h ≡ w.receiver.history ++ es → ((k : ℕ) → recv_high (length w.receiver.lanes) (past_from k (past_at w.receiver k) es) ≤ recv_high (length w.receiver.lanes) (past_at w.receiver k))
      → recv_high (length w.receiver.lanes) (past_from l (past_at w.receiver l) es) + 1 ≤ recv_high (length w.receiver.lanes) (past_at w.receiver l)
      → recv_highs (length w.receiver.lanes) h + 1 ≤ recv_highs (length w.receiver.lanes) w.receiver.history
  highs_fall h es is less strictly =
      let e : (k : ℕ) → recv_high (length w.receiver.lanes) (past_of h k) ≡ recv_high (length w.receiver.lanes) (past_from k (past_at w.receiver k) es) = λ k. ap (recv_high (length w.receiver.lanes)) (past_is h es k is) in
      sum_more (length w.receiver.lanes) l (λ k. recv_high (length w.receiver.lanes) (past_at w.receiver k)) (λ k. recv_high (length w.receiver.lanes) (past_of h k)) 1 below
      (λ k small. (let c = e k in let d = less k in omega (arith, c, d))) (let c = e l in omega (arith, c, strictly))

  quiet : (es : List RecvEvent) → list_any is_taking es ≡ false → (k : ℕ) → recv_high (length w.receiver.lanes) (past_from k (past_at w.receiver k) es) ≤ recv_high (length w.receiver.lanes) (past_at w.receiver k)
  quiet es none k = all_high (length w.receiver.lanes) k (past_at w.receiver k) es none

  -- ---- a step that puts the lane into a state

  set_low : (t : PlainReceiver) (lane : RecvLane) (act : RecvAct) → length t.lanes ≡ length w.receiver.lanes → recv_low (lane_at (with_lane t l lane) l) (RecvDoes act) ≡ recv_low lane (RecvDoes act)
  set_low t lane act many = ap (λ (x : RecvLane). recv_low x (RecvDoes act)) (put_at t lane many) where
    put_at : (t : PlainReceiver) (lane : RecvLane) → length t.lanes ≡ length w.receiver.lanes → lane_at (with_lane t l lane) l ≡ lane
    put_at t lane many = recv_put t l lane (subst (λ (k : ℕ). l < k) (sym many) below)

  -- less is left to do
  falls : (t : PlainReceiver) (es : List RecvEvent) (lane : RecvLane) (act : RecvAct) → length t.lanes ≡ length w.receiver.lanes → t.history ≡ w.receiver.history ++ es → list_any is_taking es ≡ false
      → recv_low lane (RecvDoes act) < before → Lighter (act, with_lane t l lane)
  falls t es lane act many history none less = let e = set_low t lane act many in inl (highs_less t.history es history none, omega (arith, e, less))

  -- or it is paid for
  pays : (t : PlainReceiver) (es : List RecvEvent) (lane : RecvLane) (act : RecvAct) → length t.lanes ≡ length w.receiver.lanes → t.history ≡ w.receiver.history ++ es
      → ((k : ℕ) → recv_high (length w.receiver.lanes) (past_from k (past_at w.receiver k) es) ≤ recv_high (length w.receiver.lanes) (past_at w.receiver k))
      → recv_high (length w.receiver.lanes) (past_from l (past_at w.receiver l) es) + 1 ≤ recv_high (length w.receiver.lanes) (past_at w.receiver l) → recv_low lane (RecvDoes act) < 100 → Lighter (act, with_lane t l lane)
  pays t es lane act many history less strictly few = let e = set_low t lane act many in inr (inl (highs_fall t.history es history less strictly, omega (arith, e, few)))

  nothing : w.receiver.history ≡ w.receiver.history ++ []
  nothing = sym (append-nil w.receiver.history)

  lives : is_ended (state_at w.receiver l) ≡ false
  lives = recv_seen.lives w l s.talk within put hands belongs

  ends : (t : PlainReceiver) (es : List RecvEvent) → length t.lanes ≡ length w.receiver.lanes → t.history ≡ w.receiver.history ++ es → list_any is_taking es ≡ false → Lighter (acts.Stop, goes t l states.Ended)
  ends t es many history none =
      falls t es record (lane_at t l) { state = states.Ended } acts.Stop many history none (let a = rank_some (state_at w.receiver l) (pair_at w l).recv lives writes_in in omega (arith, a))

  warns : (t : PlainReceiver) (es : List RecvEvent) (code : ℕ) → length t.lanes ≡ length w.receiver.lanes → t.history ≡ w.receiver.history ++ es → list_any is_taking es ≡ false → serves_in (state_at w.receiver l) ≡ true
      → Lighter (acts.Write (frames.Abort code), goes t l states.SendAbort)
  warns t es code many history none serves =
      falls t es record (lane_at t l) { state = states.SendAbort } (acts.Write (frames.Abort code)) many history none (let a = rank_high (state_at w.receiver l) (pair_at w l).recv serves writes_in in omega (arith, a))

  -- ---- a lane that asks for the end

  record Asking (t : PlainReceiver) : Type 0 where
    es : List RecvEvent
    history : t.history ≡ w.receiver.history ++ es
    none : list_any is_taking es ≡ false
    closed : (q : ℕ) → (past_from q (past_at w.receiver q) es).is_closed ≡ (past_at w.receiver q).is_closed
    told : (past_from l (past_at w.receiver l) es).told ≡ (past_at w.receiver l).told
    many : length t.lanes ≡ length w.receiver.lanes
    most : 18 ≤ before
    serves : serves_in (state_at w.receiver l) ≡ true

  asks : (t : PlainReceiver) → outcomes.Idles w.receiver (number l) put t → Asking t
  asks t (ByDone serves sized given is) =
      record {
        es = events.Idle (number l) ∷ [];
        history = ap (λ (x : PlainReceiver). x.history) is;
        none = refl;
        closed = λ q. refl;
        told = refl;
        many = ap (λ (x : PlainReceiver). length x.lanes) is ∙ length-set w.receiver.lanes l _;
        most = (let a = had states.ReadNextCmd (RecvHas (inputs.Got frames.Done)) serves.here (holds_input (pair_at w l).recv put (inputs.Got frames.Done) hands given refl) in omega (arith, a));
        serves = ap serves_in serves.here;
      }
  asks t (ByWait serves given is) =
      record {
        es = [];
        history = ap (λ (x : PlainReceiver). x.history) is ∙ nothing;
        none = refl;
        closed = λ q. refl;
        told = refl;
        many = ap (λ (x : PlainReceiver). length x.lanes) is ∙ length-set w.receiver.lanes l _;
        most = (let a = had states.SendWait (RecvHas inputs.Wrote) serves.here (holds_input (pair_at w l).recv put inputs.Wrote hands given refl) in omega (arith, a));
        serves = ap serves_in serves.here;
      }
  asks t (ByWaking serves given is) =
      record {
        es = [];
        history = ap (λ (x : PlainReceiver). x.history) is ∙ nothing;
        none = refl;
        closed = λ q. refl;
        told = refl;
        many = ap (λ (x : PlainReceiver). length x.lanes) is;
        most = (let a = had states.WaitForFinish (RecvDoes acts.Park) serves.here (holds_park (pair_at w l).recv put (lane_at w.receiver l) (past_at w.receiver l) hands given belongs) in omega (arith, a));
        serves = ap serves_in serves.here;
      }

  any_one : (es : List RecvEvent) (e : RecvEvent) → list_any is_taking es ≡ false → is_taking e ≡ false → list_any is_taking (es ++ e ∷ []) ≡ false
  any_one [] e a b = ap (λ (x : Bool). x || false) b
  any_one (x ∷ xs) e a b = go (is_taking x) a (λ y. any_one xs e y b) where
    go : (c : Bool) → (c || list_any is_taking xs) ≡ false → (list_any is_taking xs ≡ false → list_any is_taking (xs ++ e ∷ []) ≡ false) → (c || list_any is_taking (xs ++ e ∷ [])) ≡ false
    go true y more = cc
    go false y more = more y

  longer : (h es : List RecvEvent) (e : RecvEvent) → h ≡ w.receiver.history ++ es → h ++ e ∷ [] ≡ w.receiver.history ++ (es ++ e ∷ [])
  longer h es e is = ap (λ (g : List RecvEvent). g ++ e ∷ []) is ∙ append_assoc w.receiver.history es (e ∷ [])

  -- the last word is due
  last : (t : PlainReceiver) (es : List RecvEvent) → length t.lanes ≡ length w.receiver.lanes → t.history ≡ w.receiver.history ++ es → list_any is_taking es ≡ false → 18 ≤ before → Lighter (says_done t (number l))
  last t es many history none most = falls t es record (lane_at t l) { state = states.SendDone } (acts.Write frames.Done) many history none (omega (arith, most))

  logged_many : (t : PlainReceiver) (bs : List Block) → length (all_logged_by t bs).lanes ≡ length t.lanes
  logged_many t [] = refl
  logged_many t (b ∷ bs) = refl

  concludes : (t : PlainReceiver) → outcomes.Concludes w.receiver (number l) put t → Lighter (says_done t (number l))
  concludes t (WasFinished u idles come) = let a = asks u idles in last u a.es a.many a.history a.none a.most
  concludes t (IsFinished u fin none) =
      let a = asks u fin.idles in
      last (noted (all_logged_by u u.unlogged) (events.Finish ∷ [])) (a.es ++ events.Finish ∷ []) (logged_many u u.unlogged ∙ a.many)
      (longer (all_logged_by u u.unlogged).history a.es events.Finish (logged_history u u.unlogged ∙ a.history)) (any_one a.es events.Finish a.none refl) a.most

  -- ---- a failure

  failing : (t : PlainReceiver) (answer : EndAnswer) (mute : Bool) → outcomes.Fails w.receiver (number l) put t answer mute → Lighter (came_to w.receiver (number l) (Failed t answer mute))
  failing t answer mute (OfMemory m going given here is) = recv_seen.hands_not w l s.talk within put hands belongs inputs.Starved given refl (λ b. b)
  failing t answer mute (OfSender st code serves reads given) = ends (failed (noted w.receiver (events.Abort (number l) code ∷ [])) (answers.Aborted code)) (events.Abort (number l) code ∷ []) refl refl refl
  failing t answer mute (OfPeer st kind serves reads mistake) =
      warns (failed (noted w.receiver (events.Peer (number l) kind ∷ [])) (answers.Peer kind)) (events.Peer (number l) kind ∷ []) _ refl refl refl (ap serves_in serves.here ∙ reads_in st reads)
  failing t answer mute (OfShort u kind finishes short) =
      let a = asks u finishes.idles in
      warns (failed (noted (record (all_logged_by u u.unlogged) { history = w.receiver.history }) (events.Peer (number l) kind ∷ [])) (answers.Peer kind)) (events.Peer (number l) kind ∷ []) _ (logged_many u u.unlogged ∙ a.many) refl refl a.serves
  failing t answer mute (OfMake h serves sized given fault new) = warns (failed w.receiver answers.Disk) [] _ refl nothing refl (ap serves_in serves.here)
  failing t answer mute (OfWrite bytes b serves given begun) = warns (failed w.receiver answers.Disk) [] _ refl nothing refl (ap serves_in serves.here)
  failing t answer mute (OfLog b lands full) =
      warns (failed (landed_by w.receiver (number l) b) answers.Disk) (events.Land (number l) ∷ []) _ (length-set w.receiver.lanes l _) refl refl (ap serves_in lands.serves.here)
  failing t answer mute (OfFinish u finishes) = let a = asks u finishes.idles in warns (failed u answers.Disk) a.es _ a.many a.history a.none a.serves

  -- ---- a lane that has no connection

  record Off (t : PlainReceiver) : Type 0 where
    es : List RecvEvent
    history : t.history ≡ w.receiver.history ++ es
    none : list_any is_taking es ≡ false
    many : length t.lanes ≡ length w.receiver.lanes

  off : (t : PlainReceiver) → outcomes.Listens w.receiver (number l) put t → Off t
  off t (AtFirst serves given) = recv_seen.hands_not w l s.talk within put hands belongs inputs.Start given refl (λ b. b)
  off t (ByNoLink serves given) = record { es = events.NoLink (number l) ∷ []; history = refl; none = refl; many = refl }
  off t (ByLoss st serves linked given) = record { es = events.Dropped (number l) ∷ []; history = refl; none = refl; many = length-set w.receiver.lanes l _ }

  quits : (t : PlainReceiver) (come : Bool) → Off t → Lighter (acts.Stop, goes (noted t (given_up (number l) come ∷ [])) l states.Ended)
  quits t true o = ends (noted t (events.Quit (number l) ∷ [])) (o.es ++ events.Quit (number l) ∷ []) o.many (longer t.history o.es (events.Quit (number l)) o.history) (any_one o.es (events.Quit (number l)) o.none refl)
  quits t false o = ends (noted t (events.Close (number l) ∷ [])) (o.es ++ events.Close (number l) ∷ []) o.many (longer t.history o.es (events.Close (number l)) o.history) (any_one o.es (events.Close (number l)) o.none refl)

  listens : (t : PlainReceiver) → outcomes.Listens w.receiver (number l) put t → Lighter (came_to w.receiver (number l) (Listened t))
  listens t (AtFirst serves given) = recv_seen.hands_not w l s.talk within put hands belongs inputs.Start given refl (λ b. b)
  listens t (ByNoLink serves given) =
      pays (noted w.receiver (events.NoLink (number l) ∷ [])) (events.NoLink (number l) ∷ []) record (lane_at w.receiver l) { state = states.Listen } acts.Accept refl refl (quiet (events.NoLink (number l) ∷ []) refl)
      (tried_pays (length w.receiver.lanes) (past_at w.receiver l) (number l) (recv_fares w l states.Listen s.talk within serves.here).tries) (omega arith)
  listens t (ByLoss st serves linked given) = elim (lost_in st linked) [
    | inl here ↦ absurd (both_ways (is_failure w.receiver.answer) serves.sound (recv_fares w l states.SendAbort s.talk within (serves.here ∙ here)).failed)
    | inr at ↦
        falls (drops_lane w.receiver (number l)) (events.Dropped (number l) ∷ []) record (lane_at (drops_lane w.receiver (number l)) l) { state = states.Listen } acts.Accept (length-set w.receiver.lanes l _) refl refl
        (let a = had st (RecvHas inputs.Lost) serves.here (holds_input (pair_at w l).recv put inputs.Lost hands given refl) in omega (arith, a, lost_rank st at))
  ]

  links : outcomes.Serves w.receiver (number l) states.Listen → Lighter (came_to w.receiver (number l) Linked)
  links serves =
      let few : (k : ℕ) → l ≡ k → (past_at w.receiver k).takes < MAX_CONNECTIONS = λ k same. subst (λ (i : ℕ). (past_at w.receiver i).takes < MAX_CONNECTIONS) same (recv_fares w l states.Listen s.talk within serves.here).takes in
      let e : RecvEvent = events.Take (number l) (next_take w.receiver (number l)) in
      pays (noted w.receiver (e ∷ [])) (e ∷ []) record (lane_at w.receiver l) { state = states.ReadSettings; is_sized = false; has_waited = false } acts.Read refl refl
      (λ k. (taken_pays (length w.receiver.lanes) k (past_at w.receiver k) (number l) (next_take w.receiver (number l)) (few k)).0)
      ((taken_pays (length w.receiver.lanes) l (past_at w.receiver l) (number l) (next_take w.receiver (number l)) (few l)).1 refl) (omega arith)

  -- ---- the others

  meets_so : (x : Settings) (known come : Bool) → 62 ≤ before → Lighter (greets_by (met_by w.receiver (number l) x known) (number l) x come)
  meets_so x true true most = falls w.receiver [] record (lane_at w.receiver l) { state = states.SendDone; ask = x.ask; conn = x.conn.0 } (acts.Write frames.Done) refl nothing refl (omega (arith, most))
  meets_so x true false most = falls w.receiver [] record (lane_at w.receiver l) { state = states.SendLocalCheckpoint; ask = x.ask; conn = x.conn.0 } _ refl nothing refl (omega (arith, most))
  meets_so x false true most =
      falls (noted w.receiver (events.Met (number l) x ∷ [])) (events.Met (number l) x ∷ []) record (lane_at w.receiver l) { state = states.SendDone; ask = x.ask; conn = x.conn.0 } (acts.Write frames.Done) refl refl refl (omega (arith, most))
  meets_so x false false most =
      falls (noted w.receiver (events.Met (number l) x ∷ [])) (events.Met (number l) x ∷ []) record (lane_at w.receiver l) { state = states.SendLocalCheckpoint; ask = x.ask; conn = x.conn.0 } _ refl refl refl (omega (arith, most))

  reads_on : (t : PlainReceiver) (es : List RecvEvent) → length t.lanes ≡ length w.receiver.lanes → t.history ≡ w.receiver.history ++ es → list_any is_taking es ≡ false → 43 ≤ before → Lighter (came_to w.receiver (number l) (ReadOn t))
  reads_on t es many history none most = falls t es record (lane_at t l) { state = states.ReadNextCmd } acts.Read many history none (omega (arith, most))

  took : outcomes.Serves w.receiver (number l) states.TakeBlock → (bytes : List ℕ) → put ≡ Bytes bytes → 45 ≤ before
  took serves bytes given =
      let x = holds_piece (pair_at w l).recv put bytes hands given in
      let a = had states.TakeBlock (RecvTook x.0) serves.here x.1 in omega (arith, a)

  wrote : (st : RecvState) → outcomes.Serves w.receiver (number l) st → put ≡ Given inputs.Wrote → recv_rank st (RecvHas inputs.Wrote) ≤ before
  wrote st serves given = had st (RecvHas inputs.Wrote) serves.here (holds_input (pair_at w l).recv put inputs.Wrote hands given refl)

  reads_so : (t : PlainReceiver) → outcomes.ReadsOn w.receiver (number l) put t → Lighter (came_to w.receiver (number l) (ReadOn t))
  reads_so t (ByGreeting serves given asks) = reads_on w.receiver [] refl nothing refl (let a = wrote states.SendLocalCheckpoint serves given in omega (arith, a))
  reads_so t (ByChunks serves given) = reads_on w.receiver [] refl nothing refl (let a = wrote states.SendFileChunks serves given in omega (arith, a))
  reads_so t (ByMarks serves given) = reads_on w.receiver [] refl nothing refl (let a = wrote states.SendGlobalCheckpoint serves given in omega (arith, a))
  reads_so t (ByLanding b lands few) =
      reads_on (landed_by w.receiver (number l) b) (events.Land (number l) ∷ []) (length-set w.receiver.lanes l _) refl refl (let a = took lands.serves lands.bytes lands.handed in omega (arith, a))
  reads_so t (ByLogging b lands full) =
      let u : PlainReceiver = landed_by w.receiver (number l) b in
      reads_on (all_logged_by u u.unlogged) (events.Land (number l) ∷ []) (logged_many u u.unlogged ∙ length-set w.receiver.lanes l _) (logged_history u u.unlogged) refl (let a = took lands.serves lands.bytes lands.handed in omega (arith, a))

  -- a frame that the lane read in its place
  read : (st : RecvState) (f : Frame) → outcomes.Serves w.receiver (number l) st → put ≡ Given (inputs.Got f) → recv_rank st (RecvHas (inputs.Got f)) ≤ before
  read st f serves given = had st (RecvHas (inputs.Got f)) serves.here (holds_input (pair_at w l).recv put (inputs.Got f) hands given refl)

  begins_so : (t : PlainReceiver) (b : Block) (left : ℕ) → length t.lanes ≡ length w.receiver.lanes → t.history ≡ w.receiver.history → 44 ≤ before → Lighter (begins_by t (number l) b left)
  begins_so t b zero many history most =
      falls (lands (noted t (events.Begin (number l) b ∷ [])) (number l) b) (events.Begin (number l) b ∷ events.Land (number l) ∷ []) record (lane_at t l) { state = states.ReadNextCmd } acts.Read many
      (ap (λ (g : List RecvEvent). (g ++ events.Begin (number l) b ∷ []) ++ events.Land (number l) ∷ []) history ∙ append_assoc w.receiver.history (events.Begin (number l) b ∷ []) (events.Land (number l) ∷ [])) refl (omega (arith, most))
  begins_so t b (suc left) many history most =
      falls (noted t (events.Begin (number l) b ∷ [])) (events.Begin (number l) b ∷ []) record (lane_at t l) { state = states.TakeBlock; left = suc left } (acts.TakePiece _) many
      (ap (λ (g : List RecvEvent). g ++ events.Begin (number l) b ∷ []) history) refl (omega (arith, most))

  begins : (t : PlainReceiver) (b : Block) → outcomes.Begins w.receiver (number l) put t b → Lighter (came_to w.receiver (number l) (Begun t b))
  begins t b (OfKnown h serves sized given fault old) = begins_so t b b.length refl refl (let a = read states.ReadNextCmd (frames.Block h) serves given in omega (arith, a))
  begins t b (OfNew h serves sized given fault new) = begins_so t b b.length refl refl (let a = read states.ReadNextCmd (frames.Block h) serves given in omega (arith, a))

  sized : (t : PlainReceiver) (es : List RecvEvent) → length t.lanes ≡ length w.receiver.lanes → t.history ≡ w.receiver.history ++ es → list_any is_taking es ≡ false → 44 ≤ before
      → state_at w.receiver l ≡ states.ReadNextCmd → Lighter (reads (with_lane t l record (lane_at w.receiver l) { is_sized = true }))
  sized t es many history none most here =
      let e : recv_low record (lane_at w.receiver l) { is_sized = true } (RecvDoes acts.Read) ≡ 42 =
      ap (λ (x : RecvState). recv_low record (lane_at w.receiver l) { state = x; is_sized = true } (RecvDoes acts.Read)) here in
      falls t es record (lane_at w.receiver l) { is_sized = true } acts.Read many history none (omega (arith, most, e))

  sizes_so : (files bytes : ℕ) (known : Bool) → 44 ≤ before → state_at w.receiver l ≡ states.ReadNextCmd → Lighter (reads (with_lane (sized_by w.receiver (number l) files bytes known) l record (lane_at w.receiver l) { is_sized = true }))
  sizes_so files bytes true most here = sized w.receiver [] refl nothing refl most here
  sizes_so files bytes false most here = sized (noted w.receiver (events.Sized (number l) files bytes ∷ [])) (events.Sized (number l) files bytes ∷ []) refl refl refl most here

  -- ---- closed lanes

  tells : (t : PlainReceiver) (q : ℕ) (qs : List ℕ) → outcomes.IsIdle w.receiver (number l) put t (q ∷ qs) → Lighter (came_to w.receiver (number l) (Told t q qs))
  tells t q qs idle =
      let a = asks t idle.idles in
      let e : RecvEvent = events.Told (number l) (set_of (q ∷ qs)) in
      let first : is_untold t.history l q ≡ true = in_filter (is_untold t.history l) _ q (ap (λ (xs : List ℕ). has xs q) idle.told ∙ ap (λ (b : Bool). b || has qs q) (eq-eqb q q refl)) in
      let parts = and_parts (is_closed t.history q && not (is_confirmed t.history q)) (not (has (past_of t.history l).told q)) first in
      let shut : (past_at w.receiver q).is_closed ≡ true = sym (a.closed q) ∙ (ap (λ (p : RecvPast). p.is_closed) (sym (past_is t.history a.es q a.history)) ∙ (and_parts (is_closed t.history q) (not (is_confirmed t.history q)) parts.0).0) in
      let small : q < length w.receiver.lanes = closed_there w.receiver q s.talk.receiver shut in
      let old : has (past_from l (past_at w.receiver l) a.es).told q ≡ false = ap (λ (p : RecvPast). has p.told q) (sym (past_is t.history a.es l a.history)) ∙ untrue (has (past_of t.history l).told q) parts.1 in
      let few : q < 16 = (let x = s.talk.receiver.few in omega (arith, small, x)) in
      let new : has (lanes_of (set_of (q ∷ qs))) q ≡ true = has_filter (has_lane (set_of (q ∷ qs))) (numbers 16) q (has_set (q ∷ qs) q ∙ ap (λ (b : Bool). b || has qs q) (eq-eqb q q refl)) (in_numbers 16 q few) in
      let more : (k : ℕ) → past_from k (past_at w.receiver k) (a.es ++ e ∷ []) ≡ past_after k (past_from k (past_at w.receiver k) a.es) e = λ k. past_more k (past_at w.receiver k) a.es e in
      pays (noted t (e ∷ [])) (a.es ++ e ∷ []) record (lane_at t l) { state = states.SendGlobalCheckpoint } _ a.many (longer t.history a.es e a.history) (quiet (a.es ++ e ∷ []) (any_one a.es e a.none refl))
      (let c : recv_high (length w.receiver.lanes) (past_from l (past_at w.receiver l) (a.es ++ e ∷ [])) ≡ recv_high (length w.receiver.lanes) (past_after l (past_from l (past_at w.receiver l) a.es) e) = ap (recv_high (length w.receiver.lanes)) (more l) in
      let d = told_pays (length w.receiver.lanes) (past_from l (past_at w.receiver l) a.es) (number l) (set_of (q ∷ qs)) q small old new in
      let f = quiet a.es a.none l in
      omega (arith, c, d, f)) (omega arith) where
        untrue : (b : Bool) → not b ≡ true → b ≡ false
        untrue true x = cc
        untrue false x = refl

  -- ---- a lane that waits

  waits : (t : PlainReceiver) (again : Bool) → outcomes.Idles w.receiver (number l) put t → (lane_at t l).has_waited ≡ again → Lighter (came_to w.receiver (number l) (Waited t again))
  waits t true idles waited = go idles where
    a : Asking t
    a = asks t idles

    parked : wait_rank record (lane_at t l) { state = states.WaitForFinish } ≡ 0
    parked = ap (λ (b : Bool). wait_rank record (lane_at t l) { state = states.WaitForFinish; has_waited = b }) waited

    parks : 19 ≤ before → Lighter (came_to w.receiver (number l) (Waited t true))
    parks most = falls t a.es record (lane_at t l) { state = states.WaitForFinish } acts.Park a.many a.history a.none (omega (arith, most, parked))

    go : outcomes.Idles w.receiver (number l) put t → Lighter (came_to w.receiver (number l) (Waited t true))
    go (ByDone serves sized given is) = parks (let b = read states.ReadNextCmd frames.Done serves given in omega (arith, b))
    go (ByWait serves given is) = parks (let b = wrote states.SendWait serves given in omega (arith, b))
    go (ByWaking serves given is) = inr (inr (refl, given))
  waits t false idles waited = go idles where
    a : Asking t
    a = asks t idles

    tells_so : 25 ≤ before → Lighter (came_to w.receiver (number l) (Waited t false))
    tells_so most = falls t a.es record (lane_at t l) { state = states.SendWait } (acts.Write frames.Wait) a.many a.history a.none (omega (arith, most))

    go : outcomes.Idles w.receiver (number l) put t → Lighter (came_to w.receiver (number l) (Waited t false))
    go (ByDone serves sized given is) = tells_so (let b = read states.ReadNextCmd frames.Done serves given in omega (arith, b))
    go (ByWait serves given is) =
        let here : lane_at t l ≡ record (lane_at w.receiver l) { has_waited = true } = ap (λ (x : PlainReceiver). lane_at x l) is ∙ recv_put w.receiver l record (lane_at w.receiver l) { has_waited = true } below in
        absurd (both_ways (lane_at t l).has_waited waited (ap (λ (x : RecvLane). x.has_waited) here))
    go (ByWaking serves given is) =
        let held = holds_park (pair_at w l).recv put (lane_at w.receiver l) (past_at w.receiver l) hands given belongs in
        let rank : recv_rank (state_at w.receiver l) (pair_at w l).recv ≡ 18 = ap (λ (x : RecvState). recv_rank x (pair_at w l).recv) serves.here ∙ ap (recv_rank states.WaitForFinish) held in
        let more : wait_rank (lane_at w.receiver l) ≡ 8 =
        ap (λ (x : RecvState). wait_rank record (lane_at w.receiver l) { state = x }) serves.here
        ∙ ap (λ (b : Bool). wait_rank record (lane_at w.receiver l) { state = states.WaitForFinish; has_waited = b }) (ap (λ (x : PlainReceiver). (lane_at x l).has_waited) (sym is) ∙ waited) in
        tells_so (omega (arith, rank, more))

  pub outcome_lighter : (o : Outcome) → ComesOf w.receiver (number l) put o → Lighter (came_to w.receiver (number l) o)
  outcome_lighter Rested of = recv_seen.rested w l s.talk within put hands belongs of
  outcome_lighter Left of = ends w.receiver [] refl nothing refl
  outcome_lighter Warned of = warns w.receiver [] _ refl nothing refl (voice put of.1.voice) where
    voice : (p : Put) → is_mute (row_at w.receiver (number l) p) ≡ false → serves_in (state_at w.receiver l) ≡ true
    voice (Given i) e = voice_of (lane_at w.receiver l).is_sized (state_at w.receiver l) i e
    voice (Bytes bytes) e = voice_bytes (state_at w.receiver l) bytes e
  outcome_lighter (Failed t answer mute) of = failing t answer mute of
  outcome_lighter (GivenUp t) of = quits t (has_finish t) (off t of.0)
  outcome_lighter (Listened t) of = listens t of.0
  outcome_lighter Linked of = links of.0
  outcome_lighter (Greeted x) of = meets_so x (is_some (end_of w.receiver.history).met) (has_finish w.receiver) (let a = read states.ReadSettings (frames.Settings x) of.0 of.1 in omega (arith, a))
  outcome_lighter Listed of =
      falls w.receiver [] record (lane_at w.receiver l) { state = states.SendFileChunks } _ refl nothing refl (let a = wrote states.SendLocalCheckpoint of.0 of.1 in omega (arith, a))
  outcome_lighter (ReadOn t) of = reads_so t of
  outcome_lighter (Sized files bytes) of = sizes_so files bytes (is_some (end_of w.receiver.history).sized) (let a = read states.ReadNextCmd (frames.Size files bytes) of.0 of.2 in omega (arith, a)) of.0.here
  outcome_lighter (Begun t b) of = begins t b of
  outcome_lighter (Taken left) of =
      falls w.receiver [] record (lane_at w.receiver l) { state = states.TakeBlock; left = left } (acts.TakePiece _) refl nothing refl (let a = took of.serves of.bytes of.handed in omega (arith, a))
  outcome_lighter (Concluded t) of = concludes t of
  outcome_lighter (Told t q qs) of = tells t q qs of
  outcome_lighter (Waited t again) of = waits t again of.0.idles of.1
  outcome_lighter Ended of = falls w.receiver [] record (lane_at w.receiver l) { state = states.ReadAck } acts.Read refl nothing refl (let a = wrote states.SendDone of.0 of.1 in omega (arith, a))
  outcome_lighter Acknowledged of =
      ends (noted w.receiver (events.Acked (number l) ∷ [])) (events.Acked (number l) ∷ []) refl refl refl
