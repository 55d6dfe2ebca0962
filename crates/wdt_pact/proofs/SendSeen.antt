-- What the lanes together see of a step of the sender's lane: whether it talks on, which lanes it knows as closed, which
-- blocks wait, and whether it is about to say that nothing more is to come.
use Rattle.std.proofs.Common.{◌≡◌, inl, inr, ℕ, ◌<◌, Bool, true, false, if◌then◌else◌, List, [], ◌∷◌, ◌++◌, length, Option, Some, None, is_some, subst, sym, ap, ◌∙◌, refl, arith, append-nil, eq-eqb}
use Rattle.std.proofs.lemmas.Bool.{both_ways, cases_eq, ne_eqb}
use Rattle.std.proofs.lemmas.List.{length-map, length-set, take_all}
use Rattle.wdt_units.specs.declared.blocks.Block.{Block}
use Rattle.wdt_units.specs.declared.blocks.Header.{Header}
use Rattle.wdt_units.specs.declared.numbers.Conn.{Conn}
use Rattle.wdt_units.specs.declared.numbers.Lane.{Lane}
use Rattle.wdt_claims.specs.LaneWords.{cut_to}
use Rattle.wdt_codec.specs.declared.frames.Frame.{Frame}
use Rattle.wdt_codec.specs.declared.frames.Frame.TheVariants as frames
use Rattle.wdt_codec.specs.declared.frames.Mark.{Mark}
use Rattle.wdt_codec.specs.declared.frames.Settings.{Settings}
use Rattle.wdt_sender_fsm.specs.declared.acts.SendAct.{SendAct}
use Rattle.wdt_sender_fsm.specs.declared.acts.SendAct.TheVariants as acts
use Rattle.wdt_sender_fsm.specs.declared.answers.EndAnswer.{EndAnswer}
use Rattle.wdt_sender_fsm.specs.declared.answers.EndAnswer.TheVariants as answers
use Rattle.wdt_sender_fsm.specs.declared.events.SendEvent.{SendEvent}
use Rattle.wdt_sender_fsm.specs.declared.events.SendEvent.TheVariants as events
use Rattle.wdt_sender_fsm.specs.declared.inputs.SendIn.{SendIn}
use Rattle.wdt_sender_fsm.specs.declared.inputs.SendIn.TheVariants as inputs
use Rattle.wdt_sender_fsm.specs.declared.states.SendLane.{SendLane}
use Rattle.wdt_sender_fsm.specs.declared.states.SendState.{SendState}
use Rattle.wdt_sender_fsm.specs.declared.states.SendState.TheVariants as states
use Rattle.wdt_sender_fsm.specs.Outcomes.{Outcome, Rested, Waited, Left, Warned, Failed, GivenUp, Redialed, Introduced, Presented, Greeted, Listed, Planned, Claimed, Emptied, Concluded, Finished, Acknowledged, came_to}
use Rattle.wdt_sender_fsm.specs.Phases.{Listing, Told, Sending as SendingPhase, over_if}
use Rattle.wdt_sender_fsm.specs.Places.{least_of, queued}
use Rattle.wdt_sender_fsm.specs.PlainSender.{PlainSender, blocks_of, failed, goes, header_of, is_closed, is_ended, lane_at, least_queued, listed_blocks, noted, past_at, size_of_tree, state_at, waiting_blocks, with_lane}
use Rattle.wdt_sender_fsm.specs.Reasons as reasons
use Rattle.wdt_sender_fsm.specs.Reasons.{Comes, ComesOf, WasOver, WasStray, WasSettled}
use Rattle.wdt_sender_fsm.specs.Reasons.{OfMemory, OfReceiver, OfSource, OfPlan, OfPeer, AtFirst, ByNoLink, ByLoss, BySize, ByBlock, ByMarks, Behind, AtOnce}
use Rattle.wdt_sender_fsm.specs.Rows.{is_allowed}
use Rattle.wdt_sender_fsm.specs.SenderHistory.{LanePast, past_after, past_from, past_of}
use Rattle.wdt_sender_fsm.specs.Turn.{Step, globals, greeted_by, next_conn, send_turn, with_plan}
use Rattle.wdt_pact.specs.Belongs.{SendBelongs}
use Rattle.wdt_pact.specs.Conversation.{Conversation, common, receiving, send_in_hand, sending, sent_header}
use Rattle.wdt_pact.specs.Finishing.{marked_in, says_done, sends_at}
use Rattle.wdt_pact.specs.Links.{Link}
use Rattle.wdt_pact.specs.Pairs.{SendHold, SendDoes, SendHas}
use Rattle.wdt_pact.specs.Stances.{IsTalking, send_stance, stand}
use Rattle.wdt_pact.specs.World.{PlainWorld, number, pair_at}
use Rattle.wdt_pact.proofs.Busy.{sending_early, told_early}
use Rattle.wdt_pact.proofs.Rows.{past_of-append, row_at}
use Rattle.wdt_pact.proofs.SendAll.{has_row}
use Rattle.wdt_pact.proofs.SendFrees.{IsFree, past_from-append, same_waiting}
use Rattle.wdt_pact.proofs.SendLaw.{put_is}
use Rattle.wdt_pact.proofs.SendMarks.{claim_closed, empty_sum, marks_close, none_least, none_of, none_some, or_none}
use Rattle.wdt_pact.proofs.SendMoves.{has_lives, splits_all}
use Rattle.wdt_pact.proofs.SendPoints.{free_block, free_marks, free_size}
use Rattle.wdt_pact.proofs.SendSteps.{lane_acked}
pub use Rattle.wdt_pact.proofs.SendSight.{Empties, Frees, Hushes, KnowsMarks, NoWord, Seen, SendsOn, Talks-on, stands_behind}

-- ---- each outcome

module _ (comes : (s : PlainSender) (k : Lane) (i : SendIn) → Comes s k i (send_turn s k i)) (w : PlainWorld) (l : ℕ) (input : SendIn) (c : Conversation w)
    (empty : (common w.receiver).finish ≡ true → waiting_blocks w.sender ≡ []) (planned : (common w.receiver).finish ≡ true → is_some w.sender.have ≡ true)
    (within : l < length w.pairs) (holds : (pair_at w l).send ≡ SendHas input) (belongs : SendBelongs (SendHas input) (lane_at w.sender l)) where
  abbrev Sees : Step → Type 0
  Sees step = Seen w l input step

  below : l < length w.sender.lanes
  below = subst (λ (n : ℕ). l < n) (sym c.send_lanes) within

  lives : is_ended (state_at w.sender l) ≡ false
  lives = has_lives input (lane_at w.sender l) belongs

  acked : (past_at w.sender l).is_acked ≡ false
  acked = lane_acked w l c within lives

  pub hands_not : {P : Type 0} (i : SendIn) → input ≡ i → (SendBelongs (SendHas i) (lane_at w.sender l) → ⊥) → P
  hands_not {P} i is none = absurd (none (subst (λ (x : SendIn). SendBelongs (SendHas x) (lane_at w.sender l)) is belongs))

  pub rested : {P : Type 0} → reasons.Rests w.sender (number l) input → P
  rested (WasOver here) = absurd (both_ways (is_ended (state_at w.sender l)) lives (ap is_ended here))
  rested (WasStray st serves stray) =
      absurd
      (both_ways (is_allowed st input) stray (ap (λ (x : SendState). is_allowed x input) (sym serves.here) ∙ has_row input (lane_at w.sender l) belongs))
  rested (WasSettled st serves up given answer) = hands_not inputs.Starved given (λ b. b)

  -- the lane talks with what it holds
  talked : (st : SendState) (i : SendIn) → state_at w.sender l ≡ st → input ≡ i
      → IsTalking (send_stance record { state = st; ask = (lane_at w.sender l).ask } (past_at w.sender l).is_acked (SendHas i)) → IsTalking (sends_at w l)
  talked st i here given t =
      subst (λ (h : SendHold). IsTalking (send_stance (lane_at w.sender l) (past_at w.sender l).is_acked h)) (sym (holds ∙ ap SendHas given))
      (subst (λ (x : SendState). IsTalking (send_stance record { state = x; ask = (lane_at w.sender l).ask } (past_at w.sender l).is_acked (SendHas i))) (sym here) t)

  -- it handed in no marks
  unmarked : (i : SendIn) → input ≡ i → ((q : ℕ) → marked_in q (send_in_hand (SendHas i)) ≡ false) → (q : ℕ)
      → marked_in q (send_in_hand (SendHas input)) ≡ true → ⊥
  unmarked i given none q m =
      both_ways (marked_in q (send_in_hand (SendHas i))) (none q) (ap (λ (x : SendIn). marked_in q (send_in_hand (SendHas x))) (sym given) ∙ m)

  pub open_none : is_closed w.sender l ≡ false → (past_at w.sender l).claims.closed ≡ None
  open_none e = none_of (past_at w.sender l).claims.closed e

  -- ---- how the lane stands behind

  stance_put : (t : PlainSender) (st : SendState) (act : SendAct) → l < length t.lanes
      → stands_behind l (act, goes t (number l) st) ≡ send_stance record { state = st; ask = (lane_at t l).ask } (past_at t l).is_acked (SendDoes act)
  stance_put t st act small =
      ap (λ (x : SendLane). send_stance x (past_at t l).is_acked (SendDoes act)) (put_is t l record { state = st; ask = (lane_at t l).ask } small)

  acked_behind : (es : List SendEvent) → (past_from l (past_at w.sender l) es).is_acked ≡ (past_at w.sender l).is_acked
      → (past_of (w.sender.history ++ es) l).is_acked ≡ false
  acked_behind es same = ap (λ (p : LanePast). p.is_acked) (past_of-append w.sender.history es l) ∙ (same ∙ acked)

  -- it ends
  ends_quiet : (t : PlainSender) → l < length t.lanes → (past_at t l).is_acked ≡ false
      → IsTalking (stands_behind l (acts.Stop, goes t (number l) states.Ended)) → ⊥
  ends_quiet t small none talks = subst IsTalking (stance_put t states.Ended acts.Stop small ∙ ap (λ (b : Bool). stand false (over_if b)) none) talks

  -- it tells of the failure
  warns_quiet : (t : PlainSender) (f : Frame) → l < length t.lanes → IsTalking (stands_behind l (acts.Write f, goes t (number l) states.SendAbort)) → ⊥
  warns_quiet t f small talks = subst IsTalking (stance_put t states.SendAbort (acts.Write f) small) talks

  -- it dials
  dials_quiet : (t : PlainSender) (act : SendAct) → l < length t.lanes
      → IsTalking (stands_behind l (acts.Dial (next_conn t (number l)), goes t (number l) states.Connect)) → ⊥
  dials_quiet t act small talks = subst IsTalking (stance_put t states.Connect (acts.Dial (next_conn t (number l))) small) talks

  -- ---- which blocks wait behind

  waits_put : (t : PlainSender) (lane : SendLane) → waiting_blocks (with_lane t (number l) lane) ≡ waiting_blocks t
  waits_put t lane = ap (λ (n : ℕ). queued n (blocks_of t) t.history) (length-set t.lanes l lane)

  waits_noted : (es : List SendEvent)
      → ((k : ℕ) → k < length w.pairs → (past_from k (past_at w.sender k) es).claims.kept ≡ (past_at w.sender k).claims.kept)
      → waiting_blocks (noted w.sender es) ≡ waiting_blocks w.sender
  waits_noted es same =
      same_waiting (length w.sender.lanes) (blocks_of w.sender) (w.sender.history ++ es) w.sender.history
      (λ k small. ap (λ (p : LanePast). p.claims.kept) (past_of-append w.sender.history es k) ∙ same k (subst (λ (n : ℕ). k < n) c.send_lanes small))

  -- ---- the outcomes behind which it doesn't talk

  stop_word : (newest : Option Link) → says_done newest (SendDoes acts.Stop) ≡ false
  stop_word None = refl
  stop_word (Some k) = refl

  abort_word : (code : ℕ) (newest : Option Link) → says_done newest (SendDoes (acts.Write (frames.Abort code))) ≡ false
  abort_word code None = refl
  abort_word code (Some k) = refl

  -- it ends behind these entries
  leaves_seen : (t : PlainSender) (es : List SendEvent) → t.lanes ≡ w.sender.lanes → t.planned ≡ w.sender.planned → t.history ≡ w.sender.history ++ es
      → (past_from l (past_at w.sender l) es).is_acked ≡ (past_at w.sender l).is_acked
      → ((k : ℕ) → k < length w.pairs → (past_from k (past_at w.sender k) es).claims.kept ≡ (past_at w.sender k).claims.kept)
      → (st : SendState) (act : SendAct) → (IsTalking (stands_behind l (act, goes t (number l) st)) → ⊥) →
      ((newest : Option Link) → says_done newest (SendDoes act) ≡ false) → Sees (act, goes t (number l) st)
  leaves_seen t es lanes plan history same kept st act quiet word =
      Hushes quiet
      (waits_put t record { state = st; ask = (lane_at t l).ask }
      ∙ (ap (λ (n : ℕ). queued n (blocks_of t) t.history) (ap length lanes)
      ∙ (ap (λ (g : List SendEvent). queued (length w.sender.lanes) (blocks_of t) g) history
      ∙ (ap (λ (o : Option (List Block)). queued (length w.sender.lanes) (listed_blocks o) (w.sender.history ++ es)) plan
      ∙ waits_noted es kept))))
      word

  -- other acts that are no last word
  read_word : (newest : Option Link) → says_done newest (SendDoes acts.Read) ≡ false
  read_word None = refl
  read_word (Some k) = refl

  -- it ends, and its end fails with it, or failed before
  ends_seen : (t : PlainSender) (es : List SendEvent) → t.lanes ≡ w.sender.lanes → t.planned ≡ w.sender.planned → t.history ≡ w.sender.history ++ es
      → (past_from l (past_at w.sender l) es).is_acked ≡ (past_at w.sender l).is_acked
      → ((k : ℕ) → k < length w.pairs → (past_from k (past_at w.sender k) es).claims.kept ≡ (past_at w.sender k).claims.kept)
      → Sees (acts.Stop, goes t (number l) states.Ended)
  ends_seen t es lanes plan history same kept =
      leaves_seen t es lanes plan history same kept states.Ended acts.Stop
      (ends_quiet t (subst (λ (xs : List SendLane). l < length xs) (sym lanes) below) (ap (λ (g : List SendEvent). (past_of g l).is_acked) history ∙ acked_behind es same)) stop_word

  -- it tells of it
  warns_seen : (t : PlainSender) (es : List SendEvent) (code : ℕ) → t.lanes ≡ w.sender.lanes → t.planned ≡ w.sender.planned
      → t.history ≡ w.sender.history ++ es → (past_from l (past_at w.sender l) es).is_acked ≡ (past_at w.sender l).is_acked
      → ((k : ℕ) → k < length w.pairs → (past_from k (past_at w.sender k) es).claims.kept ≡ (past_at w.sender k).claims.kept)
      → Sees (acts.Write (frames.Abort code), goes t (number l) states.SendAbort)
  warns_seen t es code lanes plan history same kept =
      leaves_seen t es lanes plan history same kept states.SendAbort (acts.Write (frames.Abort code))
      (warns_quiet t (frames.Abort code) (subst (λ (xs : List SendLane). l < length xs) (sym lanes) below)) (abort_word code)

  failing : (answer : EndAnswer) (mute : Bool) → reasons.Fails w.sender (number l) input answer mute → Sees (came_to w.sender (number l) (Failed answer mute))
  failing answer mute (OfMemory m going given here is) = hands_not inputs.Starved given (λ b. b)
  failing answer mute (OfReceiver st code serves reads given) =
      ends_seen (failed (noted w.sender (events.Abort (number l) code ∷ [])) (answers.Aborted code)) (events.Abort (number l) code ∷ []) refl refl refl refl
      (λ k small. refl)
  failing answer mute (OfSource true serves given) =
      warns_seen (failed w.sender answers.Source) [] 2 refl refl (sym (append-nil w.sender.history)) refl (λ k small. refl)
  failing answer mute (OfSource false serves given) =
      ends_seen (failed w.sender answers.Source) [] refl refl (sym (append-nil w.sender.history)) refl (λ k small. refl)
  failing answer mute (OfPlan kind serves refuses) =
      warns_seen (failed w.sender (answers.Refused kind)) [] 7 refl refl (sym (append-nil w.sender.history)) refl (λ k small. refl)
  failing answer mute (OfPeer st kind serves reads mistake) =
      warns_seen (failed (noted w.sender (events.Peer (number l) kind ∷ [])) (answers.Peer kind)) (events.Peer (number l) kind ∷ []) 5 refl refl refl refl
      (λ k small. refl)

  gives_up : (es : List SendEvent) → reasons.Dials w.sender (number l) input es → Sees (came_to w.sender (number l) (GivenUp es))
  gives_up es (AtFirst serves given) = hands_not inputs.Start given (λ b. b)
  gives_up es (ByNoLink serves given) =
      ends_seen (noted w.sender (events.NoLink (number l) ∷ events.Quit (number l) ∷ []))
      (events.NoLink (number l) ∷ events.Quit (number l) ∷ []) refl refl refl refl (λ k small. refl)
  gives_up es (ByLoss st serves allowed given) =
      ends_seen (noted w.sender (events.Lost (number l) ∷ events.Quit (number l) ∷ []))
      (events.Lost (number l) ∷ events.Quit (number l) ∷ []) refl refl refl refl (λ k small. refl)

  dial_word : (conn : Conn) (newest : Option Link) → says_done newest (SendDoes (acts.Dial conn)) ≡ false
  dial_word conn None = refl
  dial_word conn (Some k) = refl

  dials : (es : List SendEvent) → reasons.Dials w.sender (number l) input es → Sees (came_to w.sender (number l) (Redialed es))
  dials es (AtFirst serves given) = hands_not inputs.Start given (λ b. b)
  dials es (ByNoLink serves given) =
      let t : PlainSender = noted w.sender (events.NoLink (number l) ∷ []) in
      leaves_seen t (events.NoLink (number l) ∷ []) refl refl refl refl (λ k small. refl) states.Connect (acts.Dial (next_conn t (number l)))
      (dials_quiet t (acts.Dial (next_conn t (number l))) below) (dial_word (next_conn t (number l)))
  dials es (ByLoss st serves allowed given) =
      let t : PlainSender = noted w.sender (events.Lost (number l) ∷ []) in
      leaves_seen t (events.Lost (number l) ∷ []) refl refl refl refl (λ k small. refl) states.Connect (acts.Dial (next_conn t (number l)))
      (dials_quiet t (acts.Dial (next_conn t (number l))) below) (dial_word (next_conn t (number l)))

  -- ---- the outcomes behind which it talks on

  settings_word : (s : Settings) (newest : Option Link) → says_done newest (SendDoes (acts.Write (frames.Settings s))) ≡ false
  settings_word s None = refl
  settings_word s (Some k) = refl

  size_word : (files bytes : ℕ) (newest : Option Link) → says_done newest (SendDoes (acts.Write (frames.Size files bytes))) ≡ false
  size_word files bytes None = refl
  size_word files bytes (Some k) = refl

  block_word : (h : Header) (newest : Option Link) → says_done newest (SendDoes (acts.SendBlock h)) ≡ false
  block_word h None = refl
  block_word h (Some k) = refl

  -- what frees a lane
  free : (es : List SendEvent) → reasons.Frees w.sender (number l) input es → IsFree w l input es
  free es (BySize serves given) =
      subst (λ (i : SendIn). IsFree w l i []) (sym given) (free_size w l c within (open_none serves.is_open) serves.here (holds ∙ ap SendHas given))
  free es (ByBlock serves given) =
      subst (λ (i : SendIn). IsFree w l i (events.Sent (number l) ∷ [])) (sym given)
      (free_block w l c within (open_none serves.is_open) serves.here (holds ∙ ap SendHas given))
  free es (ByMarks ms serves given strangers fault) =
      subst (λ (i : SendIn). IsFree w l i (globals (number l) ms)) (sym given)
      (free_marks w l c within ms (open_none serves.is_open) serves.here (holds ∙ ap SendHas given))

  free_talks : (es : List SendEvent) → reasons.Frees w.sender (number l) input es → IsTalking (sends_at w l)
  free_talks es (BySize serves given) = talked states.SendSize inputs.Wrote serves.here given tt
  free_talks es (ByBlock serves given) = talked states.SendBlocks inputs.Wrote serves.here given tt
  free_talks es (ByMarks ms serves given strangers fault) = talked states.ReadReceiverCmd (inputs.Got (frames.ErrMarks ms)) serves.here given tt

  -- the lanes that were told of are closed, whatever else is noted
  free_knows : (es tail : List SendEvent) (step : Step) → step.1.history ≡ w.sender.history ++ (es ++ tail)
      → ((q : ℕ) (p : LanePast) → (past_from q p tail).claims.closed ≡ p.claims.closed) → reasons.Frees w.sender (number l) input es → KnowsMarks input step
  free_knows es tail step is keeps (BySize serves given) = λ q m. absurd (unmarked inputs.Wrote given (λ k. refl) q m)
  free_knows es tail step is keeps (ByBlock serves given) = λ q m. absurd (unmarked inputs.Wrote given (λ k. refl) q m)
  free_knows es tail step is keeps (ByMarks ms serves given strangers fault) = λ q m.
      ap (λ (g : List SendEvent). is_some (past_of g q).claims.closed) is
      ∙ (ap (λ (p : LanePast). is_some p.claims.closed) (past_of-append w.sender.history (globals (number l) ms ++ tail) q ∙ past_from-append q (past_at w.sender q) (globals (number l) ms) tail)
      ∙ (ap is_some (keeps q (past_from q (past_at w.sender q) (globals (number l) ms)))
      ∙ marks_close q (past_at w.sender q) (number l) ms (or_none _ (ap (λ (x : SendIn). marked_in q (send_in_hand (SendHas x))) (sym given) ∙ m))))

  -- with its next block
  claims_seen : (es : List SendEvent) (b : Block) → reasons.Frees w.sender (number l) input es → least_queued (noted w.sender es) ≡ Some b
      → Sees (came_to w.sender (number l) (Claimed es b))
  claims_seen es b frees least =
      Frees (free_talks es frees) (free_knows es tail (came_to w.sender (number l) (Claimed es b)) refl (λ q p. claim_closed q p (number l) b) frees)
      record {
        phase = SendingPhase;
        stands = stance_put (noted w.sender (es ++ tail)) states.SendBlocks (acts.SendBlock (header_of w.sender b)) below;
        early = sending_early;
        late = refl;
        first = refl;
        word = block_word (header_of w.sender b);
        opens =
            ap (λ (p : LanePast). is_some p.claims.closed) (past_of-append w.sender.history (es ++ tail) l ∙ past_from-append l (past_at w.sender l) es tail)
            ∙ ap is_some (claim_closed l (past_from l (past_at w.sender l) es) (number l) b ∙ (free es frees).opens);
        empty = λ come. none_some b (sym (ap least_of (waits_noted es ((free es frees).kept come) ∙ empty come)) ∙ least);
      } where
        tail : List SendEvent
        tail = events.Claim (number l) b ∷ []

  empties_seen : (es : List SendEvent) → reasons.Frees w.sender (number l) input es → least_queued (noted w.sender es) ≡ None
      → Sees (came_to w.sender (number l) (Emptied es))
  empties_seen es frees least =
      Empties (free_talks es frees)
      (free_knows es [] (came_to w.sender (number l) (Emptied es)) (ap (λ (xs : List SendEvent). w.sender.history ++ xs) (sym (append-nil es))) (λ q p. refl) frees)
      (waits_put (noted w.sender es) record { state = states.SendDone; ask = (lane_at w.sender l).ask } ∙ none_least (waiting_blocks (noted w.sender es)) least)

  -- it was told its count
  cut_kept : (count k : ℕ) → ((k ≡ l) → length (past_at w.sender k).claims.kept ≡ count)
      → (past_after k (past_at w.sender k) (events.Greet (number l) count)).claims.kept ≡ (past_at w.sender k).claims.kept
  cut_kept count k same = elim (cases_eq l k) [
    | inl e ↦ ap (λ (b : Bool). (if b then cut_to count 0 (past_at w.sender k).claims else (past_at w.sender k).claims).kept) (eq-eqb l k e) ∙ take_all count (past_at w.sender k).claims.kept (omega (arith, same (sym e)))
    | inr ne ↦ ap (λ (b : Bool). (if b then cut_to count 0 (past_at w.sender k).claims else (past_at w.sender k).claims).kept) (ne_eqb l k ne)
  ]

  cut_open : (count : ℕ) → (past_after l (past_at w.sender l) (events.Greet (number l) count)).claims.closed ≡ (past_at w.sender l).claims.closed
  cut_open count = rw (eq-eqb l l refl) refl

  greets_seen : (count : ℕ) (ask : Bool) → reasons.Serves w.sender (number l) states.ReadLocalCheckpoint
      → input ≡ inputs.Got (frames.Greeting record { lane = number l; count = count })
      → Sees (greeted_by (noted w.sender (events.Greet (number l) count ∷ [])) (number l) ask)
  greets_seen count ask serves given = go ask where
    t : PlainSender
    t = noted w.sender (events.Greet (number l) count ∷ [])

    mark : Mark
    mark = record { lane = number l; count = count }

    talks : IsTalking (sends_at w l)
    talks = talked states.ReadLocalCheckpoint (inputs.Got (frames.Greeting mark)) serves.here given tt

    long : (common w.receiver).finish ≡ true → length (past_at w.sender l).claims.kept ≡ count
    long come =
        let at = row_at w l states.ReadLocalCheckpoint (inputs.Got (frames.Greeting mark)) c within serves.here (holds ∙ ap SendHas given) in
        sym (length-map (past_at w.sender l).claims.kept (sent_header w.sender.manifest))
        ∙ (splits_all (sending w.sender l).kept (receiving w.receiver l).landed (at.finished come).same ∙ sym at.upward.0.1)

    none : (st : SendState) → (common w.receiver).finish ≡ true → waiting_blocks (goes t (number l) st) ≡ []
    none st come =
        waits_put t record { state = st; ask = (lane_at w.sender l).ask }
        ∙ (waits_noted (events.Greet (number l) count ∷ []) (λ k small. cut_kept count k (λ e. ap (λ (i : ℕ). length (past_at w.sender i).claims.kept) e ∙ long come)) ∙ empty come)

    open_behind : (st : SendState) → is_closed (goes t (number l) st) l ≡ false
    open_behind st = ap (λ (p : LanePast). is_some p.claims.closed) (past_of-append w.sender.history (events.Greet (number l) count ∷ []) l) ∙ (ap is_some (cut_open count) ∙ serves.is_open)

    go : (b : Bool) → Sees (greeted_by t (number l) b)
    go true =
        Frees talks (λ q m. absurd (unmarked (inputs.Got (frames.Greeting mark)) given (λ k. refl) q m))
        record { phase = Listing; stands = stance_put t states.ReadFileChunks acts.Read below; early = told_early Listing refl; late = refl; first = refl; word = read_word; opens = open_behind states.ReadFileChunks; empty = none states.ReadFileChunks }
    go false =
        Frees talks (λ q m. absurd (unmarked (inputs.Got (frames.Greeting mark)) given (λ k. refl) q m))
        record { phase = Told; stands = stance_put t states.SendSize (acts.Write (size_of_tree t)) below; early = told_early Told refl; late = refl; first = refl; word = size_word _ _; opens = open_behind states.SendSize; empty = none states.SendSize }

  ends : reasons.Ends w.sender (number l) → input ≡ inputs.Got frames.Done → IsTalking (sends_at w l)
  ends (Behind serves) given = talked states.ReadReceiverCmd (inputs.Got frames.Done) serves.here given tt
  ends (AtOnce serves known) given = talked states.ReadLocalCheckpoint (inputs.Got frames.Done) serves.here given tt

  -- one that notes entries that change no claims
  goes_seen : (es : List SendEvent) (lane : SendLane) (act : SendAct) (i : SendIn) → input ≡ i → ((q : ℕ) → marked_in q (send_in_hand (SendHas i)) ≡ false)
      → IsTalking (sends_at w l) → ((k : ℕ) → k < length w.pairs → (past_from k (past_at w.sender k) es).claims.kept ≡ (past_at w.sender k).claims.kept)
      → ((newest : Option Link) → says_done newest (SendDoes act) ≡ false)
      → Sees (act, with_lane (noted w.sender es) (number l) lane)
  goes_seen es lane act i given none talks kept word =
      Talks-on talks (λ q m. absurd (unmarked i given none q m)) (waits_put (noted w.sender es) lane ∙ waits_noted es kept) word

  outcome_seen : (o : Outcome) → ComesOf w.sender (number l) input o → Sees (came_to w.sender (number l) o)
  outcome_seen Rested of = rested of
  outcome_seen Waited of =
      Talks-on (talked states.ReadReceiverCmd (inputs.Got frames.Wait) of.0.here of.1 tt)
      (λ q m. absurd (unmarked (inputs.Got frames.Wait) of.1 (λ k. refl) q m)) refl read_word
  outcome_seen Left of = ends_seen w.sender [] refl refl (sym (append-nil w.sender.history)) refl (λ k small. refl)
  outcome_seen Warned of = warns_seen w.sender [] _ refl refl (sym (append-nil w.sender.history)) refl (λ k small. refl)
  outcome_seen (Failed answer mute) of = failing answer mute of
  outcome_seen (GivenUp es) of = gives_up es of.0
  outcome_seen (Redialed es) of = dials es of.0
  outcome_seen Introduced of =
      goes_seen (events.Linked (number l) (next_conn w.sender (number l)) ∷ []) _ _ inputs.Linked of.1 (λ q. refl)
      (talked states.Connect inputs.Linked of.0.here of.1 tt) (λ k small. refl) (settings_word _)
  outcome_seen Presented of =
      Talks-on (talked states.SendSettings inputs.Wrote of.0.here of.1 tt) (λ q m. absurd (unmarked inputs.Wrote of.1 (λ k. refl) q m))
      (waits_put w.sender record { state = states.ReadLocalCheckpoint; ask = (lane_at w.sender l).ask }) read_word
  outcome_seen (Greeted count) of = greets_seen count (lane_at w.sender l).ask of.0 of.1
  outcome_seen Listed of =
      goes_seen (events.Chunks (number l) ∷ []) _ _ (inputs.Got (frames.Chunks of.0)) of.1.read (λ q. refl)
      (talked states.ReadFileChunks (inputs.Got (frames.Chunks of.0)) of.1.serves.here of.1.read tt) (λ k small. refl) (size_word _ _)
  outcome_seen (Planned have) of =
      Frees (talked states.ReadFileChunks (inputs.Got (frames.Chunks have)) of.0.serves.here of.0.read tt)
      (λ q m. absurd (unmarked (inputs.Got (frames.Chunks have)) of.0.read (λ k. refl) q m))
      record {
        phase = Told;
        stands = stance_put (noted (with_plan w.sender have) (events.Chunks (number l) ∷ [])) states.SendSize (acts.Write (size_of_tree w.sender)) below;
        early = told_early Told refl;
        late = refl;
        first = refl;
        word = size_word _ _;
        opens = ap (λ (p : LanePast). is_some p.claims.closed) (past_of-append w.sender.history (events.Chunks (number l) ∷ []) l) ∙ of.0.serves.is_open;
        empty = λ come. absurd (both_ways true (sym (planned come) ∙ ap is_some of.1) refl);
      }
  outcome_seen (Claimed es b) of = claims_seen es b of.0 of.1
  outcome_seen (Emptied es) of = empties_seen es of.0 of.1
  outcome_seen Concluded of =
      goes_seen (events.Done (number l) ∷ []) _ _ inputs.Wrote of.1 (λ q. refl) (talked states.SendDone inputs.Wrote of.0.here of.1 tt)
      (λ k small. refl) read_word
  outcome_seen Finished of =
      Empties (ends of.0 of.1) (λ q m. absurd (unmarked (inputs.Got frames.Done) of.1 (λ k. refl) q m))
      (waits_put (noted w.sender (events.Finish (number l) ∷ [])) record { state = states.AnswerDone; ask = (lane_at w.sender l).ask } ∙ (waits_noted (events.Finish (number l) ∷ []) (λ k small. refl) ∙ empty_sum (waiting_blocks w.sender) _ of.2))
  outcome_seen Acknowledged of =
      Talks-on (talked states.AnswerDone inputs.Wrote of.0.here of.1 tt) (λ q m. absurd (unmarked inputs.Wrote of.1 (λ k. refl) q m))
      (waits_put (noted w.sender (events.Acked (number l) ∷ [])) record { state = states.Ended; ask = (lane_at w.sender l).ask } ∙ waits_noted (events.Acked (number l) ∷ []) (λ k small. refl)) stop_word

  pub turn_seen : Sees (send_turn w.sender (number l) input)
  turn_seen = let x = comes w.sender (number l) input in subst Sees (sym x.is) (outcome_seen x.outcome x.of)
