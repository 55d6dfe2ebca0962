-- What is sent in all is told, and was read, only where the sender has a plan, whatever happens.
use Rattle.std.proofs.Common.{◌≡◌, ◌⊎◌, inl, inr, ℕ, zero, suc, ◌<◌, Bool, true, false, List, [], ◌∷◌, ◌++◌, length, Option, Some, None, is_some, subst, sym, ap, ◌∙◌, refl}
use Rattle.std.proofs.lemmas.List.{length-set}
use Rattle.wdt_units.specs.declared.blocks.Block.{Block}
use Rattle.wdt_codec.specs.declared.frames.Frame.TheVariants as frames
use Rattle.wdt_codec.specs.declared.frames.Settings.{Settings}
use Rattle.wdt_sender_fsm.specs.declared.acts.SendAct.TheVariants as acts
use Rattle.wdt_sender_fsm.specs.declared.answers.EndAnswer.{EndAnswer}
use Rattle.wdt_sender_fsm.specs.declared.events.SendEvent.TheVariants as sent_events
use Rattle.wdt_sender_fsm.specs.declared.inputs.SendIn.{SendIn}
use Rattle.wdt_sender_fsm.specs.declared.states.SendState.TheVariants as states
use Rattle.wdt_sender_fsm.specs.Outcomes as sent
use Rattle.wdt_sender_fsm.specs.Phases.{Message, Framed, Piece}
use Rattle.wdt_sender_fsm.specs.PlainSender.{PlainSender, lane_at, noted, past_at}
use Rattle.wdt_sender_fsm.specs.Reasons as reasons
use Rattle.wdt_sender_fsm.specs.Rules.{is_failure}
use Rattle.wdt_sender_fsm.specs.Sender.{Fares}
use Rattle.wdt_sender_fsm.specs.SenderHistory as sender_history
use Rattle.wdt_sender_fsm.specs.Touches.{AsBefore, Anew, Plans}
use Rattle.wdt_sender_fsm.specs.Turn.{Step as SendStep, greeted_by, send_turn}
use Rattle.wdt_receiver_fsm.specs.declared.events.RecvEvent.{RecvEvent}
use Rattle.wdt_receiver_fsm.specs.declared.events.RecvEvent.TheVariants as events
use Rattle.wdt_receiver_fsm.specs.declared.inputs.RecvIn.TheVariants as inputs
use Rattle.wdt_receiver_fsm.specs.Outcomes as outcomes
use Rattle.wdt_receiver_fsm.specs.Outcomes.{ComesOf, Outcome, Rested, Left, Warned, Failed, GivenUp, Listened, Linked, Greeted, Listed, ReadOn, Sized, Begun, Taken, Concluded, Told, Waited, Ended, Acknowledged, came_to, landed_by}
use Rattle.wdt_receiver_fsm.specs.Outcomes.{ByDone, ByWait, ByWaking, OfMemory, OfSender, OfPeer, OfShort, OfMake, OfWrite, OfLog, OfFinish, AtFirst, ByNoLink, ByLoss, ByGreeting, ByChunks, ByMarks, ByLanding, ByLogging, WasFinished, IsFinished, OfKnown, OfNew}
use Rattle.wdt_receiver_fsm.specs.Plan.{EndsIn}
use Rattle.wdt_receiver_fsm.specs.PlainReceiver.{PlainReceiver, has_finish}
use Rattle.wdt_receiver_fsm.specs.ReceiverHistory.{EndPast, end_from, end_of, end_of-append}
use Rattle.wdt_receiver_fsm.specs.Sets.{set_of}
use Rattle.wdt_receiver_fsm.specs.Turn.{Given, Put, Step, begins_by, given_up, greets_by, met_by, turn_plan}
use Rattle.wdt_receiver_fsm.proofs.ForCallers.{end_comes}
use Rattle.wdt_pact.specs.Belongs.{RecvBelongsAt, SendBelongs}
use Rattle.wdt_pact.specs.Conversation.{Conversation}
use Rattle.wdt_pact.specs.Each.{Each}
use Rattle.wdt_pact.specs.Finishing.{ComesOfPlan, Finishing}
use Rattle.wdt_pact.specs.Fitting.{DownBy, DownOf, GoesDown, IsSound, SaysOf, lane_of}
use Rattle.wdt_pact.specs.Links.{Link}
use Rattle.wdt_pact.specs.Lists.{in_hand}
use Rattle.wdt_pact.specs.Pairs.{Pair, RecvHold, SendHold, SendDoes, SendHas, cuts_by, recv_does, recv_gets, send_does, send_takes, top_by}
use Rattle.wdt_pact.specs.World.{PlainWorld, WorldEvent, Sends, Receives, Cut, Deny, Refuse, happens, number, pair_at, recv_turn, send_turned, with_pair}
use Rattle.wdt_pact.proofs.Confirming.{SenderTouches}
use Rattle.wdt_pact.proofs.Events.{recv_cases, send_cases}
use Rattle.wdt_pact.proofs.Fitting.{cuts_fit, recv_does_down, send_does_down, takes_fits, tops}
use Rattle.wdt_pact.proofs.Frame.{each_pair}
use Rattle.wdt_pact.proofs.Grows.{each_map}
use Rattle.wdt_pact.proofs.RecvHands.{Hands, holds_input}
use Rattle.wdt_pact.proofs.RecvRows.{ends_in}
use Rattle.wdt_pact.proofs.RecvSeen as recv_seen
use Rattle.wdt_pact.proofs.RecvSeen.{logged_history}
use Rattle.wdt_pact.proofs.Rows.{fares_in}
use Rattle.wdt_pact.proofs.SendSeen as send_seen
use Rattle.wdt_pact.proofs.TellingAll.{SenderComes}

-- ---- messages of a kind are of a wider one

says_map : (P Q : Message → Type 0) → ((m : Message) → P m → Q m) → (h : SendHold) → SaysOf P h → SaysOf Q h
says_map P Q f (SendDoes (acts.Write frame)) x = f (Framed frame) x
says_map P Q f (SendDoes (acts.SendBlock header)) x = f (Framed (frames.Block header)) x
says_map P Q f h x = tt

down_map : (P Q : Message → Type 0) → ((m : Message) → P m → Q m) → (o : Option Link) → DownBy P o → DownBy Q o
down_map P Q f None x = tt
down_map P Q f (Some k) x = each_map P Q f k.down.sent x

goes_map : (P Q : Message → Type 0) → ((m : Message) → P m → Q m) → (p : Pair) → GoesDown P p → GoesDown Q p
goes_map P Q f p d =
    record {
      hand = each_map P Q f (in_hand p.recv) d.hand;
      says = says_map P Q f p.send d.says;
      taken = down_map P Q f p.taken d.taken;
      between = each_map (DownOf P) (DownOf Q) (λ k x. each_map P Q f k.down.sent x) p.between d.between;
      newest = down_map P Q f p.newest d.newest;
    }

known_more : (a b : Bool) → (a ≡ true → b ≡ true) → (m : Message) → ComesOfPlan a m → ComesOfPlan b m
known_more a b f (Framed (frames.Size files bytes)) x = f x
known_more a b f m x = tt

piece_comes : (a : Bool) (n : ℕ) → ComesOfPlan a (Piece n)
piece_comes a n = tt

-- each lane tells of what is sent in all only with a plan
abbrev pub AllTell : PlainWorld → Type 0
AllTell w = (l : ℕ) → l < length w.pairs → GoesDown (ComesOfPlan (is_some w.sender.have)) (pair_at w l)

pair_down : (w : PlainWorld) (l : ℕ) (p : Pair) → l < length w.pairs → AllTell w → GoesDown (ComesOfPlan (is_some w.sender.have)) p → AllTell (with_pair w l p)
pair_down w l p within all own k small =
    each_pair (λ (i : ℕ) (x : Pair). GoesDown (ComesOfPlan (is_some w.sender.have)) x) w.pairs l p within own (λ i b ne. all i b) k
    (subst (λ (n : ℕ). k < n) (length-set w.pairs l p) small)

-- ---- a turn of the sender's lane

pub plan_stays : (s : PlainSender) (input : SendIn) (t : PlainSender) → Plans s input t → is_some s.have ≡ true → is_some t.have ≡ true
plan_stays s input t (AsBefore have plan) e = ap is_some have ∙ e
plan_stays s input t (Anew have given none is plan) e = ap is_some is

module _ (touches : SenderTouches) (comes : SenderComes) (w : PlainWorld) (l : ℕ) (input : SendIn) (s : IsSound w) (f : Finishing w)
    (within : l < length w.pairs) (holds : (pair_at w l).send ≡ SendHas input) where
  abbrev Says : SendStep → Type 0
  Says step = SaysOf (ComesOfPlan (is_some step.1.have)) (SendDoes step.0)

  belongs : SendBelongs (SendHas input) (lane_at w.sender l)
  belongs = subst (λ (h : SendHold). SendBelongs h (lane_at w.sender l)) holds (s.belongs.send l within)

  failing : (answer : EndAnswer) (mute : Bool) → reasons.Fails w.sender (number l) input answer mute
      → Says (sent.came_to w.sender (number l) (sent.Failed answer mute))
  failing answer mute (reasons.OfMemory m going given here is) =
      send_seen.hands_not comes w l input s.talk f.empty f.planned within holds belongs _ given (λ b. b)
  failing answer mute (reasons.OfReceiver st code serves reads given) = tt
  failing answer mute (reasons.OfSource true serves given) = tt
  failing answer mute (reasons.OfSource false serves given) = tt
  failing answer mute (reasons.OfPlan kind serves refuses) = tt
  failing answer mute (reasons.OfPeer st kind serves reads mistake) = tt

  greeted : (count : ℕ) (ask : Bool) → (lane_at w.sender l).ask ≡ ask → reasons.Serves w.sender (number l) states.ReadLocalCheckpoint
      → Says (greeted_by (noted w.sender (sent_events.Greet (number l) count ∷ [])) (number l) ask)
  greeted count true is serves = tt
  greeted count false is serves =
      let fares : Fares (is_failure w.sender.answer) states.ReadLocalCheckpoint (lane_at w.sender l).ask (past_at w.sender l) (sender_history.end_of w.sender.history) = fares_in w l states.ReadLocalCheckpoint s.talk within serves.here (open_none (past_at w.sender l).claims.closed serves.is_open) in
      s.talk.sender.plan.listed ∙ fares.known is where
        open_none : (o : Option ℕ) → is_some o ≡ false → o ≡ None
        open_none None e = refl
        open_none (Some x) e = cc

  outcome_says : (o : sent.Outcome) → reasons.ComesOf w.sender (number l) input o → Says (sent.came_to w.sender (number l) o)
  outcome_says sent.Rested of = send_seen.rested comes w l input s.talk f.empty f.planned within holds belongs of
  outcome_says sent.Waited of = tt
  outcome_says sent.Left of = tt
  outcome_says sent.Warned of = tt
  outcome_says (sent.Failed answer mute) of = failing answer mute of
  outcome_says (sent.GivenUp es) of = tt
  outcome_says (sent.Redialed es) of = tt
  outcome_says sent.Introduced of = tt
  outcome_says sent.Presented of = tt
  outcome_says (sent.Greeted count) of = greeted count (lane_at w.sender l).ask refl of.0
  outcome_says sent.Listed of = ap is_some of.2
  outcome_says (sent.Planned have) of = refl
  outcome_says (sent.Claimed es b) of = tt
  outcome_says (sent.Emptied es) of = tt
  outcome_says sent.Concluded of = tt
  outcome_says sent.Finished of = tt
  outcome_says sent.Acknowledged of = tt

  abbrev step : SendStep
  step = send_turn w.sender (number l) input

  wider : (m : Message) → ComesOfPlan (is_some w.sender.have) m → ComesOfPlan (is_some step.1.have) m
  wider = known_more (is_some w.sender.have) (is_some step.1.have) (plan_stays w.sender input step.1 (touches w.sender (number l) input).plan)

  pub send_turn_says : AllTell (send_turned w l input step)
  send_turn_says k small =
      each_pair (λ (i : ℕ) (x : Pair). GoesDown (ComesOfPlan (is_some step.1.have)) x) w.pairs l p within
      (takes_fits (ComesOfPlan (is_some step.1.have)) (piece_comes (is_some step.1.have)) (pair_at w l) input (past_at step.1 l).is_greeted step.0 says (goes_map _ _ wider (pair_at w l) (f.tells l within)))
      (λ i b ne. goes_map _ _ wider (pair_at w i) (f.tells i b)) k (subst (λ (n : ℕ). k < n) (length-set w.pairs l p) small) where
        p : Pair
        p = send_takes (pair_at w l) input (past_at step.1 l).is_greeted step.0

        says : Says step
        says = let x = comes w.sender (number l) input in subst Says (sym x.is) (outcome_says x.outcome x.of)

-- ---- a turn of the receiver's lane

-- it read what is sent in all
abbrev ReadsSize : Put → Type 0
ReadsSize put = (files bytes : ℕ) × (put ≡ Given (inputs.Got (frames.Size files bytes)))

module _ (w : PlainWorld) (l : ℕ) (c : Conversation w) (within : l < length w.pairs) (put : Put) (hands : Hands (pair_at w l).recv put)
    (belongs : RecvBelongsAt w l) where
  abbrev Same : List RecvEvent → Type 0
  Same g = (end_of g).sized ≡ (end_of w.receiver.history).sized

  abbrev Sizes : List RecvEvent → Type 0
  Sizes g = Same g ⊎ ReadsSize put

  more : (g h es : List RecvEvent) → h ≡ g ++ es → (end_from (end_of g) es).sized ≡ (end_of g).sized → Same g → Same h
  more g h es is same before = ap (λ (x : List RecvEvent). (end_of x).sized) is ∙ (ap (λ (e : EndPast). e.sized) (end_of-append g es) ∙ (same ∙ before))

  point : (t : PlainReceiver) → outcomes.Idles w.receiver (number l) put t → Same t.history
  point t (ByDone serves sized given is) = more w.receiver.history t.history (events.Idle (number l) ∷ []) (ap (λ (x : PlainReceiver). x.history) is) refl refl
  point t (ByWait serves given is) = ap (λ (x : PlainReceiver). (end_of x.history).sized) is
  point t (ByWaking serves given is) = ap (λ (x : PlainReceiver). (end_of x.history).sized) is

  one : (g : List RecvEvent) (e : RecvEvent) → g ≡ w.receiver.history ++ e ∷ []
      → (end_from (end_of w.receiver.history) (e ∷ [])).sized ≡ (end_of w.receiver.history).sized → Sizes g
  one g e is same = inl (more w.receiver.history g (e ∷ []) is same refl)

  failing_sized : (t : PlainReceiver) (answer : EndAnswer) (mute : Bool) → outcomes.Fails w.receiver (number l) put t answer mute
      → Sizes (came_to w.receiver (number l) (Failed t answer mute)).1.history
  failing_sized t answer mute (OfMemory m going given here is) = recv_seen.hands_not w l c within put hands belongs inputs.Starved given refl (λ b. b)
  failing_sized t answer mute (OfSender st code serves reads given) = one _ (events.Abort (number l) code) refl refl
  failing_sized t answer mute (OfPeer st kind serves reads mistake) = one _ (events.Peer (number l) kind) refl refl
  failing_sized t answer mute (OfShort u kind finishes short) = one _ (events.Peer (number l) kind) refl refl
  failing_sized t answer mute (OfMake h serves sized given fault new) = inl refl
  failing_sized t answer mute (OfWrite bytes b serves given begun) = inl refl
  failing_sized t answer mute (OfLog b lands full) = one _ (events.Land (number l)) refl refl
  failing_sized t answer mute (OfFinish u finishes) = inl (point u finishes.idles)

  wants : (t : PlainReceiver) → outcomes.Listens w.receiver (number l) put t → Same t.history
  wants t (AtFirst serves given) = refl
  wants t (ByNoLink serves given) = more w.receiver.history _ (events.NoLink (number l) ∷ []) refl refl refl
  wants t (ByLoss st serves linked given) = more w.receiver.history _ (events.Dropped (number l) ∷ []) refl refl refl

  given_so : (t : PlainReceiver) (come : Bool) → Same t.history → Same (t.history ++ given_up (number l) come ∷ [])
  given_so t true same = more t.history _ (events.Quit (number l) ∷ []) refl refl same
  given_so t false same = more t.history _ (events.Close (number l) ∷ []) refl refl same

  reads_on : (t : PlainReceiver) → outcomes.ReadsOn w.receiver (number l) put t → Sizes (came_to w.receiver (number l) (ReadOn t)).1.history
  reads_on t (ByGreeting serves given asks) = inl refl
  reads_on t (ByChunks serves given) = inl refl
  reads_on t (ByMarks serves given) = inl refl
  reads_on t (ByLanding b lands few) = one _ (events.Land (number l)) refl refl
  reads_on t (ByLogging b lands full) =
      one _ (events.Land (number l)) (logged_history (landed_by w.receiver (number l) b) (landed_by w.receiver (number l) b).unlogged) refl

  begins_so : (t : PlainReceiver) (b : Block) (left : ℕ) → Same t.history → Sizes (begins_by t (number l) b left).1.history
  begins_so t b zero same =
      inl
      (more (t.history ++ events.Begin (number l) b ∷ []) _ (events.Land (number l) ∷ []) refl refl (more t.history _ (events.Begin (number l) b ∷ []) refl refl same))
  begins_so t b (suc left) same = inl (more t.history _ (events.Begin (number l) b ∷ []) refl refl same)

  begun : (t : PlainReceiver) (b : Block) → outcomes.Begins w.receiver (number l) put t b → Sizes (came_to w.receiver (number l) (Begun t b)).1.history
  begun t b (OfKnown h serves sized given fault old) = begins_so t b b.length refl
  begun t b (OfNew h serves sized given fault new) = begins_so t b b.length refl

  meets_so : (s : Settings) (known come : Bool) → Sizes (greets_by (met_by w.receiver (number l) s known) (number l) s come).1.history
  meets_so s true true = inl refl
  meets_so s true false = inl refl
  meets_so s false true = one _ (events.Met (number l) s) refl refl
  meets_so s false false = one _ (events.Met (number l) s) refl refl

  concludes : (t : PlainReceiver) → outcomes.Concludes w.receiver (number l) put t → Same t.history
  concludes t (WasFinished u idles come) = point u idles
  concludes t (IsFinished u fin none) =
      more u.history _ (events.Finish ∷ []) (ap (λ (g : List RecvEvent). g ++ events.Finish ∷ []) (logged_history u u.unlogged)) refl (point u fin.idles)

  outcome_sized : (o : Outcome) → ComesOf w.receiver (number l) put o → Sizes (came_to w.receiver (number l) o).1.history
  outcome_sized Rested of = inl refl
  outcome_sized Left of = inl refl
  outcome_sized Warned of = inl refl
  outcome_sized (Failed t answer mute) of = failing_sized t answer mute of
  outcome_sized (GivenUp t) of = inl (given_so t (has_finish t) (wants t of.0))
  outcome_sized (Listened t) of = inl (wants t of.0)
  outcome_sized Linked of = one _ _ refl refl
  outcome_sized (Greeted s) of = meets_so s (is_some (end_of w.receiver.history).met) (has_finish w.receiver)
  outcome_sized Listed of = inl refl
  outcome_sized (ReadOn t) of = reads_on t of
  outcome_sized (Sized files bytes) of = inr (files, bytes, of.2)
  outcome_sized (Begun t b) of = begun t b of
  outcome_sized (Taken left) of = inl refl
  outcome_sized (Concluded t) of = inl (concludes t of)
  outcome_sized (Told t q qs) of = inl (more t.history _ (events.Told (number l) (set_of (q ∷ qs)) ∷ []) refl refl (point t of.idles))
  outcome_sized (Waited t true) of = inl (point t of.0.idles)
  outcome_sized (Waited t false) of = inl (point t of.0.idles)
  outcome_sized Ended of = inl refl
  outcome_sized Acknowledged of = one _ (events.Acked (number l)) refl refl

  turn_sized : (step : Step) → EndsIn (Unit {0}) (turn_plan w.receiver (number l) put) step → Sizes step.1.history
  turn_sized step ends =
      let x = end_comes w.receiver (number l) put (Unit {0}) step ends in subst (λ (y : Step). Sizes y.1.history) (sym x.is) (outcome_sized x.outcome x.of)

  -- the sender that told of it has a plan
  pub recv_sized : Finishing w → (step : Step) → EndsIn (Unit {0}) (turn_plan w.receiver (number l) put) step → ((end_of step.1.history).sized ≡ None → ⊥)
      → is_some w.sender.have ≡ true
  recv_sized f step ends some = elim (turn_sized step ends) [
    | inl same ↦ f.sized (λ none. some (same ∙ none))
    | inr x ↦ (subst (λ (h : RecvHold). Each (ComesOfPlan (is_some w.sender.have)) (in_hand h)) (holds_input (pair_at w l).recv put (inputs.Got (frames.Size x.0 x.1)) hands x.2 refl) (f.tells l within).hand).0
  ]

-- ---- whatever happens

module _ (touches : SenderTouches) (comes : SenderComes) where
  pub tells_after : (w : PlainWorld) (e : WorldEvent) → IsSound w → Finishing w → lane_of e < length w.pairs → AllTell (happens w e)
  tells_after w (Sends l lost) s f within =
      send_cases AllTell w l lost
      (λ act is. pair_down w l (send_does (pair_at w l) lost act) within f.tells
      (send_does_down (ComesOfPlan (is_some w.sender.have)) (piece_comes (is_some w.sender.have)) (pair_at w l) lost act (subst (SaysOf (ComesOfPlan (is_some w.sender.have))) is (f.tells l within).says) (f.tells l within)))
      (λ input is. send_turn_says touches comes w l input s f within is)
  tells_after w (Receives l broken) s f within =
      recv_cases AllTell w l broken f.tells
      (λ act is. pair_down w l (recv_does (pair_at w l) act) within f.tells (recv_does_down (ComesOfPlan (is_some w.sender.have)) (piece_comes (is_some w.sender.have)) (pair_at w l) act (f.tells l within)))
      (λ put hands k small. pair_down w l (recv_gets (pair_at w l) (recv_turn w.receiver l put broken).0) within f.tells
      (let d = f.tells l within in record { hand = tt; says = d.says; taken = d.taken; between = d.between; newest = d.newest }) k small)
  tells_after w (Cut l down up) s f within =
      let p : Pair = pair_at w l in
      let d = f.tells l within in
      let P : Message → Type 0 = ComesOfPlan (is_some w.sender.have) in
      pair_down w l (cuts_by p down up (top_by p.newest p.taken)) within f.tells
      (cuts_fit P (piece_comes (is_some w.sender.have)) p down up (top_by p.newest p.taken) (tops P (piece_comes (is_some w.sender.have)) p.newest p.taken d.newest d.taken) d)
  tells_after w (Deny l) s f within =
      let d = f.tells l within in pair_down w l (record (pair_at w l) { denies = suc (pair_at w l).denies }) within f.tells record { hand = d.hand; says = d.says; taken = d.taken; between = d.between; newest = d.newest }
  tells_after w (Refuse l) s f within =
      let d = f.tells l within in pair_down w l (record (pair_at w l) { refusals = suc (pair_at w l).refusals }) within f.tells record { hand = d.hand; says = d.says; taken = d.taken; between = d.between; newest = d.newest }

  pub sized_after : (w : PlainWorld) (e : WorldEvent) → IsSound w → Finishing w → lane_of e < length w.pairs
      → ((end_of (happens w e).receiver.history).sized ≡ None → ⊥) → is_some (happens w e).sender.have ≡ true
  sized_after w (Sends l lost) s f within =
      send_cases (λ (v : PlainWorld). ((end_of v.receiver.history).sized ≡ None → ⊥) → is_some v.sender.have ≡ true) w l lost (λ act is. f.sized)
      (λ input is some. plan_stays w.sender input (send_turn w.sender (number l) input).1 (touches w.sender (number l) input).plan (f.sized some))
  sized_after w (Receives l broken) s f within =
      recv_cases (λ (v : PlainWorld). ((end_of v.receiver.history).sized ≡ None → ⊥) → is_some v.sender.have ≡ true) w l broken f.sized (λ act is. f.sized)
      (λ put hands. recv_sized w l s.talk within put hands (s.belongs.recv l within) f (recv_turn w.receiver l put broken) (ends_in (turn_plan w.receiver (number l) put) broken))
  sized_after w (Cut l down up) s f within = f.sized
  sized_after w (Deny l) s f within = f.sized
  sized_after w (Refuse l) s f within = f.sized
