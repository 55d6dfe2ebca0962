-- Where every lane is idle or closed and each closed lane is confirmed, everything has landed.
use Rattle.std.proofs.Common.{◌≡◌, ◌≢◌, ◌⊎◌, inl, inr, ℕ, zero, suc, ◌<◌, ◌≤◌, ◌||◌, not, Bool, true, false, List, [], ◌∷◌, ◌++◌, length, Option, Some, None, is_some, option_map, subst, sym, ap, ◌∙◌, refl, arith}
use Rattle.std.proofs.lemmas.Bool.{both_ways, cases_eq, or_cases, and_parts, ne_eqb, not-true, cases_lt, false_from_ne_true}
use Rattle.std.proofs.lemmas.Option.{same_Some}
use Rattle.wdt_units.specs.declared.blocks.Block.{Block}
use Rattle.wdt_units.specs.declared.blocks.Header.{Header}
use Rattle.wdt_codec.specs.declared.frames.Frame.{Frame}
use Rattle.wdt_codec.specs.declared.frames.Frame.TheVariants as frames
use Rattle.wdt_sender_fsm.specs.Phases.{phase_by, phase_heard, Phase, Sending, Asked, Message, Framed, Piece, down, up, is_abort}
use Rattle.wdt_sender_fsm.specs.declared.inputs.SendIn.TheVariants as inputs
use Rattle.wdt_sender_fsm.specs.declared.states.SendLane.{SendLane}
use Rattle.wdt_sender_fsm.specs.PlainSender.{blocks_of, is_closed, lane_at, past_at, waiting_blocks}
use Rattle.wdt_sender_fsm.specs.Rules.{every, is_failure}
use Rattle.wdt_sender_fsm.specs.Legal.{IsLegal, IsSound}
use Rattle.wdt_sender_fsm.specs.declared.events.SendEvent.{SendEvent}
use Rattle.wdt_sender_fsm.specs.SenderHistory.{LanePast, past_of as sent_past}
use Rattle.wdt_pact.proofs.Below.{moved-first, one_talker}
use Rattle.wdt_sender_fsm.specs.Talk.{moved}
use Rattle.wdt_receiver_fsm.specs.declared.events.RecvEvent.{RecvEvent}
use Rattle.wdt_receiver_fsm.specs.declared.inputs.RecvIn.TheVariants as recv_inputs
use Rattle.wdt_receiver_fsm.specs.declared.states.RecvState.TheVariants as recv_states
use Rattle.wdt_receiver_fsm.specs.declared.events.RecvEvent.TheVariants as recv_events
use Rattle.wdt_receiver_fsm.specs.PlainReceiver.{PlainReceiver}
use Rattle.wdt_receiver_fsm.specs.Ready as ready
use Rattle.wdt_receiver_fsm.specs.Receiver.{Fares, terms_of}
use Rattle.wdt_receiver_fsm.specs.PlainReceiver as recv
use Rattle.wdt_receiver_fsm.specs.ReceiverHistory.{RecvPast, Confirm, past_of, past_of-append, confirm_of, confirm_of-append, end_of}
use Rattle.wdt_receiver_fsm.specs.Sets.{has}
use Rattle.wdt_receiver_fsm.proofs.ForCallers.{tellers_tell}
use Rattle.wdt_pact.specs.Links.{Link}
use Rattle.wdt_pact.specs.Pairs.{SendHold, SendHas, RecvHold, RecvHas}
use Rattle.wdt_pact.specs.World.{PlainWorld, number, pair_at}
use Rattle.wdt_pact.specs.Stances.{IsTalking, Stance, Talks, Aborts, Silent, AgreeOn, send_there, send_stance, stand, OnLink, Hears, is_abort_down, is_calm, is_any, is_late}
use Rattle.wdt_pact.specs.Lists.{Splits, Splits-same, AskedBy, AskedOn, blocks_in, has_done, in_hand}
use Rattle.wdt_pact.specs.Conversation.{send_in_hand, to_say, up_sent, Conversation, known_header, sending, receiving}
use Rattle.wdt_pact.specs.Finishing.{marks_lane, marked_in, down_sent, Finishing, IsBusy, BusyBy, is_coming, telling, receives_at, sends_at}
use Rattle.wdt_pact.proofs.RecvRows.{recv_fares}
use Rattle.wdt_pact.proofs.Links.{falls_silent, late_stays, sending_talk}
use Rattle.wdt_pact.proofs.Lists.{blocks_in-append}

-- ---- what holds of every lane

pub every_at : (n k : ℕ) (f : ℕ → Bool) → every n f ≡ true → k < n → f k ≡ true
every_at zero k f e within = absurd (omega (arith, within))
every_at (suc n) k f e within = go (λ b. every_at n k f (and_parts (every n f) (f n) e).0 b) (cases_lt k n) where
  go : (k < n → f k ≡ true) → (k < n) ⊎ (n ≤ k) → f k ≡ true
  go before (inl x) = before x
  go before (inr x) = let same : n ≡ k = omega (arith, x, within) in subst (λ (i : ℕ). f i ≡ true) same (and_parts (every n f) (f n) e).1

-- ---- behind the last word no block comes

pub hears_down : (st : Stance) (q : Phase) (ds : List Message) (us : List Frame) → OnLink st (Talks q) ds us → Hears down is_calm is_abort_down q ds
hears_down (Talks s) q ds us a = falls_silent down up is_abort_down is_abort is_calm is_any one_talker s (Talks q) ds us a
hears_down Aborts q ds us a = inl record { at = a.at; moves = a.moves }
hears_down Silent q ds us a = a

no_block : (m : Message) (ds : List Message) (p q : Phase) → is_late p ≡ true → down p m ≡ Some q → blocks_in (m ∷ ds) ≡ blocks_in ds
no_block (Piece n) ds p q l e = refl
no_block (Framed (frames.Block h)) ds Sending q l e = cc
no_block (Framed (frames.Block h)) ds p q l e = cc
no_block (Framed f) ds p q l e = refl

late_follows : (ds : List Message) (p q : Phase) → is_late p ≡ true → moved down ds p ≡ Some q → blocks_in ds ≡ []
late_follows [] p q l e = refl
late_follows (d ∷ ds) p q l e = let f = moved-first down p q d ds e in no_block d ds p f.0 l f.1 ∙ late_follows ds f.0 q (late_stays p f.0 d f.1 l) f.2

late_none : (p : Phase) (ds : List Message) → is_late p ≡ true → Hears down is_calm is_abort_down p ds → blocks_in ds ≡ []
late_none p ds l (inl a) = late_follows ds p a.at l a.moves
late_none p ds l (inr a) = ap blocks_in a.all ∙ (blocks_in-append a.before (a.last ∷ []) ∙ (ap (λ (hs : List Header). hs ++ blocks_in (a.last ∷ [])) (late_follows a.before p a.rests.at l a.rests.moves) ∙ abort_none a.last a.failure)) where
  abort_none : (m : Message) → is_abort_down m ≡ true → blocks_in (m ∷ []) ≡ []
  abort_none (Framed (frames.Abort code)) e = refl
  abort_none m e = cc

-- ---- the lane that brings the last word

abbrev has_word : PlainWorld → ℕ → Type 0
has_word w l = (pair_at w l).recv ≡ RecvHas (recv_inputs.Got frames.Done)

-- the receiver stands asked, and the word is coming
stands_asked : (w : PlainWorld) (l : ℕ) → recv.state_at w.receiver l ≡ recv_states.ReadNextCmd → (recv.lane_at w.receiver l).is_sized ≡ true → has_word w l → receives_at w l ≡ Talks Asked
stands_asked w l here sized word = rw (word, here, sized) refl

-- ---- marks that don't come

pub marks_lead : (q : ℕ) (u : Frame) (p r : Phase) → marks_lane q u ≡ true → up p u ≡ Some r → r ≡ Sending
marks_lead q (frames.ErrMarks ms) Asked r m e = sym (same_Some Sending r e)
marks_lead q (frames.ErrMarks ms) p r m e = cc
marks_lead q u p r m e = cc

stuck_there : {P : Type 0} (us : List Frame) → moved up us Sending ≡ Some Asked → P
stuck_there [] e = cc
stuck_there (u ∷ us) e = cc

up_marks : (q : ℕ) (us : List Frame) (s : Phase) → moved up us s ≡ Some Asked → marked_in q us ≡ true → ⊥
up_marks q [] s e m = cc
up_marks q (u ∷ us) s e m = go (up_marks q us) (or_cases (marks_lane q u) (marked_in q us) m) where
  f : (r : Phase) × (up s u ≡ Some r) × (moved up us r ≡ Some Asked)
  f = moved-first up s Asked u us e

  go : ((r : Phase) → moved up us r ≡ Some Asked → marked_in q us ≡ true → ⊥) → (marks_lane q u ≡ true) ⊎ (marked_in q us ≡ true) → ⊥
  go more (inl x) = stuck_there us (subst (λ (r : Phase). moved up us r ≡ Some Asked) (marks_lead q u s f.0 x f.1) f.2)
  go more (inr x) = more f.0 f.2 x

heard_marks : (q : ℕ) (f : Frame) (o : Option Phase) (s : Phase) → marks_lane q f ≡ true → stand false (phase_heard f o) ≡ Talks s → s ≡ Sending
heard_marks q f None s m e = cc
heard_marks q f (Some p) s m e = go (up p f) refl e where
  go : (o : Option Phase) → up p f ≡ o → stand false o ≡ Talks s → s ≡ Sending
  go None is x = cc
  go (Some r) is x = let same : r ≡ s = cc in sym same ∙ marks_lead q f p r m is

pub hand_marks : (q : ℕ) (lane : SendLane) (acked : Bool) (hold : SendHold) (s : Phase) → send_stance lane acked hold ≡ Talks s → marked_in q (send_in_hand hold) ≡ true → s ≡ Sending
hand_marks q lane acked (SendHas (inputs.Got f)) s is m = heard_marks q f (phase_by lane.ask false lane.state) s (go (marks_lane q f) m) is where
  go : (b : Bool) → (b || false) ≡ true → b ≡ true
  go true e = refl
  go false e = cc
hand_marks q lane acked hold s is m = cc

pub marked-append : (q : ℕ) (us vs : List Frame) → marked_in q (us ++ vs) ≡ true → (marked_in q us ≡ true) ⊎ (marked_in q vs ≡ true)
marked-append q [] vs m = inr m
marked-append q (u ∷ us) vs m = go (marked-append q us vs) (marks_lane q u) m where
  go : (marked_in q (us ++ vs) ≡ true → (marked_in q us ≡ true) ⊎ (marked_in q vs ≡ true)) → (b : Bool) → (b || marked_in q (us ++ vs)) ≡ true → ((b || marked_in q us) ≡ true) ⊎ (marked_in q vs ≡ true)
  go more true e = inl refl
  go more false e = more e

-- to a sender that listens no mark is on its way where the receiver was asked
no_marks : (q : ℕ) (lane : SendLane) (acked : Bool) (hold : SendHold) (ss rs : Stance) (taken newest : Option Link) → send_stance lane acked hold ≡ ss → rs ≡ Talks Asked → newest ≡ None → IsTalking ss → AgreeOn (send_there newest ss) rs taken → marked_in q (send_in_hand hold ++ up_sent taken) ≡ true → ⊥
no_marks q lane acked hold Aborts rs taken newest is asked none t a m = t
no_marks q lane acked hold Silent rs taken newest is asked none t a m = t
no_marks q lane acked hold (Talks s) rs taken (Some x) is asked none t a m = cc
no_marks q lane acked hold (Talks s) rs None None is asked none t a m = let x = a.0 in cc
no_marks q lane acked hold (Talks s) rs (Some k) None is asked none t a m = go (marked-append q (send_in_hand hold) k.up.sent m) where
  talk : OnLink (Talks s) (Talks Asked) k.down.sent k.up.sent
  talk = subst (λ (x : Stance). OnLink (Talks s) x k.down.sent k.up.sent) asked a

  marked : OnLink (Talks s) (Talks Asked) k.down.sent k.up.sent → marked_in q k.up.sent ≡ true → ⊥
  marked (inl x) e = both_ways (marked_in q k.up.sent) (ap (marked_in q) x.0) e
  marked (inr x) e = up_marks q k.up.sent s x.1 e

  go : (marked_in q (send_in_hand hold) ≡ true) ⊎ (marked_in q k.up.sent ≡ true) → ⊥
  go (inl e) =
      let same : s ≡ Sending = hand_marks q lane acked hold s is e in
      both_ways true (sending_talk Asked k.down.sent k.up.sent (subst (λ (x : Phase). OnLink (Talks x) (Talks Asked) k.down.sent k.up.sent) same talk)).0 refl
  go (inr e) = marked talk e

-- the lane that was asked has landed all
pub own_here : (ss rs : Stance) (taken newest : Option Link) (kept landed : List Header) (begun : Option Header) (hand : List Message) (held : Bool) → rs ≡ Talks Asked → hand ≡ Framed frames.Done ∷ [] → begun ≡ None → AgreeOn (send_there newest ss) rs taken → AskedBy rs taken kept landed begun hand held → Splits kept landed [] × (held ≡ false)
own_here ss rs None newest kept landed begun hand held asked word none a x = let y = a.1 in cc
own_here ss rs (Some k) newest kept landed begun hand held asked word none a x =
    let talk : OnLink (send_there newest ss) (Talks Asked) k.down.sent k.up.sent = subst (λ (r : Stance). OnLink (send_there newest ss) r k.down.sent k.up.sent) asked a in
    let own : AskedOn (Talks Asked) k.down.sent kept landed None (Framed frames.Done ∷ []) held =
    subst (λ (o : Option Header). AskedOn (Talks Asked) k.down.sent kept landed o (Framed frames.Done ∷ []) held) none
    (subst (λ (h : List Message). AskedOn (Talks Asked) k.down.sent kept landed begun h held) word
    (subst (λ (r : Stance). AskedOn r k.down.sent kept landed begun hand held) asked x)) in
    let both = own refl in
    let nothing : blocks_in k.down.sent ≡ [] = late_none Asked k.down.sent refl (hears_down (send_there newest ss) Asked k.down.sent k.up.sent talk) in
    (Splits-same kept landed (blocks_in k.down.sent) [] both.0 nothing, both.1)

some_of : (o : Option ℕ) → is_some o ≡ true → (n : ℕ) × (o ≡ Some n)
some_of None e = cc
some_of (Some n) e = (n, refl)

-- a closed lane holds no block
closed_rests : (p : LanePast) → IsSound p → is_some p.claims.closed ≡ true → p.claims.held ≡ false
closed_rests p s e =
    let n = some_of p.claims.closed e in
    let both = s.closed n.0 n.1 in
    false_from_ne_true p.claims.held (λ h. let less : p.claims.sure < length p.claims.kept = s.held h in omega (arith, less, both.0, both.1))

cons_not : (b : Block) (bs : List Block) → b ∷ bs ≡ [] → ⊥
cons_not b bs e = cc

-- ---- the finish

module _ (sounds : (n : ℕ) (planned : List Block) (h : List SendEvent) (l : ℕ) → IsLegal n planned h → IsSound (sent_past h l)) (w : PlainWorld) (l : ℕ) (c : Conversation w) (f : Finishing w) (within : l < length w.pairs) (here : recv.state_at w.receiver l ≡ recv_states.ReadNextCmd) (sized : (recv.lane_at w.receiver l).is_sized ≡ true) (word : has_word w l) (sound : is_failure w.receiver.answer ≡ false) where
  abbrev idle : List RecvEvent
  idle = recv_events.Idle (number l) ∷ []

  asked : receives_at w l ≡ Talks Asked
  asked = stands_asked w l here sized word

  pub comes : is_coming w l ≡ true
  comes = rw (asked, word) refl

  -- the receiver with the lane idle is ready
  abbrev Ready : Type 0
  Ready = ready.is_ready (length w.receiver.lanes) (w.receiver.history ++ idle) ≡ true

  past_there : (k : ℕ) → k ≢ l → past_of (w.receiver.history ++ idle) k ≡ past_of w.receiver.history k
  past_there k ne = past_of-append w.receiver.history idle k ∙ (rw (ne_eqb l k (λ e. ne (sym e))) refl)

  in_lanes : (k : ℕ) → k < length w.pairs → k < length w.receiver.lanes
  in_lanes k below = subst (λ (n : ℕ). k < n) (sym c.recv_lanes) below

  ready_parts : Ready → (every (length w.receiver.lanes) (ready.rests (w.receiver.history ++ idle)) ≡ true) × (every (length w.receiver.lanes) (ready.is_known_closed (w.receiver.history ++ idle)) ≡ true)
  ready_parts r = let a = and_parts _ _ r in let b = and_parts _ _ a.0 in (b.0, a.1)

  rests : Ready → (k : ℕ) → k < length w.pairs → k ≢ l → ((recv.past_at w.receiver k).is_idle ≡ true) ⊎ ((recv.past_at w.receiver k).is_closed ≡ true)
  rests r k below ne =
      or_cases (recv.past_at w.receiver k).is_idle (recv.past_at w.receiver k).is_closed
      (subst (λ (p : RecvPast). (p.is_idle || p.is_closed) ≡ true) (past_there k ne)
      (every_at (length w.receiver.lanes) k (ready.rests (w.receiver.history ++ idle)) (ready_parts r).0 (in_lanes k below)))

  settled : Ready → (k : ℕ) → k < length w.pairs → (recv.past_at w.receiver k).is_closed ≡ true → (ready.is_confirmed w.receiver.history k ≡ true) ⊎ (has (telling w l) k ≡ true)
  settled r k below closed = go (or_cases (not (recv.past_at w.receiver k).is_closed) (ready.is_confirmed w.receiver.history k || has (confirm_of w.receiver.history k).tellers l) there) where
    there : (not (recv.past_at w.receiver k).is_closed || (ready.is_confirmed w.receiver.history k || has (confirm_of w.receiver.history k).tellers l)) ≡ true
    there =
        subst (λ (x : Confirm). (not (recv.past_at w.receiver k).is_closed || x.is_confirmed) ≡ true) (confirm_of-append w.receiver.history idle k)
        (subst (λ (p : RecvPast). (not p.is_closed || (confirm_of (w.receiver.history ++ idle) k).is_confirmed) ≡ true) (past_of-append w.receiver.history idle k)
        (every_at (length w.receiver.lanes) k (ready.is_known_closed (w.receiver.history ++ idle)) (ready_parts r).1 (in_lanes k below)))

    go : (not (recv.past_at w.receiver k).is_closed ≡ true) ⊎ ((ready.is_confirmed w.receiver.history k || has (confirm_of w.receiver.history k).tellers l) ≡ true) → (ready.is_confirmed w.receiver.history k ≡ true) ⊎ (has (telling w l) k ≡ true)
    go (inl x) = absurd (both_ways (recv.past_at w.receiver k).is_closed (not-true (recv.past_at w.receiver k).is_closed x) closed)
    go (inr x) = elim (or_cases (ready.is_confirmed w.receiver.history k) (has (confirm_of w.receiver.history k).tellers l) x) [ inl y ↦ inl y | inr y ↦ inr (tellers_tell (terms_of w.receiver) w.receiver.history l k c.receiver.legal ∙ y) ]

  -- the lane itself isn't closed
  opens : (recv.past_at w.receiver l).is_closed ≡ false
  opens = false_from_ne_true (recv.past_at w.receiver l).is_closed (λ e. let x = ((c.lanes l within).shut e).silent in cc (asked))

  no_busy : Ready → (k : ℕ) → k < length w.pairs → IsBusy w k → ⊥
  no_busy r k below busy = go (recv.past_at w.receiver k).is_closed refl busy where
    go : (b : Bool) → (recv.past_at w.receiver k).is_closed ≡ b → BusyBy b w k → ⊥
    go true closed b = elim (settled r k below closed) [
      | inl x ↦ both_ways (ready.is_confirmed w.receiver.history k) b.0 x
      | inr x ↦ both_ways (is_coming w l) (b.1 l within x) comes
    ]
    go false closed b = elim (cases_eq k l) [
      | inl same ↦ both_ways (is_coming w l) (subst (λ (i : ℕ). is_coming w i ≡ false) same b.1) comes
      | inr ne ↦ elim (rests r k below ne) [
        | inl x ↦ both_ways (recv.past_at w.receiver k).is_idle b.0 x
        | inr x ↦ both_ways (recv.past_at w.receiver k).is_closed closed x
      ]
    ]

  pub no_wait : Ready → waiting_blocks w.sender ≡ []
  no_wait r = go (waiting_blocks w.sender) refl where
    go : (bs : List Block) → waiting_blocks w.sender ≡ bs → waiting_blocks w.sender ≡ []
    go [] e = e
    go (b ∷ bs) e = let x = f.witness sound (λ (n : waiting_blocks w.sender ≡ []). cons_not b bs (sym e ∙ n)) in absurd (no_busy r x.0 x.1 x.2)

  pub told_closed : (k : ℕ) → has (telling w l) k ≡ true → is_closed w.sender k ≡ true
  told_closed k told = elim (f.tellings l k within (subst IsTalking (sym asked) tt) told) [
    | inl x ↦ x
    | inr (inl x) ↦ absurd (both_ways true (sym (subst (λ (h : RecvHold). marked_in k (to_say h) ≡ true) word x)) refl)
    | inr (inr (inl x)) ↦ absurd (no_marks k (lane_at w.sender l) (past_at w.sender l).is_acked (pair_at w l).send (sends_at w l) (receives_at w l) (pair_at w l).taken (pair_at w l).newest refl asked x.0 x.1 (c.lanes l within).agrees.on_taken x.2)
    | inr (inr (inr x)) ↦ absurd (both_ways true (subst (λ (h : RecvHold). has_done (in_hand h ++ down_sent (pair_at w l).taken) ≡ false) word x.1) refl)
  ]

  closed_landed : (k : ℕ) → k < length w.pairs → is_closed w.sender k ≡ true → Splits (sending w.sender k).kept (receiving w.receiver k).landed [] × ((past_at w.sender k).claims.held ≡ false)
  closed_landed k below closed =
      let at = sounds (length w.sender.lanes) (blocks_of w.sender) w.sender.history k c.sender.legal in
      (((c.lanes k below).closed closed).same, closed_rests (past_at w.sender k) at closed)

  pub all_landed : Ready → (k : ℕ) → k < length w.pairs → Splits (sending w.sender k).kept (receiving w.receiver k).landed [] × ((past_at w.sender k).claims.held ≡ false)
  all_landed r k below = elim (cases_eq k l) [
    | inl same ↦ subst (λ (i : ℕ). Splits (sending w.sender i).kept (receiving w.receiver i).landed [] × ((past_at w.sender i).claims.held ≡ false)) (sym same) own
    | inr ne ↦ elim (rests r k below ne) [
      | inl x ↦ let i = (c.lanes k below).idle x in (i.same, i.holds)
      | inr x ↦ elim (settled r k below x) [
        | inl y ↦ closed_landed k below (f.confirmed k y)
        | inr y ↦ closed_landed k below (told_closed k y)
      ]
    ]
  ] where
    fares : Fares (is_failure w.receiver.answer) recv_states.ReadNextCmd (recv.lane_at w.receiver l) (recv.past_at w.receiver l) (end_of w.receiver.history)
    fares = recv_fares w l recv_states.ReadNextCmd c within here

    own : Splits (sending w.sender l).kept (receiving w.receiver l).landed [] × ((past_at w.sender l).claims.held ≡ false)
    own =
        let at = c.lanes l within in
        own_here (sends_at w l) (receives_at w l) (pair_at w l).taken (pair_at w l).newest (sending w.sender l).kept (receiving w.receiver l).landed (receiving w.receiver l).begun (in_hand (pair_at w l).recv) (past_at w.sender l).claims.held
        asked (ap in_hand word) (ap (option_map (known_header w.receiver.known)) fares.1) at.agrees.on_taken at.asked
