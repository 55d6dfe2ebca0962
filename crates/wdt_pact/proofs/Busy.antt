-- A lane to which the sender goes on to send may take the blocks that wait.
use Rattle.std.proofs.Common.{◌≡◌, ◌⊎◌, inl, inr, ℕ, ◌<◌, ◌||◌, Bool, true, false, List, [], ◌∷◌, ◌++◌, length, Option, Some, None, subst, sym, ap, ◌∙◌, refl}
use Rattle.std.proofs.lemmas.Bool.{both_ways, or_cases, or_from, false_from_ne_true}
use Rattle.std.proofs.lemmas.Option.{same_Some}
use Rattle.wdt_codec.specs.declared.frames.Frame.{Frame}
use Rattle.wdt_codec.specs.declared.frames.Frame.TheVariants as frames
use Rattle.wdt_sender_fsm.specs.declared.acts.SendAct.TheVariants as acts
use Rattle.wdt_sender_fsm.specs.declared.states.SendLane.{SendLane}
use Rattle.wdt_sender_fsm.specs.Phases.{Phase, Listing, Told, Sending, Asked, Bye, Message, Framed, down, up}
use Rattle.wdt_sender_fsm.specs.PlainSender.{is_closed, lane_at, past_at, state_at}
use Rattle.wdt_sender_fsm.specs.Talk.{moved}
use Rattle.wdt_pact.proofs.Below.{moved-first}
use Rattle.wdt_receiver_fsm.specs.declared.states.RecvLane.{RecvLane}
use Rattle.wdt_receiver_fsm.specs.declared.acts.RecvAct.TheVariants as recv_acts
use Rattle.wdt_receiver_fsm.specs.PlainReceiver as recv
use Rattle.wdt_receiver_fsm.specs.Ready.{is_confirmed}
use Rattle.wdt_receiver_fsm.specs.Sets.{has}
use Rattle.wdt_pact.specs.Links.{Link}
use Rattle.wdt_pact.specs.Pairs.{SendHold, SendDoes, SendHas, RecvHold, RecvDoes}
use Rattle.wdt_pact.specs.World.{PlainWorld, pair_at}
use Rattle.wdt_pact.specs.Stances.{IsTalking, Stance, Talks, Aborts, Silent, AgreeOn, OnLink, Hears, is_abort_down, is_calm, is_late, IsLate, recv_stance, send_stance, send_there}
use Rattle.wdt_pact.specs.Lists.{has_done, in_hand}
use Rattle.wdt_pact.specs.Conversation.{Conversation, send_in_hand, to_say, up_sent}
use Rattle.wdt_pact.specs.Finishing.{IsTelling, IsBusy, BusyBy, coming_on, down_sent, is_coming, marked_in, marks_lane, receives_at, sends_at, says_done, telling}
use Rattle.wdt_pact.specs.Progress.{Holds, SendWrites, RecvWrites}
use Rattle.wdt_pact.proofs.Links.{all_done_late, all_late, held_late, sending_talk}
use Rattle.wdt_pact.proofs.Tellings.{is_told, all_told}
use Rattle.wdt_pact.proofs.Lists.{has_done-append}
use Rattle.wdt_pact.proofs.Finishing.{hand_marks, hears_down, marked-append, marks_lead}

-- ---- no last word

-- none is coming where the receiver isn't past it, none is on the way, and the sender isn't to say it
not_coming : (lane : RecvLane) (idle acked : Bool) (hold : RecvHold) (rs : Stance) (ds : List Message) (says : Bool) → recv_stance lane idle acked hold ≡ rs
    → ((q : Phase) → rs ≡ Talks q → (is_late q ≡ false) ⊎ (in_hand hold ≡ [])) → ((q : Phase) → rs ≡ Talks q → has_done ds ≡ false) → ((q : Phase) → rs ≡ Talks q → says ≡ false) → coming_on rs (in_hand hold ++ ds) says ≡ false
not_coming lane idle acked hold (Talks q) ds says is hand way word =
    or_from (has_done (in_hand hold ++ ds)) says (has_done-append (in_hand hold) ds ∙ or_from (has_done (in_hand hold)) (has_done ds) (no_hand (hand q refl)) (way q refl)) (word q refl) where
      no_hand : (is_late q ≡ false) ⊎ (in_hand hold ≡ []) → has_done (in_hand hold) ≡ false
      no_hand (inl l) = false_from_ne_true (has_done (in_hand hold)) (λ e. both_ways (is_late q) l (held_late lane idle acked hold q is e))
      no_hand (inr n) = ap has_done n
not_coming lane idle acked hold Aborts ds says is hand way word = refl
not_coming lane idle acked hold Silent ds says is hand way word = refl

-- a sender that hasn't said its last word
early_talk : (s q : Phase) (ds : List Message) (us : List Frame) → OnLink (Talks s) (Talks q) ds us → is_late s ≡ false → (has_done ds ≡ false) × ((us ≡ []) → is_late q ≡ false)
early_talk s q ds us (inl a) early = (false_from_ne_true (has_done ds) (λ e. both_ways (is_late s) early (all_done_late ds q s a.1 e)), λ n. false_from_ne_true (is_late q) (λ e. both_ways (is_late s) early (all_late ds q s a.1 e)))
early_talk s q ds us (inr a) early = (ap has_done a.0, λ n. subst (λ (x : Phase). is_late x ≡ false) (same_Some s q (subst (λ (xs : List Frame). moved up xs s ≡ Some q) n a.1)) early)

-- the word is no move of a phase in which the receiver has the word, or of an early one
done_moves : (p q : Phase) → down p (Framed frames.Done) ≡ Some q → (p ≡ Sending) ⊎ (p ≡ Bye)
done_moves Sending q e = inl refl
done_moves Bye q e = inr refl
done_moves p q e = cc

-- a phase of the sender in which neither the word is coming nor the receiver past it
abbrev pub IsEarly : Phase → Type 0
IsEarly s = (q : Phase) (ds : List Message) (us : List Frame) → OnLink (Talks s) (Talks q) ds us → (is_late q ≡ false) × (has_done ds ≡ false)

pub sending_early : IsEarly Sending
sending_early q ds us a = sending_talk q ds us a

told_late : (q : Phase) → is_told q ≡ true → is_late q ≡ false
told_late Listing e = refl
told_late Told e = refl
told_late q e = cc

pub told_early : (s : Phase) → is_told s ≡ true → IsEarly s
told_early s told q ds us (inl a) = let x = early_talk s q ds us (inl a) (told_late s told) in (x.1 a.0, x.0)
told_early s told q ds us (inr a) = (told_late q (all_told us s q told a.1), ap has_done a.0)

-- ---- what the sender's lane holds

pub not_says : (newest : Option Link) (hold : SendHold) (ss : Stance) → says_done newest hold ≡ true → SendWrites hold ss → (newest ≡ None) × ((s : Phase) × (ss ≡ Talks s) × ((s ≡ Sending) ⊎ (s ≡ Bye)))
not_says None (SendDoes (acts.Write frames.Done)) (Talks s) e w = (refl, (s, refl, done_moves s w.0 w.1))
not_says None (SendDoes (acts.Write frames.Done)) Aborts e w = cc
not_says None (SendDoes (acts.Write frames.Done)) Silent e w = absurd w
not_says None hold ss e w = cc
not_says (Some t) hold ss e w = cc

-- it isn't to say the word where the receiver stands so
word_apart : (newest : Option Link) (hold : SendHold) (ss : Stance) (q : Phase) (k : Link) → SendWrites hold ss → AgreeOn (send_there newest ss) (Talks q) (Some k) → ((s : Phase) → (s ≡ Sending) ⊎ (s ≡ Bye) → OnLink (Talks s) (Talks q) k.down.sent k.up.sent → ⊥) → says_done newest hold ≡ false
word_apart newest hold ss q k w a f = false_from_ne_true (says_done newest hold) (λ e.
    let x = not_says newest hold ss e w in
    f x.1.0 x.1.2 (subst (λ (st : Stance). OnLink st (Talks q) k.down.sent k.up.sent) x.1.1 (subst (λ (o : Option Link). OnLink (send_there o ss) (Talks q) k.down.sent k.up.sent) x.0 a)))

asked_apart : (s : Phase) (ds : List Message) (us : List Frame) → (s ≡ Sending) ⊎ (s ≡ Bye) → OnLink (Talks s) (Talks Asked) ds us → ⊥
asked_apart s ds us (inl e) a = both_ways true (sending_talk Asked ds us (subst (λ (x : Phase). OnLink (Talks x) (Talks Asked) ds us) e a)).0 refl
asked_apart s ds us (inr e) a = go ds us (subst (λ (x : Phase). OnLink (Talks x) (Talks Asked) ds us) e a) where
  go : (ds : List Message) (us : List Frame) → OnLink (Talks Bye) (Talks Asked) ds us → ⊥
  go [] us (inl t) = let x = t.1 in cc
  go (d ∷ ds) us (inl t) = let x = t.1 in cc
  go ds [] (inr t) = let x = t.1 in cc
  go ds (u ∷ us) (inr t) = let x = t.1 in cc

-- behind a phase in which the receiver has the word nothing comes down
pub asked_none : (ds : List Message) → Hears down is_calm is_abort_down Asked ds → has_done ds ≡ false
asked_none ds (inl a) = go ds a.at a.moves where
  go : (ds : List Message) (q : Phase) → moved down ds Asked ≡ Some q → has_done ds ≡ false
  go [] q e = refl
  go (d ∷ ds) q e = cc
asked_none ds (inr a) = ap has_done a.all ∙ go a.before a.last a.rests.at a.failure a.rests.moves where
  go : (before : List Message) (m : Message) (q : Phase) → is_abort_down m ≡ true → moved down before Asked ≡ Some q → has_done (before ++ m ∷ []) ≡ false
  go [] (Framed (frames.Abort code)) q f e = refl
  go [] m q f e = cc
  go (d ∷ ds) m q f e = cc

-- ---- a lane that told of one that the sender doesn't know as closed

pub marks_asked : (n : ℕ) (f : Frame) (q r : Phase) → marks_lane n f ≡ true → up q f ≡ Some r → q ≡ Asked
marks_asked n (frames.ErrMarks ms) Asked r m e = refl
marks_asked n (frames.ErrMarks ms) q r m e = cc
marks_asked n f q r m e = cc

says_marks : (n : ℕ) (hold : RecvHold) (q : Phase) → marked_in n (to_say hold) ≡ true → RecvWrites hold (Talks q) → (q ≡ Asked) × (in_hand hold ≡ [])
says_marks n (RecvDoes (recv_acts.Write f)) q m w = (marks_asked n f q w.0 (one (marks_lane n f) m) w.1, refl) where
  one : (b : Bool) → (b || false) ≡ true → b ≡ true
  one true e = refl
  one false e = cc
says_marks n hold q m w = cc

marks_end : (n : ℕ) (us : List Frame) (s q : Phase) → moved up us s ≡ Some q → marked_in n us ≡ true → q ≡ Sending
marks_end n [] s q e m = cc
marks_end n (u ∷ us) s q e m = go (marks_end n us) (or_cases (marks_lane n u) (marked_in n us) m) where
  f : (r : Phase) × (up s u ≡ Some r) × (moved up us r ≡ Some q)
  f = moved-first up s q u us e

  last : (us : List Frame) → moved up us Sending ≡ Some q → q ≡ Sending
  last [] x = sym (same_Some Sending q x)
  last (v ∷ vs) x = cc

  go : ((r q : Phase) → moved up us r ≡ Some q → marked_in n us ≡ true → q ≡ Sending) → (marks_lane n u ≡ true) ⊎ (marked_in n us ≡ true) → q ≡ Sending
  go more (inl x) = last us (subst (λ (r : Phase). moved up us r ≡ Some q) (marks_lead n u s f.0 x f.1) f.2)
  go more (inr x) = more f.0 q f.2 x

-- no word comes where the receiver doesn't talk
pub where_talking : (rs : Stance) (ds : List Message) (says : Bool) → (IsTalking rs → coming_on rs ds says ≡ false) → coming_on rs ds says ≡ false
where_talking (Talks q) ds says f = f tt
where_talking Aborts ds says f = refl
where_talking Silent ds says f = refl

silent_quiet : (rs : Stance) (ds : List Message) (says : Bool) → has_done ds ≡ false → says ≡ false → coming_on rs ds says ≡ false
silent_quiet (Talks q) ds says a b = or_from (has_done ds) says a b
silent_quiet Aborts ds says a b = refl
silent_quiet Silent ds says a b = refl

talks_not : (ss : Stance) (s : Phase) → ss ≡ Talks s → IsTalking ss
talks_not ss s e = subst IsTalking (sym e) tt

hand_says : (n : ℕ) (newest : Option Link) (hold : SendHold) → marked_in n (send_in_hand hold) ≡ true → says_done newest hold ≡ false
hand_says n None (SendHas i) m = refl
hand_says n (Some t) (SendHas i) m = refl
hand_says n newest (SendDoes a) m = cc

up_none : (n : ℕ) (s q : Phase) (us : List Frame) → (s ≡ Sending) ⊎ (s ≡ Bye) → moved up us s ≡ Some q → marked_in n us ≡ true → ⊥
up_none n s q [] h e m = cc
up_none n s q (u ∷ us) (inl h) e m = let f = moved-first up s q u us e in let x = subst (λ (p : Phase). up p u ≡ Some f.0) h f.1 in cc
up_none n s q (u ∷ us) (inr h) e m = let f = moved-first up s q u us e in let x = subst (λ (p : Phase). up p u ≡ Some f.0) h f.1 in cc

-- marks are in the sender's hand or on their way
marked_quiet : (n : ℕ) (lane : SendLane) (acked : Bool) (hold : SendHold) (ss : Stance) (q : Phase) (j : Link) (newest : Option Link) → send_stance lane acked hold ≡ ss → newest ≡ None → IsTalking ss → SendWrites hold ss → AgreeOn (send_there newest ss) (Talks q) (Some j) → marked_in n (send_in_hand hold ++ j.up.sent) ≡ true
    → (is_late q ≡ false) × (has_done j.down.sent ≡ false) × (says_done newest hold ≡ false)
marked_quiet n lane acked hold Aborts q j newest is none t wr a m = absurd t
marked_quiet n lane acked hold Silent q j newest is none t wr a m = absurd t
marked_quiet n lane acked hold (Talks s) q j (Some x) is none t wr a m = cc
marked_quiet n lane acked hold (Talks s) q j None is none t wr a m = go (marked-append n (send_in_hand hold) j.up.sent m) a where
  go : (marked_in n (send_in_hand hold) ≡ true) ⊎ (marked_in n j.up.sent ≡ true) → OnLink (Talks s) (Talks q) j.down.sent j.up.sent → (is_late q ≡ false) × (has_done j.down.sent ≡ false) × (says_done None hold ≡ false)
  go (inl x) o =
      let same : s ≡ Sending = hand_marks n lane acked hold s is x in
      let y = sending_talk q j.down.sent j.up.sent (subst (λ (p : Phase). OnLink (Talks p) (Talks q) j.down.sent j.up.sent) same o) in
      (y.0, y.1, hand_says n None hold x)
  go (inr x) (inl o) = absurd (both_ways (marked_in n j.up.sent) (ap (marked_in n) o.0) x)
  go (inr x) (inr o) =
      let same : q ≡ Sending = marks_end n j.up.sent s q o.1 x in
      (ap is_late same, ap has_done o.0, false_from_ne_true (says_done None hold) (λ e. let y = not_says None hold (Talks s) e wr in up_none n s q j.up.sent (word y.1.0 y.1.1 y.1.2) o.1 x)) where
        word : (p : Phase) → Talks s ≡ Talks p → (p ≡ Sending) ⊎ (p ≡ Bye) → (s ≡ Sending) ⊎ (s ≡ Bye)
        word p i y = let same : p ≡ s = cc in subst (λ (z : Phase). (z ≡ Sending) ⊎ (z ≡ Bye)) same y

module _ (w : PlainWorld) (k n : ℕ) (c : Conversation w) (below : k < length w.pairs) (h : Holds (sends_at w k) (receives_at w k) (state_at w.sender k) (recv.state_at w.receiver k) (pair_at w k)) where
  abbrev nothing : Type 0
  nothing = is_coming w k ≡ false

  -- the link that the receiver took, where it talks
  taken_at : (q : Phase) → receives_at w k ≡ Talks q → (j : Link) × ((pair_at w k).taken ≡ Some j) × AgreeOn (send_there (pair_at w k).newest (sends_at w k)) (Talks q) (Some j)
  taken_at q e = go (pair_at w k).taken refl (c.lanes k below).agrees.on_taken where
    go : (o : Option Link) → (pair_at w k).taken ≡ o → AgreeOn (send_there (pair_at w k).newest (sends_at w k)) (receives_at w k) o → (j : Link) × ((pair_at w k).taken ≡ Some j) × AgreeOn (send_there (pair_at w k).newest (sends_at w k)) (Talks q) (Some j)
    go None is a = let x = a.1 in cc (e)
    go (Some j) is a = (j, is, subst (λ (st : Stance). AgreeOn (send_there (pair_at w k).newest (sends_at w k)) st (Some j)) e a)

  -- so nothing comes, where that follows from what both ends are at
  quiet : ((q : Phase) (j : Link) → receives_at w k ≡ Talks q → (pair_at w k).taken ≡ Some j → AgreeOn (send_there (pair_at w k).newest (sends_at w k)) (Talks q) (Some j) → ((is_late q ≡ false) ⊎ (in_hand (pair_at w k).recv ≡ [])) × (has_done j.down.sent ≡ false) × (says_done (pair_at w k).newest (pair_at w k).send ≡ false)) → nothing
  quiet f =
      not_coming (recv.lane_at w.receiver k) (recv.past_at w.receiver k).is_idle (recv.past_at w.receiver k).is_acked (pair_at w k).recv (receives_at w k) (down_sent (pair_at w k).taken) (says_done (pair_at w k).newest (pair_at w k).send) refl
      (λ q e. let t = taken_at q e in (f q t.0 e t.1 t.2).0)
      (λ q e. let t = taken_at q e in ap (λ (o : Option Link). has_done (down_sent o)) t.1 ∙ (f q t.0 e t.1 t.2).1)
      (λ q e. let t = taken_at q e in (f q t.0 e t.1 t.2).2)

  -- where marks are on their way to a sender that talks, no last word is on its way, nor read
  pub marked_none : (q : Phase) → receives_at w k ≡ Talks q → (pair_at w k).newest ≡ None → IsTalking (sends_at w k) → marked_in n (send_in_hand (pair_at w k).send ++ up_sent (pair_at w k).taken) ≡ true → has_done (in_hand (pair_at w k).recv ++ down_sent (pair_at w k).taken) ≡ false
  marked_none q e top talks m =
      let t = taken_at q e in
      let y = marked_quiet n (lane_at w.sender k) (past_at w.sender k).is_acked (pair_at w k).send (sends_at w k) q t.0 (pair_at w k).newest refl top talks h.send_writes t.2 (subst (λ (o : Option Link). marked_in n (send_in_hand (pair_at w k).send ++ up_sent o) ≡ true) t.1 m) in
      has_done-append (in_hand (pair_at w k).recv) (down_sent (pair_at w k).taken)
      ∙ or_from (has_done (in_hand (pair_at w k).recv)) (has_done (down_sent (pair_at w k).taken))
      (false_from_ne_true (has_done (in_hand (pair_at w k).recv)) (λ d. both_ways (is_late q) y.0 (held_late (recv.lane_at w.receiver k) (recv.past_at w.receiver k).is_idle (recv.past_at w.receiver k).is_acked (pair_at w k).recv q e d)))
      (ap (λ (o : Option Link). has_done (down_sent o)) t.1 ∙ y.1)

  -- a lane that is about to tell of a closed one
  pub says_quiet : marked_in n (to_say (pair_at w k).recv) ≡ true → nothing
  says_quiet x = quiet (λ q j e is a.
      let s = says_marks n (pair_at w k).recv q x (subst (RecvWrites (pair_at w k).recv) e h.recv_writes) in
      let b : AgreeOn (send_there (pair_at w k).newest (sends_at w k)) (Talks Asked) (Some j) = subst (λ (p : Phase). AgreeOn (send_there (pair_at w k).newest (sends_at w k)) (Talks p) (Some j)) s.0 a in (
        inr s.1,
        asked_none j.down.sent (hears_down (send_there (pair_at w k).newest (sends_at w k)) Asked j.down.sent j.up.sent b),
        word_apart (pair_at w k).newest (pair_at w k).send (sends_at w k) Asked j h.send_writes b (λ s i o. asked_apart s j.down.sent j.up.sent i o),
      ))

  told_quiet : IsTelling w k n → is_closed w.sender n ≡ false → nothing
  told_quiet (inl x) opens = absurd (both_ways (is_closed w.sender n) opens x)
  told_quiet (inr (inl x)) opens = says_quiet x
  told_quiet (inr (inr (inl x))) opens = quiet (λ q j e is a.
      let y = marked_quiet n (lane_at w.sender k) (past_at w.sender k).is_acked (pair_at w k).send (sends_at w k) q j (pair_at w k).newest refl x.0 x.1 h.send_writes a (subst (λ (o : Option Link). marked_in n (send_in_hand (pair_at w k).send ++ up_sent o) ≡ true) is x.2) in
      (inl y.0, y.1, y.2))
  told_quiet (inr (inr (inr x))) opens =
      silent_quiet (receives_at w k) (in_hand (pair_at w k).recv ++ down_sent (pair_at w k).taken) (says_done (pair_at w k).newest (pair_at w k).send) x.1
      (false_from_ne_true (says_done (pair_at w k).newest (pair_at w k).send) (λ e. let y = not_says (pair_at w k).newest (pair_at w k).send (sends_at w k) e h.send_writes in x.0 y.0 (talks_not (sends_at w k) y.1.0 y.1.1)))

-- ---- the lane itself

-- a lane that isn't closed at the sender, to which the sender goes on to send or is to send, is busy
pub own_busy : (w : PlainWorld) (l : ℕ) (s : Phase) → Conversation w → ((k : ℕ) → k < length w.pairs → Holds (sends_at w k) (receives_at w k) (state_at w.sender k) (recv.state_at w.receiver k) (pair_at w k))
    → ((k : ℕ) → k < length w.pairs → IsTalking (receives_at w k) → has (telling w k) l ≡ true → IsTelling w k l) → (is_confirmed w.receiver.history l ≡ true → is_closed w.sender l ≡ true)
    → l < length w.pairs → is_closed w.sender l ≡ false → (pair_at w l).newest ≡ None → sends_at w l ≡ Talks s → IsEarly s → is_late s ≡ false → says_done (pair_at w l).newest (pair_at w l).send ≡ false → IsBusy w l
own_busy w l s c holds tellings confirmed within opens top talks early late says = go (recv.past_at w.receiver l).is_closed where
  idle_not : (recv.past_at w.receiver l).is_idle ≡ false
  idle_not = false_from_ne_true (recv.past_at w.receiver l).is_idle (λ e. both_ways (is_late s) late (subst IsLate talks (((c.lanes l within).idle e).late top)))

  no_word : is_coming w l ≡ false
  no_word = quiet w l l c within (holds l within) (λ q j e is a.
      let o : OnLink (Talks s) (Talks q) j.down.sent j.up.sent = subst (λ (st : Stance). OnLink st (Talks q) j.down.sent j.up.sent) talks (subst (λ (x : Option Link). OnLink (send_there x (sends_at w l)) (Talks q) j.down.sent j.up.sent) top a) in
      let x = early q j.down.sent j.up.sent o in
      (inl x.0, x.1, says))

  go : (b : Bool) → BusyBy b w l
  go true = (false_from_ne_true (is_confirmed w.receiver.history l) (λ e. both_ways (is_closed w.sender l) opens (confirmed e)), λ k below t. where_talking (receives_at w k) _ _ (λ talks. told_quiet w k l c below (holds k below) (tellings k below talks t) opens))
  go false = (idle_not, no_word)
