-- Whatever happens, of a closed lane that a lane with a phase tells of, the sender knows or will know, or it is past asking.
use Rattle.std.proofs.Common.{◌≡◌, inl, inr, ℕ, ◌<◌, ◌||◌, ◌&&◌, not, Bool, true, false, List, [], ◌∷◌, ◌++◌, length, Option, Some, None, subst, sym, ap, ◌∙◌, refl}
use Rattle.std.proofs.lemmas.Bool.{both_ways}
use Rattle.wdt_codec.specs.declared.frames.Frame.{Frame}
use Rattle.wdt_codec.specs.declared.frames.Frame.TheVariants as frames
use Rattle.wdt_sender_fsm.specs.declared.acts.SendAct.{SendAct}
use Rattle.wdt_sender_fsm.specs.declared.acts.SendAct.TheVariants as acts
use Rattle.wdt_sender_fsm.specs.declared.inputs.SendIn.TheVariants as inputs
use Rattle.wdt_sender_fsm.specs.declared.states.SendLane.{SendLane}
use Rattle.wdt_sender_fsm.specs.declared.states.SendState.{SendState}
use Rattle.wdt_sender_fsm.specs.declared.states.SendState.TheVariants as states
use Rattle.wdt_sender_fsm.specs.Phases.{Framed, Message, Phase, Asked, Sending as SendingPhase, down, is_abort, up, with_left}
use Rattle.wdt_sender_fsm.specs.PlainSender.{is_closed, lane_at, past_at, state_at}
use Rattle.wdt_receiver_fsm.specs.declared.acts.RecvAct.{RecvAct}
use Rattle.wdt_receiver_fsm.specs.declared.acts.RecvAct.TheVariants as recv_acts
use Rattle.wdt_receiver_fsm.specs.declared.states.RecvState.{RecvState}
use Rattle.wdt_receiver_fsm.specs.declared.states.RecvState.TheVariants as recv_states
use Rattle.wdt_receiver_fsm.specs.PlainReceiver as recv
use Rattle.wdt_receiver_fsm.specs.Receiver.{terms_of}
use Rattle.wdt_receiver_fsm.specs.Sets.{has}
use Rattle.wdt_receiver_fsm.proofs.ForCallers.{legal_sound}
use Rattle.wdt_pact.specs.Belongs.{RecvBelongs, SendBelongs, SendFrameIn}
use Rattle.wdt_pact.specs.Conversation.{send_in_hand, up_sent}
use Rattle.wdt_pact.specs.Finishing.{Finishing, IsTelling, down_sent, marked_in, marks_lane, receives_at, sends_at, telling}
use Rattle.wdt_pact.specs.Fitting.{IsSound}
use Rattle.wdt_pact.specs.Links.{Link, is_cut}
use Rattle.wdt_pact.specs.Lists.{has_done}
use Rattle.wdt_pact.specs.Pairs.{Pair, RecvHold, RecvDoes, RecvHas, SendHold, SendDoes, SendHas, recv_does, recv_stops, recv_writes, recv_wrote_or_lost, send_does, send_left, wrote_or_lost}
use Rattle.wdt_pact.specs.Progress.{Holds, Listens, RecvReads, SendReads, SendWrites, recv_listens, send_listens}
use Rattle.wdt_pact.specs.Stances.{AgreeOn, is_abort_down, is_any, is_calm, IsTalking, OnLink, Stance, Talks, Aborts, Silent, recv_stance, send_stance, send_there}
use Rattle.wdt_pact.specs.World.{PlainWorld, pair_at}
use Rattle.wdt_pact.proofs.Below.{one_talker}
use Rattle.wdt_pact.proofs.Busy.{asked_none, marked_none, marks_asked}
use Rattle.wdt_pact.proofs.Finishing.{hears_down}
use Rattle.wdt_pact.proofs.Links.{nothing_comes}
use Rattle.wdt_pact.proofs.Moving.{lane_holds}
use Rattle.wdt_pact.proofs.RecvRows.{recv_fares}
use Rattle.wdt_pact.proofs.RecvWriting.{talks_in}
use Rattle.wdt_pact.proofs.Telling.{Grants, TellsOn, dials_tell, reads_tell as send_reads_tell, sends_tell, writes_tell as send_writes_tell}
use Rattle.wdt_pact.proofs.TellingUp.{reads_tell as recv_reads_tell, takes_tell, writes_tell as recv_writes_tell}

-- ---- stances that talk

pub phase_in : (st : Stance) → IsTalking st → (q : Phase) × (st ≡ Talks q)
phase_in (Talks q) t = (q, refl)
phase_in Aborts t = absurd t
phase_in Silent t = absurd t

pub listens_in : (f : Phase → Bool) (st : Stance) → Listens f st → IsTalking st
listens_in f (Talks q) x = tt
listens_in f Aborts x = absurd x
listens_in f Silent x = absurd x

or_none : (b : Bool) → (b || false) ≡ true → b ≡ true
or_none true e = refl
or_none false e = cc

-- who has the word has no marks to read
mute_talk : (q : ℕ) (s r t : Phase) (m : Message) (ds : List Message) (us : List Frame) → down s m ≡ Some t → OnLink (Talks s) (Talks r) ds us
    → marked_in q us ≡ true → ⊥
mute_talk q s r t m ds us e (inl a) marks = both_ways (marked_in q us) (ap (marked_in q) a.0) marks
mute_talk q s r t m ds us e (inr a) marks =
    both_ways (marked_in q us) (ap (marked_in q) (nothing_comes down up is_abort_down is_abort is_calm is_any one_talker s t r m us e a.1)) marks

-- a lane that says nothing where it writes is about to say that its end has failed
abort_in : (lane : SendLane) (acked : Bool) (st : SendState) (f : Frame) → SendFrameIn lane st f
    → (IsTalking (send_stance record { state = st; ask = lane.ask } acked (SendDoes (acts.Write f))) → ⊥)
    → (st ≡ states.SendAbort) × (has_done (Framed f ∷ []) ≡ false)
abort_in lane acked states.SendSettings (frames.Settings s) e n = absurd (n tt)
abort_in lane acked states.SendSize (frames.Size files bytes) e n = absurd (n tt)
abort_in lane acked states.SendDone frames.Done e n = absurd (n tt)
abort_in lane acked states.AnswerDone frames.Done e n = absurd (n tt)
abort_in lane acked states.SendAbort (frames.Abort code) e n = (refl, refl)
abort_in lane acked st f e n = absurd e

wrote_quiet : (ask acked b : Bool) → IsTalking (send_stance record { state = states.SendAbort; ask = ask } acked (SendHas (wrote_or_lost b))) → ⊥
wrote_quiet ask acked true t = t
wrote_quiet ask acked false t = t

lost_quiet : (ask acked b : Bool) → IsTalking (send_stance record { state = states.SendAbort; ask = ask } acked (SendHas (inputs.SourceLost b))) → ⊥
lost_quiet ask acked true t = t
lost_quiet ask acked false t = t

-- ---- a receiver's lane that talks behind its act

abbrev pub is_accept : RecvAct → Bool
is_accept recv_acts.Accept = true
is_accept act = false

module _ (w : PlainWorld) (l : ℕ) (s : IsSound w) (within : l < length w.pairs) where
  abbrev pub stance : RecvHold → Stance
  stance = recv_stance (recv.lane_at w.receiver l) (recv.past_at w.receiver l).is_idle (recv.past_at w.receiver l).is_acked

  abbrev warns : RecvHold → Type 0
  warns rh =
      IsTalking
      (recv_stance (record (recv.lane_at w.receiver l) { state = recv_states.SendAbort }) (recv.past_at w.receiver l).is_idle (recv.past_at w.receiver l).is_acked rh)

  -- one that said that its end failed talks no more
  pub warned_quiet : (fr : Frame) (taken : Option Link) → (pair_at w l).recv ≡ RecvDoes (recv_acts.Write fr)
      → recv.state_at w.receiver l ≡ recv_states.SendAbort → IsTalking (stance (recv_writes (pair_at w l) fr taken).recv) → ⊥
  warned_quiet fr taken holds here t = go taken (subst (λ (st : RecvState). IsTalking (recv_stance (record (recv.lane_at w.receiver l) { state = st }) (recv.past_at w.receiver l).is_idle (recv.past_at w.receiver l).is_acked (recv_writes (pair_at w l) fr taken).recv)) here t) where
    by : (b : Bool) → warns (RecvHas (recv_wrote_or_lost b)) → ⊥
    by true x = x
    by false x = x

    go : (o : Option Link) → warns (recv_writes (pair_at w l) fr o).recv → ⊥
    go None x = subst warns holds x
    go (Some k) x = by (not (is_cut k.up) && not (send_left (pair_at w l).newest (pair_at w l).send)) x

  -- talked before it
  pub acts_talk : (act : RecvAct) → (pair_at w l).recv ≡ RecvDoes act → is_accept act ≡ false → IsTalking (stance (recv_does (pair_at w l) act).recv)
      → IsTalking (receives_at w l)
  acts_talk act holds other talks = go act holds other talks where
    reading : (a : RecvAct) → (pair_at w l).recv ≡ RecvDoes a → RecvReads (RecvDoes a) (stance (RecvDoes a))
    reading a is = subst (λ (y : RecvHold). RecvReads y (stance y)) is (lane_holds w l s within).recv_reads

    writes : (fr : Frame) → (pair_at w l).recv ≡ RecvDoes (recv_acts.Write fr) → IsTalking (stance (recv_writes (pair_at w l) fr (pair_at w l).taken).recv)
        → RecvBelongs (RecvDoes (recv_acts.Write fr)) (recv.lane_at w.receiver l) (recv.past_at w.receiver l) → IsTalking (receives_at w l)
    writes fr is t (inl x) = absurd (warned_quiet fr (pair_at w l).taken is x.1 t)
    writes fr is t (inr x) =
        subst IsTalking
        (sym (ap stance is ∙ talks_in (recv.lane_at w.receiver l) (recv.past_at w.receiver l).is_idle (recv.past_at w.receiver l).is_acked x.from x.to (recv.state_at w.receiver l) x.before x.after)) tt

    go : (a : RecvAct) → (pair_at w l).recv ≡ RecvDoes a → is_accept a ≡ false → IsTalking (stance (recv_does (pair_at w l) a).recv)
        → IsTalking (receives_at w l)
    go recv_acts.Accept is o t = cc
    go (recv_acts.Write fr) is o t =
        writes fr is t (subst (λ (y : RecvHold). RecvBelongs y (recv.lane_at w.receiver l) (recv.past_at w.receiver l)) is (s.belongs.recv l within))
    go recv_acts.Read is o t = subst IsTalking (ap stance (sym is)) (listens_in recv_listens (stance (RecvDoes recv_acts.Read)) (reading recv_acts.Read is))
    go (recv_acts.TakePiece n) is o t =
        subst IsTalking (ap stance (sym is)) (listens_in recv_listens (stance (RecvDoes (recv_acts.TakePiece n))) (reading (recv_acts.TakePiece n) is))
    go recv_acts.Park is o t = t
    go recv_acts.Stop is o t = t

-- ---- an act of the sender's lane

module _ (w : PlainWorld) (l : ℕ) (s : IsSound w) (f : Finishing w) (within : l < length w.pairs) (q : ℕ) where
  h : Holds (sends_at w l) (receives_at w l) (state_at w.sender l) (recv.state_at w.receiver l) (pair_at w l)
  h = lane_holds w l s within

  abbrev Known : Type 0
  Known = is_closed w.sender q ≡ true

  abbrev Behind : Pair → Type 0
  Behind p = TellsOn Known q p (send_stance (lane_at w.sender l) (past_at w.sender l).is_acked p.send)

  -- the lane, with what it holds written out
  abbrev has_send : SendHold → Pair
  has_send sh = record (pair_at w l) { send = sh }

  -- it talks there, and what it says is a move
  module _ (act : SendAct) (holds : (pair_at w l).send ≡ SendDoes act) (r : Phase) (receives : receives_at w l ≡ Talks r) where
    mute_at : ((p : Phase) → send_stance (lane_at w.sender l) (past_at w.sender l).is_acked (SendDoes act) ≡ Talks p → (m : Message) × (t : Phase) × (down p m ≡ Some t))
        → (k : Link) → (pair_at w l).taken ≡ Some k → (pair_at w l).newest ≡ None → IsTalking
        (send_stance (lane_at w.sender l) (past_at w.sender l).is_acked (SendDoes act)) → marked_in q k.up.sent ≡ true → ⊥
    mute_at moves k there top talks marks =
        let p = phase_in (send_stance (lane_at w.sender l) (past_at w.sender l).is_acked (SendDoes act)) talks in
        let m = moves p.0 p.1 in
        let stands : sends_at w l ≡ Talks p.0 = ap (send_stance (lane_at w.sender l) (past_at w.sender l).is_acked) holds ∙ p.1 in
        let on : OnLink (Talks p.0) (Talks r) k.down.sent k.up.sent =
        subst (λ (x : Stance). OnLink (Talks p.0) x k.down.sent k.up.sent) receives
        (subst (λ (x : Stance). OnLink x (receives_at w l) k.down.sent k.up.sent) stands
        (subst (λ (o : Option Link). AgreeOn (send_there o (sends_at w l)) (receives_at w l) (Some k)) top
        (subst (λ (o : Option Link). AgreeOn (send_there (pair_at w l).newest (sends_at w l)) (receives_at w l) o) there (s.talk.lanes l within).agrees.on_taken))) in
        mute_talk q p.0 r m.1 m.0 k.down.sent k.up.sent m.2 on marks

  -- a frame
  write_grants : (fr : Frame) → (pair_at w l).send ≡ SendDoes (acts.Write fr) → (r : Phase) → receives_at w l ≡ Talks r → (k : Link)
      → (pair_at w l).taken ≡ Some k → (pair_at w l).newest ≡ None
      → Grants (lane_at w.sender l) (past_at w.sender l).is_acked Known q (pair_at w l).recv (pair_at w l).between (pair_at w l).denies
      (pair_at w l).refusals (acts.Write fr) k
  write_grants fr holds r receives k there top =
      record {
        mute = mute_at (acts.Write fr) holds r receives (λ p e. let x = moves p e in (Framed fr, x.0, x.1)) k there top;
        silent = λ n.
            let x = abort_in (lane_at w.sender l) (past_at w.sender l).is_acked (state_at w.sender l) fr (subst (λ (y : SendHold). SendBelongs y (lane_at w.sender l)) holds (s.belongs.send l within)) n in (
              λ b t. wrote_quiet (lane_at w.sender l).ask (past_at w.sender l).is_acked b (subst (λ (st : SendState). IsTalking (send_stance record { state = st; ask = (lane_at w.sender l).ask } (past_at w.sender l).is_acked (SendHas (wrote_or_lost b)))) x.0 t),
              λ b t. lost_quiet (lane_at w.sender l).ask (past_at w.sender l).is_acked b (subst (λ (st : SendState). IsTalking (send_stance record { state = st; ask = (lane_at w.sender l).ask } (past_at w.sender l).is_acked (SendHas (inputs.SourceLost b)))) x.0 t),
              x.1,
            );
      } where
        moves : (p : Phase) → send_stance (lane_at w.sender l) (past_at w.sender l).is_acked (SendDoes (acts.Write fr)) ≡ Talks p
            → (t : Phase) × (down p (Framed fr) ≡ Some t)
        moves p e =
            subst (SendWrites (SendDoes (acts.Write fr))) e
            (subst (λ (y : SendHold). SendWrites y (send_stance (lane_at w.sender l) (past_at w.sender l).is_acked y)) holds h.send_writes)

  -- a block
  block_grants : (b : _) → (pair_at w l).send ≡ SendDoes (acts.SendBlock b) → (r : Phase) → receives_at w l ≡ Talks r → (k : Link)
      → (pair_at w l).taken ≡ Some k → (pair_at w l).newest ≡ None
      → Grants (lane_at w.sender l) (past_at w.sender l).is_acked Known q (pair_at w l).recv (pair_at w l).between (pair_at w l).denies
      (pair_at w l).refusals (acts.SendBlock b) k
  block_grants b holds r receives k there top =
      record {
        mute = mute_at (acts.SendBlock b) holds r receives (λ p e. (Framed (frames.Block b), with_left b.length, ap (λ (x : Phase). down x (Framed (frames.Block b))) (same_phase p e))) k there top;
        silent = λ n. absurd (n (subst IsTalking (sym stands) tt));
      } where
        here : state_at w.sender l ≡ states.SendBlocks
        here = subst (λ (y : SendHold). SendBelongs y (lane_at w.sender l)) holds (s.belongs.send l within)

        stands : send_stance (lane_at w.sender l) (past_at w.sender l).is_acked (SendDoes (acts.SendBlock b)) ≡ Talks SendingPhase
        stands = ap (λ (st : SendState). send_stance record { state = st; ask = (lane_at w.sender l).ask } (past_at w.sender l).is_acked (SendDoes (acts.SendBlock b))) here

        same_phase : (p : Phase) → send_stance (lane_at w.sender l) (past_at w.sender l).is_acked (SendDoes (acts.SendBlock b)) ≡ Talks p → p ≡ SendingPhase
        same_phase p e = let x : Talks p ≡ Talks SendingPhase = sym e ∙ stands in cc

  -- whatever it does
  pub send_act_tells : (lost : Option ℕ) (act : SendAct) → (pair_at w l).send ≡ SendDoes act → IsTalking (receives_at w l) → IsTelling w l q
      → Behind (send_does (pair_at w l) lost act)
  send_act_tells lost act holds talks t =
      let r = phase_in (receives_at w l) talks in
      let p : Pair = pair_at w l in
      let lane : SendLane = lane_at w.sender l in
      let acked : Bool = (past_at w.sender l).is_acked in
      subst (λ (y : SendHold). Behind (send_does (has_send y) lost act)) (sym holds) (go act holds r.0 r.1 (subst (λ (y : SendHold). Behind (has_send y)) holds t)) where
        go : (a : SendAct) → (pair_at w l).send ≡ SendDoes a → (r : Phase) → receives_at w l ≡ Talks r → Behind (has_send (SendDoes a))
            → Behind (send_does (has_send (SendDoes a)) lost a)
        go (acts.Dial conn) is r e x =
            let here : state_at w.sender l ≡ states.Connect = subst (λ (y : SendHold). SendBelongs y (lane_at w.sender l)) is (s.belongs.send l within) in
            dials_tell (lane_at w.sender l) (past_at w.sender l).is_acked Known q (pair_at w l).recv (pair_at w l).between (pair_at w l).denies
            (pair_at w l).refusals (acts.Dial conn) (pair_at w l).taken (pair_at w l).newest (pair_at w l).denies (recv_stops (pair_at w l).recv)
            (λ y. subst (λ (st : SendState). IsTalking (send_stance record { state = st; ask = (lane_at w.sender l).ask } (past_at w.sender l).is_acked (SendDoes (acts.Dial conn)))) here y)
            (λ y. subst (λ (st : SendState). IsTalking (send_stance record { state = st; ask = (lane_at w.sender l).ask } (past_at w.sender l).is_acked (SendHas inputs.NoLink))) here y) x
        go (acts.Write fr) is r e x =
            send_writes_tell (lane_at w.sender l) (past_at w.sender l).is_acked Known q (pair_at w l).recv (pair_at w l).between (pair_at w l).denies
            (pair_at w l).refusals (acts.Write fr) (Framed fr ∷ []) (pair_at w l).taken (pair_at w l).newest
            (λ k there top. write_grants fr is r e k there top) refl x
        go (acts.SendBlock b) is r e x =
            sends_tell (lane_at w.sender l) (past_at w.sender l).is_acked Known q (pair_at w l).recv (pair_at w l).between (pair_at w l).denies
            (pair_at w l).refusals b lost (pair_at w l).taken (pair_at w l).newest
            (λ k there top. block_grants b is r e k there top) x
        go acts.Read is r e x =
            send_reads_tell (lane_at w.sender l) (past_at w.sender l).is_acked Known q (pair_at w l).recv (pair_at w l).between (pair_at w l).denies
            (pair_at w l).refusals (pair_at w l).taken (pair_at w l).newest
            reads (λ top m. marked_none w l q s.talk within h r e top (subst IsTalking (ap (send_stance (lane_at w.sender l) (past_at w.sender l).is_acked) (sym is)) reads) (subst (λ (y : SendHold). marked_in q (send_in_hand y ++ up_sent (pair_at w l).taken) ≡ true) (sym is) m)) x where
              reads : IsTalking (send_stance (lane_at w.sender l) (past_at w.sender l).is_acked (SendDoes acts.Read))
              reads = listens_in send_listens (send_stance (lane_at w.sender l) (past_at w.sender l).is_acked (SendDoes acts.Read)) (subst (λ (y : SendHold). SendReads y (send_stance (lane_at w.sender l) (past_at w.sender l).is_acked y)) is h.send_reads)
        go acts.Stop is r e x = x

  -- ---- an act of the receiver's lane

  -- the sender's lane stands as it did
  abbrev Still : Pair → Type 0
  Still p = TellsOn Known q p (sends_at w l)

  abbrev After : Pair → Type 0
  After p =
      IsTalking (recv_stance (recv.lane_at w.receiver l) (recv.past_at w.receiver l).is_idle (recv.past_at w.receiver l).is_acked p.recv) → has
      (telling w l) q ≡ true → Still p

  abbrev has_recv : RecvHold → Pair
  has_recv rh = record (pair_at w l) { recv = rh }

  told : IsTalking (receives_at w l) → has (telling w l) q ≡ true → IsTelling w l q
  told talks e = f.tellings l q within talks e

  -- a lane that takes a connection tells of nobody
  none_told : {P : Type 0} → recv.state_at w.receiver l ≡ recv_states.Listen → has (telling w l) q ≡ true → P
  none_told here e =
      let fares = recv_fares w l recv_states.Listen s.talk within here in
      absurd
      (both_ways (has (telling w l) q) (ap (λ (ks : List ℕ). has ks q) ((legal_sound (terms_of w.receiver) w.receiver.history l s.talk.receiver.legal).off fares.goes_on.link).telling) e)

  -- where it tells of closed lanes, no last word comes down
  none_down : (r : Phase) → receives_at w l ≡ Talks r → r ≡ Asked → has_done (down_sent (pair_at w l).taken) ≡ false
  none_down r receives asked = go (pair_at w l).taken (s.talk.lanes l within).agrees.on_taken where
    go : (o : Option Link) → AgreeOn (send_there (pair_at w l).newest (sends_at w l)) (receives_at w l) o → has_done (down_sent o) ≡ false
    go None a = refl
    go (Some k) a =
        asked_none k.down.sent (hears_down (send_there (pair_at w l).newest (sends_at w l)) Asked k.down.sent k.up.sent
        (subst (λ (x : Stance). OnLink (send_there (pair_at w l).newest (sends_at w l)) x k.down.sent k.up.sent) (receives ∙ ap Talks asked) a))

  pub recv_act_tells : (act : RecvAct) → (pair_at w l).recv ≡ RecvDoes act → After (recv_does (pair_at w l) act)
  recv_act_tells act holds talks e = go act holds talks where
    before : (a : RecvAct) → (pair_at w l).recv ≡ RecvDoes a → IsTalking (receives_at w l) → Still (has_recv (RecvDoes a))
    before a is t = subst (λ (y : RecvHold). Still (has_recv y)) is (told t e)

    out : (a : RecvAct) → (pair_at w l).recv ≡ RecvDoes a → Still (recv_does (has_recv (RecvDoes a)) a) → Still (recv_does (pair_at w l) a)
    out a is x = subst (λ (y : RecvHold). Still (recv_does (has_recv y) a)) (sym is) x

    writes : (fr : Frame) → (pair_at w l).recv ≡ RecvDoes (recv_acts.Write fr) → IsTalking (receives_at w l)
        → RecvBelongs (RecvDoes (recv_acts.Write fr)) (recv.lane_at w.receiver l) (recv.past_at w.receiver l)
        → IsTalking (stance w l s within (recv_writes (pair_at w l) fr (pair_at w l).taken).recv) → Still
        (recv_does (has_recv (RecvDoes (recv_acts.Write fr))) (recv_acts.Write fr))
    writes fr is t (inl x) talk = absurd (warned_quiet w l s within fr (pair_at w l).taken is x.1 talk)
    writes fr is t (inr x) talk =
        let stands : receives_at w l ≡ Talks x.from =
        ap (recv_stance (recv.lane_at w.receiver l) (recv.past_at w.receiver l).is_idle (recv.past_at w.receiver l).is_acked) is
        ∙ talks_in (recv.lane_at w.receiver l) (recv.past_at w.receiver l).is_idle (recv.past_at w.receiver l).is_acked x.from x.to (recv.state_at w.receiver l) x.before x.after in
        recv_writes_tell Known q (pair_at w l).send (sends_at w l) (pair_at w l).between (pair_at w l).newest (pair_at w l).denies (pair_at w l).refusals fr
        (pair_at w l).taken
        (λ m. none_down x.from stands (marks_asked q fr x.from x.to (or_none (marks_lane q fr) m) x.moves)) (before (recv_acts.Write fr) is t)

    go : (a : RecvAct) → (pair_at w l).recv ≡ RecvDoes a → IsTalking (stance w l s within (recv_does (pair_at w l) a).recv) → Still (recv_does (pair_at w l) a)
    go recv_acts.Accept is t =
        none_told (subst (λ (y : RecvHold). RecvBelongs y (recv.lane_at w.receiver l) (recv.past_at w.receiver l)) is (s.belongs.recv l within)) e
    go (recv_acts.Write fr) is t =
        out (recv_acts.Write fr) is
        (writes fr is (acts_talk w l s within (recv_acts.Write fr) is refl t) (subst (λ (y : RecvHold). RecvBelongs y (recv.lane_at w.receiver l) (recv.past_at w.receiver l)) is (s.belongs.recv l within)) t)
    go recv_acts.Read is t =
        out recv_acts.Read is
        (recv_reads_tell Known q (pair_at w l).send (sends_at w l) (pair_at w l).between (pair_at w l).newest (pair_at w l).denies (pair_at w l).refusals (pair_at w l).taken (before recv_acts.Read is (acts_talk w l s within recv_acts.Read is refl t)))
    go (recv_acts.TakePiece n) is t =
        out (recv_acts.TakePiece n) is
        (takes_tell Known q (pair_at w l).send (sends_at w l) (pair_at w l).between (pair_at w l).newest (pair_at w l).denies (pair_at w l).refusals n (pair_at w l).taken (before (recv_acts.TakePiece n) is (acts_talk w l s within (recv_acts.TakePiece n) is refl t)))
    go recv_acts.Park is t = told t e
    go recv_acts.Stop is t = told t e
