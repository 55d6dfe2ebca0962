-- The sender's lane dials, and answers the last word.
use Rattle.std.proofs.Common.{◌≡◌, ◌⊎◌, inl, inr, ℕ, zero, suc, ◌+◌, ◌-◌, ◌==◌, min, if◌then◌else◌, ◌<◌, ◌&&◌, not, Bool, true, false, List, [], ◌∷◌, ◌++◌, length, Option, Some, None, subst, sym, ap, ◌∙◌, refl, arith, append-nil, length-append}
use Rattle.std.proofs.lemmas.Bool.{both_ways}
use Rattle.std.proofs.lemmas.Option.{same_Some}
use Rattle.wdt_units.specs.declared.blocks.Header.{Header}
use Rattle.wdt_codec.specs.declared.frames.Frame.{Frame}
use Rattle.wdt_codec.specs.declared.frames.Frame.TheVariants as frames
use Rattle.wdt_sender_fsm.specs.declared.acts.SendAct.TheVariants as acts
use Rattle.wdt_sender_fsm.specs.declared.inputs.SendIn.TheVariants as inputs
use Rattle.wdt_sender_fsm.specs.declared.states.SendState.{SendState}
use Rattle.wdt_sender_fsm.specs.declared.states.SendState.TheVariants as states
use Rattle.wdt_sender_fsm.specs.Phases.{Phase, Open, Met, Listing, Told, Sending as SendingPhase, Mid, Asked, Bye, Over, Message, Framed, Piece, down, over_if, piece_most, told, up, with_left}
use Rattle.wdt_sender_fsm.specs.PlainSender.{lane_at, past_at, state_at}
use Rattle.wdt_sender_fsm.specs.SenderHistory.{LanePast}
use Rattle.wdt_sender_fsm.specs.Talk.{moved}
use Rattle.wdt_receiver_fsm.specs.declared.inputs.RecvIn.TheVariants as recv_inputs
use Rattle.wdt_receiver_fsm.specs.declared.states.RecvLane.{RecvLane}
use Rattle.wdt_receiver_fsm.specs.declared.states.RecvState.{RecvState}
use Rattle.wdt_receiver_fsm.specs.declared.states.RecvState.TheVariants as recv_states
use Rattle.wdt_receiver_fsm.specs.Phases as recv
use Rattle.wdt_receiver_fsm.specs.PlainReceiver as receiver
use Rattle.wdt_pact.specs.Links.{Link, is_cut, with_sent}
use Rattle.wdt_pact.specs.Lists.{AskedBy, ListsBy, Splits, Splits-same, UnsentBy, flying, in_hand}
use Rattle.wdt_pact.specs.Pairs.{Pair, RecvHold, RecvDoes, RecvHas, RecvTook, SendHold, SendDoes, SendHas, recv_stops, send_dials, send_does, top_by, wrote_or_lost}
use Rattle.wdt_pact.specs.World.{PlainWorld, pair_at, send_steps, send_steps_by}
use Rattle.wdt_pact.specs.Stances.{Stance, Talks, Aborts, Silent, OnLink, recv_aborts, recv_stance, stand}
use Rattle.wdt_pact.specs.Conversation.{Common, Conversation, Converses, NotesBy, Receiving, common, receives, receiving, sending}
use Rattle.wdt_pact.proofs.Below.{moved-first}
use Rattle.wdt_pact.proofs.Blocks.{says_down, silent}
use Rattle.wdt_pact.proofs.Connecting.{made}
use Rattle.wdt_pact.proofs.Frame.{pair_keeps}
use Rattle.wdt_pact.proofs.Links.{waits_not}
use Rattle.wdt_pact.proofs.Lists.{flying-more, lists_weaker}
use Rattle.wdt_pact.proofs.RecvRows.{recv_fares}
use Rattle.wdt_pact.proofs.Rows.{stands_in}
use Rattle.wdt_pact.proofs.Writing.{act_keeps, moves_one, says_here}

-- ---- a connection is made, or not

module _ (g : Common) (l : ℕ) (ask : Bool) (past : LanePast) (kept : List Header) (r : Receiving) (rh : RecvHold) (refusals : ℕ) where
  abbrev There : Pair → Type 0
  There = Converses g l record { lane = record { state = states.Connect; ask = ask }; past = past; kept = kept } r

  abbrev dialling : SendHold → Option Link → List Link → Option Link → ℕ → Pair
  dialling sh taken between newest n = record { send = sh; recv = rh; taken = taken; between = between; newest = newest; denies = n; refusals = refusals }

  unmade : (c : ℕ) (taken : Option Link) (between : List Link) (newest : Option Link) (n m : ℕ) → There (dialling (SendDoes (acts.Dial record { 0 = c })) taken between newest n) → There (dialling (SendHas inputs.NoLink) taken between newest m)
  unmade c taken between newest n m x =
      record {
        agrees = x.agrees;
        lists = lists_weaker (recv_stance r.lane r.past.is_idle r.past.is_acked rh) taken kept r.landed r.begun (in_hand rh) (UnsentBy newest states.Connect (SendDoes (acts.Dial record { 0 = c }))) (UnsentBy newest states.Connect (SendHas inputs.NoLink)) (unsent newest) x.lists;
        sure = x.sure;
        upward = tt;
        fits = x.fits;
        notes = notes (top_by newest taken);
        closed = x.closed;
        asked = x.asked;
        finished = λ e. let f = x.finished e in record { same = f.same; holds = f.holds };
        pieces = x.pieces;
        waits = x.waits;
        idle = λ e. let y = x.idle e in record { same = y.same; holds = y.holds; late = λ z. tt; quiet = tt };
        shut = x.shut;
        heard_up = tt;
        heard_down = x.heard_down;
      } where
        unsent : (o : Option Link) (rest : List Header) → UnsentBy o states.Connect (SendDoes (acts.Dial record { 0 = c })) rest → UnsentBy o states.Connect (SendHas inputs.NoLink) rest
        unsent None rest e = e
        unsent (Some t) rest e = e

        notes : (o : Option Link) → NotesBy states.Connect (SendHas inputs.NoLink) past o
        notes None = tt
        notes (Some k) = tt

  dials_here : (c : ℕ) (taken : Option Link) (between : List Link) (newest : Option Link) (n d : ℕ) (stopped : Bool) → There (dialling (SendDoes (acts.Dial record { 0 = c })) taken between newest n) → There (send_dials (dialling (SendDoes (acts.Dial record { 0 = c })) taken between newest n) d stopped)
  dials_here c taken between newest n (suc d) stopped x = unmade c taken between newest n d x
  dials_here c taken between newest n zero true x = unmade c taken between newest n n x
  dials_here c taken between newest n zero false x = made g l ask past kept r rh refusals c taken between newest n n x

pub dial_keeps : (w : PlainWorld) (l conn : ℕ) (lost : Option ℕ) → Conversation w → l < length w.pairs → state_at w.sender l ≡ states.Connect → (pair_at w l).send ≡ SendDoes (acts.Dial record { 0 = conn }) → Conversation (send_steps w l lost)
dial_keeps w l conn lost c within here holds =
    let p : Pair = pair_at w l in
    subst (λ (x : SendHold). Conversation (send_steps_by w l lost x)) (sym holds)
    (pair_keeps w l (send_does p lost (acts.Dial record { 0 = conn })) c within
    (subst (λ (x : SendState). Converses (common w.receiver) l (stands_in w.sender l x) (receiving w.receiver l) (send_does p lost (acts.Dial record { 0 = conn }))) (sym here)
    (subst (λ (x : SendHold). Converses (common w.receiver) l (stands_in w.sender l states.Connect) (receiving w.receiver l) (send_does (record p { send = x }) lost (acts.Dial record { 0 = conn }))) (sym holds)
    (dials_here (common w.receiver) l (lane_at w.sender l).ask (past_at w.sender l) (sending w.sender l).kept (receiving w.receiver l) p.recv p.refusals conn p.taken p.between p.newest p.denies p.denies (recv_stops p.recv)
    (subst (λ (x : SendState). Converses (common w.receiver) l (stands_in w.sender l x) (receiving w.receiver l) (record p { send = SendDoes (acts.Dial record { 0 = conn }) })) here
    (subst (λ (x : SendHold). Converses (common w.receiver) l (sending w.sender l) (receiving w.receiver l) (record p { send = x })) holds (c.lanes l within)))))))

-- ---- the last word is answered

abbrev is_bye : Phase → Bool
is_bye Bye = true
is_bye _ = false

left_not : (n : ℕ) → is_bye (with_left n) ≡ false
left_not n = go (n == 0) where
  go : (b : Bool) → is_bye (if b then SendingPhase else Mid n) ≡ false
  go true = refl
  go false = refl

-- nothing that the sender says leads there
no_bye : (p q : Phase) (m : Message) → down p m ≡ Some q → is_bye q ≡ false
no_bye Open q (Framed (frames.Settings s)) e = ap is_bye (sym (same_Some (Met s.ask) q e))
no_bye Told q (Framed (frames.Size files bytes)) e = ap is_bye (sym (same_Some SendingPhase q e))
no_bye SendingPhase q (Framed (frames.Block h)) e = ap is_bye (sym (same_Some (with_left h.length) q e)) ∙ left_not h.length
no_bye SendingPhase q (Framed frames.Done) e = ap is_bye (sym (same_Some Asked q e))
no_bye (Mid left) q (Piece n) e = piece (n == min left piece_most) e where
  piece : (b : Bool) → (if b then Some (with_left (left - n)) else None) ≡ Some q → is_bye q ≡ false
  piece true e = ap is_bye (sym (same_Some (with_left (left - n)) q e)) ∙ left_not (left - n)
  piece false e = cc
no_bye Bye q (Framed frames.Done) e = ap is_bye (sym (same_Some Over q e))
no_bye p q m e = cc

all_not : (ms : List Message) (p q : Phase) → is_bye p ≡ false → moved down ms p ≡ Some q → is_bye q ≡ false
all_not [] p q n e = subst (λ (x : Phase). is_bye x ≡ false) (same_Some p q e) n
all_not (m ∷ ms) p q n e = let f = moved-first down p q m ms e in all_not ms f.0 q (no_bye p f.0 m f.1) f.2

up_none : (u : Frame) → up Bye u ≡ None
up_none u = refl

-- a receiver that listens to an answer has said the last word
bye_talk : (q : Phase) (ds : List Message) (us : List Frame) → OnLink (Talks Bye) (Talks q) ds us → is_bye q ≡ true
bye_talk q [] us (inl a) = ap is_bye (same_Some q Bye a.1)
bye_talk q (d ∷ ds) us (inl a) = let f = moved-first down q Bye d ds a.1 in absurd (both_ways (is_bye Bye) (all_not ds f.0 Bye (no_bye q f.0 d f.1) f.2) refl)
bye_talk q ds [] (inr a) = ap is_bye (sym (same_Some Bye q a.1))
bye_talk q ds (u ∷ us) (inr a) = let f = moved-first up Bye q u us a.1 in cc (up_none u)

-- and stands so
abbrev SaidLast : RecvState → Type 0
SaidLast st = (st ≡ recv_states.SendDone) ⊎ (st ≡ recv_states.ReadAck)

stand_bye : (o : Option Phase) (b : Bool) (q : Phase) → stand b o ≡ Talks q → o ≡ Some q
stand_bye (Some p) b q e = cc
stand_bye None true q e = cc
stand_bye None false q e = cc

heard_not : (m : Message) (o : Option Phase) (q : Phase) → recv.phase_heard m o ≡ Some q → is_bye q ≡ false
heard_not m None q e = cc
heard_not m (Some p) q e = no_bye p q m e

sized_not : (b : Bool) → is_bye (recv.sized_by b) ≡ false
sized_not true = refl
sized_not false = refl

asked_not : (b ask : Bool) → is_bye (recv.asked_by b ask) ≡ false
asked_not true ask = refl
asked_not false ask = refl

told_not : (b : Bool) → is_bye (told b) ≡ false
told_not true = refl
told_not false = refl

not_that : {P : Type 0} (p q : Phase) → Some p ≡ Some q → is_bye p ≡ false → is_bye q ≡ true → P
not_that p q e n y = absurd (both_ways (is_bye q) (subst (λ (x : Phase). is_bye x ≡ false) (same_Some p q e) n) y)

over_not : {P : Type 0} (b : Bool) (q : Phase) → over_if b ≡ Some q → is_bye q ≡ true → P
over_not true q e y = not_that Over q e refl y
over_not false q e y = cc

holds_bye : (lane : RecvLane) (idle acked : Bool) (st : RecvState) (q : Phase) → recv.phase_by lane idle acked st ≡ Some q → is_bye q ≡ true → SaidLast st
holds_bye lane idle acked recv_states.ReadSettings q e y = not_that Open q e refl y
holds_bye lane idle acked recv_states.SendLocalCheckpoint q e y = not_that (Met lane.ask) q e refl y
holds_bye lane idle acked recv_states.SendFileChunks q e y = not_that Listing q e refl y
holds_bye lane idle acked recv_states.ReadNextCmd q e y = not_that (recv.sized_by lane.is_sized) q e (sized_not lane.is_sized) y
holds_bye lane idle acked recv_states.TakeBlock q e y = not_that (Mid lane.left) q e refl y
holds_bye lane idle acked recv_states.SendWait q e y = not_that Asked q e refl y
holds_bye lane idle acked recv_states.WaitForFinish q e y = not_that Asked q e refl y
holds_bye lane idle acked recv_states.SendGlobalCheckpoint q e y = not_that Asked q e refl y
holds_bye lane idle acked recv_states.SendDone q e y = inl refl
holds_bye lane idle acked recv_states.ReadAck q e y = inr refl
holds_bye lane idle acked recv_states.Ended q e y = over_not acked q e y
holds_bye lane idle acked st q e y = cc

wrote_bye : (ask : Bool) (st : RecvState) (q : Phase) → recv.phase_written ask st ≡ Some q → is_bye q ≡ true → SaidLast st
wrote_bye ask recv_states.SendLocalCheckpoint q e y = not_that (told ask) q e (told_not ask) y
wrote_bye ask recv_states.SendFileChunks q e y = not_that Told q e refl y
wrote_bye ask recv_states.SendWait q e y = not_that Asked q e refl y
wrote_bye ask recv_states.SendGlobalCheckpoint q e y = not_that SendingPhase q e refl y
wrote_bye ask recv_states.SendDone q e y = inl refl
wrote_bye ask st q e y = cc

linked_bye : {P : Type 0} (st : RecvState) (q : Phase) → recv.phase_linked st ≡ Some q → is_bye q ≡ true → P
linked_bye recv_states.Listen q e y = not_that Open q e refl y
linked_bye st q e y = cc

said_last : (lane : RecvLane) (idle acked : Bool) (hold : RecvHold) (q : Phase) → recv_stance lane idle acked hold ≡ Talks q → is_bye q ≡ true → SaidLast lane.state
said_last lane idle acked (RecvDoes act) q e y = holds_bye lane idle acked lane.state q (stand_bye (recv.phase_by lane idle acked lane.state) (recv_aborts lane.state) q e) y
said_last lane idle acked (RecvHas recv_inputs.Wrote) q e y = wrote_bye lane.ask lane.state q (stand_bye (recv.phase_written lane.ask lane.state) false q e) y
said_last lane idle acked (RecvHas (recv_inputs.Got f)) q e y = absurd (both_ways (is_bye q) (heard_not (Framed f) (recv.phase_by lane idle false lane.state) q (stand_bye (recv.phase_heard (Framed f) (recv.phase_by lane idle false lane.state)) false q e)) y)
said_last lane idle acked (RecvHas recv_inputs.Linked) q e y = linked_bye lane.state q (stand_bye (recv.phase_linked lane.state) false q e) y
said_last lane idle acked (RecvHas i) q e y = cc
said_last lane idle acked (RecvTook n) q e y = absurd (both_ways (is_bye q) (heard_not (Piece n) (recv.phase_by lane false false lane.state) q (stand_bye (recv.phase_taking lane n) false q e)) y)

-- so the finish has come
pub last_finish : (w : PlainWorld) (l : ℕ) (q : Phase) → Conversation w → l < length w.pairs → receives (receiving w.receiver l) (pair_at w l) ≡ Talks q → is_bye q ≡ true → (common w.receiver).finish ≡ true
last_finish w l q c within e y = go (said_last (receiver.lane_at w.receiver l) (receiver.past_at w.receiver l).is_idle (receiver.past_at w.receiver l).is_acked (pair_at w l).recv q e y) where
  go : (receiver.state_at w.receiver l ≡ recv_states.SendDone) ⊎ (receiver.state_at w.receiver l ≡ recv_states.ReadAck) → (common w.receiver).finish ≡ true
  go (inl here) = (recv_fares w l recv_states.SendDone c within here).finish
  go (inr here) = (recv_fares w l recv_states.ReadAck c within here).finish

-- where everything has landed nothing else is left
splits_none : (kept landed xs : List Header) → Splits kept landed [] → Splits kept landed xs → xs ≡ []
unfolding Splits
splits_none kept landed [] a b = refl
splits_none kept landed (x ∷ xs) a b = absurd (long (ap length (sym a ∙ b)) (length-append landed []) (length-append landed (x ∷ xs))) where
  long : length (landed ++ []) ≡ length (landed ++ x ∷ xs) → length (landed ++ []) ≡ length landed + 0 → length (landed ++ x ∷ xs) ≡ length landed + length (x ∷ xs) → ⊥
  long e f h = omega (arith, e, f, h)

front_none : (xs ys : List Header) → xs ++ ys ≡ [] → xs ≡ []
front_none [] ys e = refl
front_none (x ∷ xs) ys e = cc

module _ (g : Common) (l : ℕ) (ask : Bool) (past : LanePast) (kept : List Header) (r : Receiving) (rh : RecvHold) (between : List Link) (denies refusals : ℕ) where
  abbrev In : Pair → Type 0
  In = Converses g l record { lane = record { state = states.AnswerDone; ask = ask }; past = past; kept = kept } r

  abbrev at : SendHold → Option Link → Option Link → Pair
  at sh taken newest = record { send = sh; recv = rh; taken = taken; between = between; newest = newest; denies = denies; refusals = refusals }

  abbrev rs : Stance
  rs = recv_stance r.lane r.past.is_idle r.past.is_acked rh

  -- all that was claimed has landed, where the receiver listens
  asked_last : (x : Stance) (k : Link) → ((q : Phase) → x ≡ Talks q → (Splits kept r.landed [] × (past.claims.held ≡ false))) → ListsBy x (Some k) kept r.landed r.begun (in_hand rh) (UnsentBy None states.AnswerDone (SendDoes (acts.Write frames.Done)))
      → AskedBy x (Some record k { down = with_sent k.down (Framed frames.Done ∷ []) }) kept r.landed r.begun (in_hand rh) past.claims.held
  asked_last (Talks q) k final x = λ e.
      let f = final q refl in
      let none : flying r.begun (in_hand rh) k.down.sent ≡ [] = front_none (flying r.begun (in_hand rh) k.down.sent) x.rest (splits_none kept r.landed (flying r.begun (in_hand rh) k.down.sent ++ x.rest) f.0 x.same) in
      (Splits-same kept r.landed [] (flying r.begun (in_hand rh) (k.down.sent ++ Framed frames.Done ∷ [])) f.0 (sym (flying-more r.begun (in_hand rh) k.down.sent (Framed frames.Done ∷ []) ∙ (append-nil (flying r.begun (in_hand rh) k.down.sent) ∙ none))), f.1)
  asked_last Aborts k final x = tt
  asked_last Silent k final x = tt

  answers_here : (k : Link) (b : Bool) → ((q : Phase) → rs ≡ Talks q → is_bye q ≡ true → g.finish ≡ true) → In (at (SendDoes (acts.Write frames.Done)) (Some k) None) → In (at (SendHas (wrote_or_lost b)) (Some record k { down = with_sent k.down (Framed frames.Done ∷ []) }) None)
  answers_here k b come c = go b where
    final : (q : Phase) → rs ≡ Talks q → Splits kept r.landed [] × (past.claims.held ≡ false)
    final q is =
        let f = c.finished (come q is (bye_talk q k.down.sent k.up.sent (subst (λ (x : Stance). OnLink (Talks Bye) x k.down.sent k.up.sent) is c.agrees.on_taken))) in
        (f.same, f.holds)

    asked : AskedBy rs (Some record k { down = with_sent k.down (Framed frames.Done ∷ []) }) kept r.landed r.begun (in_hand rh) past.claims.held
    asked = asked_last rs k final c.lists

    go : (b : Bool) → In (at (SendHas (wrote_or_lost b)) (Some record k { down = with_sent k.down (Framed frames.Done ∷ []) }) None)
    go true =
        says_here g l states.AnswerDone ask past kept r rh between denies refusals k frames.Done inputs.Wrote refl
        (λ a. says_down (Framed frames.Done ∷ []) Bye Over rs k.down.sent k.up.sent a (moves_one Bye Over (Framed frames.Done) refl))
        (λ xs e. e) (λ P e. e) (λ e. e) (λ n. n) asked (λ x. refl) tt c
    go false =
        says_here g l states.AnswerDone ask past kept r rh between denies refusals k frames.Done inputs.Lost refl
        (λ a. silent Over rs (k.down.sent ++ Framed frames.Done ∷ []) k.up.sent (says_down (Framed frames.Done ∷ []) Bye Over rs k.down.sent k.up.sent a (moves_one Bye Over (Framed frames.Done) refl)))
        (λ xs e. e) (λ P e. tt) (λ e. e) (λ n. n) asked (λ x. tt) tt c

  writes_answer : (taken newest : Option Link) (lost : Option ℕ) → ((q : Phase) → rs ≡ Talks q → is_bye q ≡ true → g.finish ≡ true) → In (at (SendDoes (acts.Write frames.Done)) taken newest) → In (send_does (at (SendDoes (acts.Write frames.Done)) taken newest) lost (acts.Write frames.Done))
  writes_answer None None lost come c = c
  writes_answer (Some k) None lost come c = answers_here k (not (is_cut k.down) && not (recv_stops rh)) come c
  writes_answer taken (Some t) lost come c = waits_not Bye t.down.sent t.up.sent c.agrees.on_newest refl

pub answer_keeps : (w : PlainWorld) (l : ℕ) (lost : Option ℕ) → Conversation w → l < length w.pairs → state_at w.sender l ≡ states.AnswerDone → (pair_at w l).send ≡ SendDoes (acts.Write frames.Done) → Conversation (send_steps w l lost)
answer_keeps w l lost c within here holds =
    let p : Pair = pair_at w l in
    act_keeps w l lost states.AnswerDone frames.Done c within here holds
    (writes_answer (common w.receiver) l (lane_at w.sender l).ask (past_at w.sender l) (sending w.sender l).kept (receiving w.receiver l) p.recv p.between p.denies p.refusals p.taken p.newest lost (λ q e y. last_finish w l q c within e y))
