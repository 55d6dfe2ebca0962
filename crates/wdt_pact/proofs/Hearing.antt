-- The sender's lane reads a frame, or that its connection is lost.
use Rattle.std.proofs.Common.{◌≡◌, inl, inr, ℕ, ◌<◌, ◌||◌, Bool, true, false, List, ◌∷◌, ◌++◌, length, Option, Some, None, subst, sym, ap, ◌∙◌, refl}
use Rattle.std.proofs.lemmas.Option.{same_Some}
use Rattle.wdt_units.specs.declared.blocks.Header.{Header}
use Rattle.wdt_codec.specs.Frames.{Fits}
use Rattle.wdt_codec.specs.declared.frames.Frame.{Frame}
use Rattle.wdt_codec.specs.declared.frames.Frame.TheVariants as frames
use Rattle.wdt_sender_fsm.specs.declared.acts.SendAct.TheVariants as acts
use Rattle.wdt_sender_fsm.specs.declared.inputs.SendIn.{SendIn}
use Rattle.wdt_sender_fsm.specs.declared.inputs.SendIn.TheVariants as inputs
use Rattle.wdt_sender_fsm.specs.declared.states.SendState.{SendState}
use Rattle.wdt_sender_fsm.specs.declared.states.SendState.TheVariants as states
use Rattle.wdt_sender_fsm.specs.Phases.{Phase, Open, Met, Listing, Told, Sending as SendingPhase, Mid, Asked, Bye, Over, Message, down, up, is_abort, phase_by, phase_heard}
use Rattle.wdt_sender_fsm.specs.Rows.{is_reading}
use Rattle.wdt_sender_fsm.specs.SenderHistory.{LanePast}
use Rattle.wdt_sender_fsm.specs.Talk.{moved}
use Rattle.std.specs.Option.{option_and_then}
use Rattle.wdt_pact.specs.Each.{Each}
use Rattle.wdt_pact.specs.Links.{Link, Way, front, front_of, is_cut, size_up}
use Rattle.wdt_pact.specs.Pairs.{SendHold, SendDoes, SendHas, RecvHold, Pair, recv_stops, send_does, send_reads, send_reads_by, top_by}
use Rattle.wdt_pact.specs.World.{PlainWorld, pair_at, send_steps, send_steps_by}
use Rattle.wdt_sender_fsm.specs.PlainSender.{lane_at, past_at, state_at}
use Rattle.wdt_pact.specs.Stances.{Stance, Talks, Aborts, Silent, IsLate, OnLink, is_abort_down, is_any, is_calm, is_late, recv_stance, send_aborts, send_stance, stand}
use Rattle.wdt_pact.specs.Lists.{in_hand, Unsent, UnsentBy}
use Rattle.wdt_pact.specs.Conversation.{AllTell, Common, Conversation, Converses, common, receiving, sending, IsNoMarks, IsWord, Notes, Receiving, Sending, Tells, is_send_out, send_in_hand, to_say, HeardUp}
use Rattle.wdt_pact.proofs.Below.{if_has, one_talker}
use Rattle.wdt_pact.proofs.Failing.{silenced}
use Rattle.wdt_pact.proofs.Frame.{pair_keeps}
use Rattle.wdt_pact.proofs.Reading.{front_head}
use Rattle.wdt_pact.proofs.Links.{hears_one, waits_at}
use Rattle.wdt_pact.proofs.Lists.{lists_weaker}

-- ---- states in which the lane reads

-- whether it is acknowledged makes no difference
reads_phase : (st : SendState) (ask acked : Bool) → is_reading st ≡ true → (q : Phase) × (phase_by ask acked st ≡ Some q) × (phase_by ask false st ≡ Some q)
reads_phase states.ReadLocalCheckpoint ask acked e = (Met ask, refl, refl)
reads_phase states.ReadFileChunks ask acked e = (Listing, refl, refl)
reads_phase states.ReadReceiverCmd ask acked e = (Asked, refl, refl)
reads_phase st ask acked e = cc

reads_rest : (st : SendState) (f : Frame) (rest : List Header) → is_reading st ≡ true → Unsent st (SendDoes acts.Read) rest → Unsent st (SendHas (inputs.Got f)) rest
reads_rest states.ReadLocalCheckpoint f rest e x = x
reads_rest states.ReadFileChunks f rest e x = x
reads_rest states.ReadReceiverCmd f rest e x = x
reads_rest st f rest e x = cc

lost_rest : (st : SendState) (rest : List Header) → is_reading st ≡ true → Unsent st (SendDoes acts.Read) rest → Unsent st (SendHas inputs.Lost) rest
lost_rest states.ReadLocalCheckpoint rest e x = x
lost_rest states.ReadFileChunks rest e x = x
lost_rest states.ReadReceiverCmd rest e x = x
lost_rest st rest e x = cc

reads_notes : (st : SendState) (f : Frame) (a b : Bool) → is_reading st ≡ true → Notes st (SendDoes acts.Read) a b → Notes st (SendHas (inputs.Got f)) a b
reads_notes states.ReadLocalCheckpoint f a b e x = x
reads_notes states.ReadFileChunks f a b e x = x
reads_notes states.ReadReceiverCmd f a b e x = x
reads_notes st f a b e x = cc

lost_notes : (st : SendState) (a b : Bool) → is_reading st ≡ true → Notes st (SendDoes acts.Read) a b → Notes st (SendHas inputs.Lost) a b
lost_notes states.ReadLocalCheckpoint a b e x = x
lost_notes states.ReadFileChunks a b e x = x
lost_notes states.ReadReceiverCmd a b e x = x
lost_notes st a b e x = cc

no_send_aborts : (st : SendState) → is_reading st ≡ true → send_aborts st ≡ false
no_send_aborts states.ReadLocalCheckpoint e = refl
no_send_aborts states.ReadFileChunks e = refl
no_send_aborts states.ReadReceiverCmd e = refl
no_send_aborts st e = cc

-- ---- what is heard where the lane is past its last word

some_late : (p q : Phase) → is_late p ≡ true → Some p ≡ Some q → is_late q ≡ true
some_late p q l e = subst (λ (x : Phase). is_late x ≡ true) (same_Some p q e) l

late_up : (q r : Phase) (f : Frame) → up q f ≡ Some r → is_late q ≡ true → IsNoMarks f → is_late r ≡ true
late_up Asked r frames.Wait e l n = some_late Asked r refl e
late_up Asked r (frames.ErrMarks ms) e l n = absurd n
late_up Asked r frames.Done e l n = some_late Bye r refl e
late_up (Met true) r (frames.Greeting m) e l n = cc
late_up (Met false) r (frames.Greeting m) e l n = cc
late_up (Met ask) r frames.Done e l n = cc
late_up Listing r (frames.Chunks have) e l n = cc
late_up q r f e l n = cc

up_abort : (q : Phase) (code : ℕ) → up q (frames.Abort code) ≡ None
up_abort Open code = refl
up_abort (Met ask) code = refl
up_abort Listing code = refl
up_abort Told code = refl
up_abort SendingPhase code = refl
up_abort (Mid left) code = refl
up_abort Asked code = refl
up_abort Bye code = refl
up_abort Over code = refl

abort_moves : {P : Type 0} (q r : Phase) (f : Frame) → is_abort f ≡ true → up q f ≡ Some r → P
abort_moves q r (frames.Abort code) a e = let x = up_abort q code in cc
abort_moves q r f a e = cc

-- a failure is read
silent_on : (q : Phase) (rs : Stance) (ds : List Message) (us : List Frame) (f : Frame) → is_abort f ≡ true → OnLink (Talks q) rs ds (f ∷ us) → OnLink Silent rs ds us
silent_on q (Talks r) ds us f a (inl t) = let x = t.0 in cc
silent_on q (Talks r) ds us f a (inr t) = go (up q f) refl t.1 where
  go : {P : Type 0} (o : Option Phase) → up q f ≡ o → option_and_then (moved up us) o ≡ Some r → P
  go None is e = cc
  go (Some x) is e = abort_moves q x f a is
silent_on q Aborts ds us f a t = tt
silent_on q Silent ds us f a t = tt

module _ (g : Common) (l : ℕ) (st : SendState) (ask : Bool) (past : LanePast) (kept : List Header) (r : Receiving) (rh : RecvHold) (between : List Link) (denies refusals : ℕ) (reads : is_reading st ≡ true) where
  abbrev reader : Sending
  reader = record { lane = record { state = st; ask = ask }; past = past; kept = kept }

  abbrev at : SendHold → Link → Pair
  at sh k = record { send = sh; recv = rh; taken = Some k; between = between; newest = None; denies = denies; refusals = refusals }

  abbrev rs : Stance
  rs = recv_stance r.lane r.past.is_idle r.past.is_acked rh

  -- a frame that tells of no failure is read: it leads to a phase
  pub hears_here : (k : Link) (f : Frame) (rest : Way Frame) → is_abort f ≡ false → k.up.sent ≡ f ∷ rest.sent → Converses g l reader r (at (SendDoes acts.Read) k) → Converses g l reader r (at (SendHas (inputs.Got f)) record k { up = rest })
  hears_here k f rest calm is c =
      let p = reads_phase st ask past.is_acked reads in
      let before : send_stance record { state = st; ask = ask } past.is_acked (SendDoes acts.Read) ≡ Talks p.0 = ap (stand _) p.1 in
      let on : OnLink (Talks p.0) rs k.down.sent (f ∷ rest.sent) = subst (λ (us : List Frame). OnLink (Talks p.0) rs k.down.sent us) is (subst (λ (x : Stance). OnLink x rs k.down.sent k.up.sent) before c.agrees.on_taken) in
      let heard = hears_one down up is_abort_down is_abort is_calm is_any one_talker p.0 rs k.down.sent rest.sent f on calm in
      let after : stand false (phase_heard f (phase_by ask false st)) ≡ Talks heard.0 = ap (λ (o : Option Phase). stand false (phase_heard f o)) p.2 ∙ ap (stand false) heard.1 in
      let all : (P : Frame → Type 0) → Each P (k.up.sent ++ to_say rh) → Each P (f ∷ (rest.sent ++ to_say rh)) = λ P e. subst (λ (us : List Frame). Each P (us ++ to_say rh)) is e in
      let told : AllTell (Talks p.0) (Tells g l r.landed) (k.up.sent ++ to_say rh) = subst (λ (x : Stance). AllTell x (Tells g l r.landed) (k.up.sent ++ to_say rh)) before c.upward in
      record {
        agrees = record { on_taken = subst (λ (x : Stance). OnLink x rs k.down.sent rest.sent) (sym after) heard.2; waiting = c.agrees.waiting; on_newest = tt };
        lists = lists_weaker rs (Some record k { up = rest }) kept r.landed r.begun (in_hand rh) (UnsentBy None st (SendDoes acts.Read)) (UnsentBy None st (SendHas (inputs.Got f))) (λ xs e. reads_rest st f xs reads e) record { rest = c.lists.rest; same = c.lists.same; live = c.lists.live; dead = c.lists.dead };
        sure = c.sure;
        upward = subst (λ (x : Stance). AllTell x (Tells g l r.landed) (f ∷ (rest.sent ++ to_say rh))) (sym after) (all (Tells g l r.landed) told);
        fits = all Fits c.fits;
        notes = reads_notes st f past.is_greeted k.greeted reads c.notes;
        closed = c.closed;
        asked = c.asked;
        finished = c.finished;
        pieces = c.pieces;
        waits = c.waits;
        idle = λ e. let x = c.idle e in
            let quiet : Each IsNoMarks (f ∷ (rest.sent ++ to_say rh)) = all IsNoMarks (subst (λ (y : Stance). AllTell y IsNoMarks (k.up.sent ++ to_say rh)) before x.quiet) in
            record {
              same = x.same;
              holds = x.holds;
              late = λ y. subst IsLate (sym after) (late_up p.0 heard.0 f heard.1 (subst IsLate before (x.late refl)) quiet.0);
              quiet = subst (λ (y : Stance). AllTell y IsNoMarks (f ∷ (rest.sent ++ to_say rh))) (sym after) quiet;
            };
        shut = c.shut;
        heard_up = subst (λ (o : Option Phase). IsWord (phase_heard f o) (is_send_out st || is_abort f)) (sym p.2) (subst (λ (o : Option Phase). IsWord o (is_send_out st || is_abort f)) (sym heard.1) tt);
        heard_down = c.heard_down;
      }

  -- a failure is read, or the connection is lost: the lane says nothing more there
  quiets_here : (k : Link) (input : SendIn) (rest : Way Frame)
      → (OnLink (send_stance record { state = st; ask = ask } past.is_acked (SendDoes acts.Read)) rs k.down.sent k.up.sent → OnLink Silent rs k.down.sent rest.sent)
      → ((xs : List Header) → Unsent st (SendDoes acts.Read) xs → Unsent st (SendHas input) xs)
      → (Notes st (SendDoes acts.Read) past.is_greeted k.greeted → Notes st (SendHas input) past.is_greeted k.greeted)
      → (send_stance record { state = st; ask = ask } past.is_acked (SendHas input) ≡ Silent)
      → (Each Fits (k.up.sent ++ to_say rh) → Each Fits (send_in_hand (SendHas input) ++ (rest.sent ++ to_say rh)))
      → HeardUp (SendHas input) record { state = st; ask = ask }
      → Converses g l reader r (at (SendDoes acts.Read) k) → Converses g l reader r (at (SendHas input) record k { up = rest })
  quiets_here k input rest on unsent notes silent fits heard c =
      record {
        agrees = record { on_taken = subst (λ (x : Stance). OnLink x rs k.down.sent rest.sent) (sym silent) (on c.agrees.on_taken); waiting = c.agrees.waiting; on_newest = tt };
        lists = lists_weaker rs (Some record k { up = rest }) kept r.landed r.begun (in_hand rh) (UnsentBy None st (SendDoes acts.Read)) (UnsentBy None st (SendHas input)) unsent record { rest = c.lists.rest; same = c.lists.same; live = c.lists.live; dead = c.lists.dead };
        sure = c.sure;
        upward = subst (λ (x : Stance). AllTell x (Tells g l r.landed) (send_in_hand (SendHas input) ++ (rest.sent ++ to_say rh))) (sym silent) tt;
        fits = fits c.fits;
        notes = notes c.notes;
        closed = c.closed;
        asked = c.asked;
        finished = c.finished;
        pieces = c.pieces;
        waits = c.waits;
        idle = λ e. let x = c.idle e in record { same = x.same; holds = x.holds; late = λ y. subst IsLate (sym silent) tt; quiet = subst (λ (y : Stance). AllTell y IsNoMarks (send_in_hand (SendHas input) ++ (rest.sent ++ to_say rh))) (sym silent) tt };
        shut = c.shut;
        heard_up = heard;
        heard_down = c.heard_down;
      }

-- ---- the step

front_up : (k : Link) (f : Frame) (rest : Way Frame) → front size_up k.up ≡ Some (f, rest) → k.up.sent ≡ f ∷ rest.sent
front_up k f rest e = front_head size_up k.up.sent k.up.room f rest e

module _ (g : Common) (l : ℕ) (st : SendState) (ask : Bool) (past : LanePast) (kept : List Header) (r : Receiving) (rh : RecvHold) (between : List Link) (denies refusals : ℕ) (reads : is_reading st ≡ true) where
  abbrev Here : Pair → Type 0
  Here = Converses g l (reader g l st ask past kept r rh between denies refusals reads) r

  abbrev pair : SendHold → Option Link → Option Link → Pair
  pair sh taken newest = record { send = sh; recv = rh; taken = taken; between = between; newest = newest; denies = denies; refusals = refusals }

  lost_here : (k : Link) → Here (pair (SendDoes acts.Read) (Some k) None) → Here (pair (SendHas inputs.Lost) (Some k) None)
  lost_here k c =
      quiets_here g l st ask past kept r rh between denies refusals reads k inputs.Lost k.up
      (λ a. silenced (send_stance record { state = st; ask = ask } past.is_acked (SendDoes acts.Read)) (recv_stance r.lane r.past.is_idle r.past.is_acked rh) k.down.sent k.up.sent a)
      (λ xs e. lost_rest st xs reads e) (λ n. lost_notes st past.is_greeted k.greeted reads n) refl (λ e. e) tt c

  abort_here : (k : Link) (f : Frame) (rest : Way Frame) → is_abort f ≡ true → k.up.sent ≡ f ∷ rest.sent → Here (pair (SendDoes acts.Read) (Some k) None) → Here (pair (SendHas (inputs.Got f)) (Some record k { up = rest }) None)
  abort_here k f rest fails is c =
      let p = reads_phase st ask past.is_acked reads in
      let before : send_stance record { state = st; ask = ask } past.is_acked (SendDoes acts.Read) ≡ Talks p.0 = ap (stand _) p.1 in
      quiets_here g l st ask past kept r rh between denies refusals reads k (inputs.Got f) rest
      (λ a. silent_on p.0 (recv_stance r.lane r.past.is_idle r.past.is_acked rh) k.down.sent rest.sent f fails (subst (λ (us : List Frame). OnLink (Talks p.0) (recv_stance r.lane r.past.is_idle r.past.is_acked rh) k.down.sent us) is (subst (λ (x : Stance). OnLink x (recv_stance r.lane r.past.is_idle r.past.is_acked rh) k.down.sent k.up.sent) before a)))
      (λ xs e. reads_rest st f xs reads e) (λ n. reads_notes st f past.is_greeted k.greeted reads n)
      (ap (λ (o : Option Phase). stand false (phase_heard f o)) p.2 ∙ ap (stand false) (not_heard p.0 f fails))
      (λ e. subst (λ (us : List Frame). Each Fits (us ++ to_say rh)) is e)
      (subst (λ (o : Option Phase). IsWord o (is_send_out st || is_abort f)) (sym (ap (phase_heard f) p.2 ∙ not_heard p.0 f fails)) (free (is_send_out st) (is_abort f) fails)) c where
        not_heard : (q : Phase) (f : Frame) → is_abort f ≡ true → up q f ≡ None
        not_heard q (frames.Abort code) e = up_abort q code
        not_heard q f e = cc

        free : (a b : Bool) → b ≡ true → IsWord None (a || b)
        free true b e = tt
        free false true e = tt
        free false false e = cc

  heard_here : (k : Link) (f : Frame) (rest : Way Frame) (b : Bool) → is_abort f ≡ b → k.up.sent ≡ f ∷ rest.sent → Here (pair (SendDoes acts.Read) (Some k) None) → Here (pair (SendHas (inputs.Got f)) (Some record k { up = rest }) None)
  heard_here k f rest true fails is c = abort_here k f rest fails is c
  heard_here k f rest false calm is c = hears_here g l st ask past kept r rh between denies refusals reads k f rest calm is c

  front_here : (k : Link) (o : Option (Frame × Way Frame)) → front size_up k.up ≡ o → Here (pair (SendDoes acts.Read) (Some k) None) → Here (send_reads_by (pair (SendDoes acts.Read) (Some k) None) k o)
  front_here k (Some (f, rest)) e c = heard_here k f rest (is_abort f) refl (front_up k f rest e) c
  front_here k None e c = if_has Here (is_cut k.up || recv_stops rh) (pair (SendHas inputs.Lost) (Some k) None) (pair (SendDoes acts.Read) (Some k) None) (lost_here k c) c

  lost_waits : (taken : Option Link) (x : Link) → Here (pair (SendDoes acts.Read) taken (Some x)) → Here (pair (SendHas inputs.Lost) taken (Some x))
  lost_waits taken x c =
      record {
        agrees = record { on_taken = c.agrees.on_taken; waiting = c.agrees.waiting; on_newest = silenced (send_stance record { state = st; ask = ask } past.is_acked (SendDoes acts.Read)) (Talks Open) x.down.sent x.up.sent c.agrees.on_newest };
        lists = c.lists;
        sure = c.sure;
        upward = tt;
        fits = c.fits;
        notes = lost_notes st past.is_greeted x.greeted reads c.notes;
        closed = c.closed;
        asked = c.asked;
        finished = c.finished;
        pieces = c.pieces;
        waits = c.waits;
        idle = λ e. let y = c.idle e in record { same = y.same; holds = y.holds; late = λ z. tt; quiet = tt };
        shut = c.shut;
        heard_up = tt;
        heard_down = c.heard_down;
      }

  -- on a connection that waits nothing has come
  waits_here : (taken : Option Link) (x : Link) → Here (pair (SendDoes acts.Read) taken (Some x)) → Here (send_reads_by (pair (SendDoes acts.Read) taken (Some x)) x None)
  waits_here taken x c = if_has Here (is_cut x.up || recv_stops rh) (pair (SendHas inputs.Lost) taken (Some x)) (pair (SendDoes acts.Read) taken (Some x)) (lost_waits taken x c) c

  pub send_reads_here : (taken newest : Option Link) → Here (pair (SendDoes acts.Read) taken newest) → Here (send_reads (pair (SendDoes acts.Read) taken newest) (top_by newest taken))
  send_reads_here None None c = c
  send_reads_here (Some k) None c = front_here k (front size_up k.up) refl c
  send_reads_here taken (Some x) c =
      let p = reads_phase st ask past.is_acked reads in
      let on : OnLink (Talks p.0) (Talks Open) x.down.sent x.up.sent = subst (λ (y : Stance). OnLink y (Talks Open) x.down.sent x.up.sent) (ap (stand _) p.1) c.agrees.on_newest in
      let none : front size_up x.up ≡ None = ap (λ (us : List Frame). front_of size_up us x.up.room) (waits_at p.0 x.down.sent x.up.sent on).0 in
      subst (λ (o : Option (Frame × Way Frame)). Here (send_reads_by (pair (SendDoes acts.Read) taken (Some x)) x o)) (sym none) (waits_here taken x c)

pub send_read_keeps : (w : PlainWorld) (l : ℕ) (lost : Option ℕ) → Conversation w → l < length w.pairs → is_reading (state_at w.sender l) ≡ true → (pair_at w l).send ≡ SendDoes acts.Read → Conversation (send_steps w l lost)
send_read_keeps w l lost c within reads holds =
    let p : Pair = pair_at w l in
    subst (λ (x : SendHold). Conversation (send_steps_by w l lost x)) (sym holds)
    (pair_keeps w l (send_does p lost acts.Read) c within
    (subst (λ (x : SendHold). Converses (common w.receiver) l (sending w.sender l) (receiving w.receiver l) (send_does (record p { send = x }) lost acts.Read)) (sym holds)
    (send_reads_here (common w.receiver) l (state_at w.sender l) (lane_at w.sender l).ask (past_at w.sender l) (sending w.sender l).kept (receiving w.receiver l) p.recv p.between p.denies p.refusals reads p.taken p.newest
    (subst (λ (x : SendHold). Converses (common w.receiver) l (sending w.sender l) (receiving w.receiver l) record p { send = x }) holds (c.lanes l within)))))
