-- The receiver's lane reads a failure, or that its connection is lost; and the step by which it reads.
use Rattle.std.proofs.Common.{◌≡◌, inl, inr, ℕ, ◌<◌, ◌||◌, Bool, true, false, List, [], ◌∷◌, ◌++◌, length, Option, Some, None, subst, sym, ap, ◌∙◌, refl, append_assoc}
use Rattle.std.specs.Option.{option_and_then}
use Rattle.wdt_units.specs.declared.blocks.Header.{Header}
use Rattle.wdt_codec.specs.Frames.{Fits}
use Rattle.wdt_codec.specs.declared.frames.Frame.{Frame}
use Rattle.wdt_codec.specs.declared.frames.Frame.TheVariants as frames
use Rattle.wdt_sender_fsm.specs.Phases.{Phase, Open, Met, Listing, Told, Sending as SendingPhase, Mid, Asked, Bye, Over, Message, Framed, Piece, down, up, is_abort}
use Rattle.wdt_sender_fsm.specs.Talk.{moved}
use Rattle.wdt_receiver_fsm.specs.declared.acts.RecvAct.{RecvAct}
use Rattle.wdt_receiver_fsm.specs.declared.acts.RecvAct.TheVariants as recv_acts
use Rattle.wdt_receiver_fsm.specs.declared.inputs.RecvIn.TheVariants as recv_inputs
use Rattle.wdt_receiver_fsm.specs.declared.states.RecvLane.{RecvLane}
use Rattle.wdt_receiver_fsm.specs.declared.states.RecvState.{RecvState}
use Rattle.wdt_receiver_fsm.specs.declared.states.RecvState.TheVariants as recv_states
use Rattle.wdt_receiver_fsm.specs.Phases as recv
use Rattle.wdt_receiver_fsm.specs.Phases.{sized_by}
use Rattle.wdt_receiver_fsm.specs.PlainReceiver.{state_at}
use Rattle.wdt_receiver_fsm.specs.Rows.{is_reading}
use Rattle.wdt_pact.specs.Each.{Each}
use Rattle.wdt_pact.specs.Links.{Link, Way, front, is_cut, size_down}
use Rattle.wdt_pact.specs.Pairs.{SendHold, RecvHold, RecvDoes, RecvHas, Pair, recv_does, recv_reads, recv_reads_by, send_left}
use Rattle.wdt_pact.specs.World.{PlainWorld, pair_at, recv_steps, recv_steps_by}
use Rattle.wdt_pact.specs.Stances.{Stance, Talks, Aborts, Silent, Agrees, OnLink, is_abort_down, is_any, is_calm, recv_stance, send_stance, send_there, stand}
use Rattle.wdt_pact.specs.Lists.{AskedBy, ListsBy, Splits-same, UnsentBy, begun_heads, blocks_in, flying, in_hand}
use Rattle.wdt_pact.specs.Conversation.{AllTell, Common, Conversation, Converses, HeardDown, IsIdle, IsWord, Pieces, Receiving, Sending, Tells, common, is_recv_out, receiving, send_in_hand, sending, to_say, upward_by}
use Rattle.wdt_pact.proofs.Below.{if_has, one_talker, turned_talker}
use Rattle.wdt_pact.proofs.Frame.{pair_keeps}
use Rattle.wdt_pact.proofs.Links.{falls_silent, turned_on}
use Rattle.wdt_pact.proofs.Reading.{front_head, reads_here, same_notes}

-- ---- the receiver falls silent

pub recv_silenced : (s r : Stance) (ds : List Message) (us : List Frame) → OnLink s r ds us → OnLink s Silent ds us
recv_silenced (Talks s) (Talks r) ds us a =
    turned_on up down is_abort is_abort_down is_any is_calm (turned_talker down up one_talker) Silent (Talks s) us ds
    (falls_silent up down is_abort is_abort_down is_any is_calm (turned_talker down up one_talker) r (Talks s) us ds (turned_on down up is_abort_down is_abort is_calm is_any one_talker (Talks s) (Talks r) ds us a))
recv_silenced (Talks s) Aborts ds us a = inl record { at = a.at; moves = a.moves }
recv_silenced (Talks s) Silent ds us a = a
recv_silenced Aborts r ds us a = tt
recv_silenced Silent r ds us a = tt

-- only what is begun counts from now on
lists_silenced : (rs : Stance) (k : Link) (rest : Way Message) (kept landed : List Header) (begun : Option Header) (hand new : List Message) (P : List Header → Type 0) → ListsBy rs (Some k) kept landed begun hand P → ListsBy Silent (Some record k { down = rest }) kept landed begun new P
lists_silenced (Talks q) k rest kept landed begun hand new P x =
    record {
      rest = blocks_in (hand ++ k.down.sent) ++ x.rest;
      same = Splits-same kept landed (flying begun hand k.down.sent ++ x.rest) (begun_heads begun ++ (blocks_in (hand ++ k.down.sent) ++ x.rest)) x.same (append_assoc (begun_heads begun) (blocks_in (hand ++ k.down.sent)) x.rest);
      live = λ e. tt;
      dead = λ e. none begun (x.dead e);
    } where
      none : (o : Option Header) → begun_heads o ++ blocks_in (hand ++ k.down.sent) ≡ [] → begun_heads o ≡ []
      none None e = refl
      none (Some h) e = cc
lists_silenced Aborts k rest kept landed begun hand new P x = record { rest = x.rest; same = x.same; live = x.live; dead = x.dead }
lists_silenced Silent k rest kept landed begun hand new P x = record { rest = x.rest; same = x.same; live = x.live; dead = x.dead }

not_down : (q : Phase) (f : Frame) → is_abort f ≡ true → down q (Framed f) ≡ None
not_down Open (frames.Abort code) e = refl
not_down (Met ask) (frames.Abort code) e = refl
not_down Listing (frames.Abort code) e = refl
not_down Told (frames.Abort code) e = refl
not_down SendingPhase (frames.Abort code) e = refl
not_down (Mid left) (frames.Abort code) e = refl
not_down Asked (frames.Abort code) e = refl
not_down Bye (frames.Abort code) e = refl
not_down Over (frames.Abort code) e = refl
not_down q f e = cc

-- a sender that tells of a failure talks no more
abort_not : {P : Type 0} (s q : Phase) (f : Frame) (ds : List Message) (us : List Frame) → is_abort f ≡ true → OnLink (Talks s) (Talks q) (Framed f ∷ ds) us → P
abort_not s q f ds us a (inr t) = let x = t.0 in cc
abort_not s q f ds us a (inl t) = go (down q (Framed f)) (not_down q f a) t.1 where
  go : {P : Type 0} (o : Option Phase) → o ≡ None → option_and_then (moved down ds) o ≡ Some s → P
  go None is e = cc
  go (Some x) is e = cc

heard_abort : (ss : Stance) (q : Phase) (f : Frame) (ds : List Message) (us : List Frame) → is_abort f ≡ true → OnLink ss (Talks q) (Framed f ∷ ds) us → OnLink ss Silent ds us
heard_abort (Talks s) q f ds us a t = abort_not s q f ds us a t
heard_abort Aborts q f ds us a t = tt
heard_abort Silent q f ds us a t = tt

module _ (g : Common) (l : ℕ) (s : Sending) (r : Receiving) (sh : SendHold) (between : List Link) (denies refusals : ℕ) where
  abbrev at : RecvHold → Link → Option Link → Pair
  at rh k newest = record { send = sh; recv = rh; taken = Some k; between = between; newest = newest; denies = denies; refusals = refusals }

  abbrev ss : Stance
  ss = send_stance s.lane s.past.is_acked sh

  abbrev stance : RecvHold → Stance
  stance rh = recv_stance r.lane r.past.is_idle r.past.is_acked rh

  -- behind an act that writes nothing the lane says nothing more: it read a failure, or the connection is lost
  pub falls_here : (k : Link) (newest : Option Link) (act : RecvAct) (new : RecvHold) (rest : Way Message) → stance new ≡ Silent → to_say (RecvDoes act) ≡ [] → to_say new ≡ []
      → Pieces r.lane.left new → HeardDown new r.lane r.past.is_idle
      → (OnLink (send_there newest ss) (stance (RecvDoes act)) k.down.sent k.up.sent → OnLink (send_there newest ss) Silent rest.sent k.up.sent)
      → Converses g l s r (at (RecvDoes act) k newest) → Converses g l s r (at new record k { down = rest } newest)
  falls_here k newest act new rest silent mute quiet pieces heard on c =
      let said : upward_by newest (Some k) sh (RecvDoes act) ≡ upward_by newest (Some record k { down = rest }) sh new = same newest in
      record {
        agrees = subst (λ (x : Stance). Agrees ss x (Some record k { down = rest }) between newest) (sym silent) record { on_taken = on c.agrees.on_taken; waiting = c.agrees.waiting; on_newest = c.agrees.on_newest };
        lists = subst (λ (x : Stance). ListsBy x (Some record k { down = rest }) s.kept r.landed r.begun (in_hand new) (UnsentBy newest s.lane.state sh)) (sym silent) (lists_silenced (stance (RecvDoes act)) k rest s.kept r.landed r.begun (in_hand (RecvDoes act)) (in_hand new) (UnsentBy newest s.lane.state sh) c.lists);
        sure = c.sure;
        upward = subst (λ (us : List Frame). AllTell ss (Tells g l r.landed) us) said c.upward;
        fits = subst (λ (us : List Frame). Each Fits us) said c.fits;
        notes = same_notes g l s r sh between denies refusals k rest newest c.notes;
        closed = c.closed;
        asked = subst (λ (x : Stance). AskedBy x (Some record k { down = rest }) s.kept r.landed r.begun (in_hand new) s.past.claims.held) (sym silent) tt;
        finished = c.finished;
        pieces = pieces;
        waits = c.waits;
        idle = λ e. subst (λ (us : List Frame). IsIdle s.kept r.landed s.past.claims.held newest ss us) said (c.idle e);
        shut = λ e. record { silent = silent; none = (c.shut e).none };
        heard_up = c.heard_up;
        heard_down = heard;
      } where
        same : (newest : Option Link) → upward_by newest (Some k) sh (RecvDoes act) ≡ upward_by newest (Some record k { down = rest }) sh new
        same None = ap (λ (us : List Frame). send_in_hand sh ++ (k.up.sent ++ us)) (mute ∙ sym quiet)
        same (Some t) = refl

-- ---- states in which the lane reads

reads_phase : (st : RecvState) (lane : RecvLane) (idle acked : Bool) → is_reading st ≡ true → (q : Phase) × (recv.phase_by lane idle acked st ≡ Some q) × (recv.phase_by lane idle false st ≡ Some q)
reads_phase recv_states.ReadSettings lane idle acked e = (Open, refl, refl)
reads_phase recv_states.ReadNextCmd lane idle acked e = (sized_by lane.is_sized, refl, refl)
reads_phase recv_states.ReadAck lane idle acked e = (Bye, refl, refl)
reads_phase st lane idle acked e = cc

module _ (g : Common) (l : ℕ) (s : Sending) (r : Receiving) (sh : SendHold) (between : List Link) (denies refusals : ℕ) (reads : is_reading r.lane.state ≡ true) where
  abbrev pair : RecvHold → Option Link → Option Link → Pair
  pair rh taken newest = record { send = sh; recv = rh; taken = taken; between = between; newest = newest; denies = denies; refusals = refusals }

  abbrev Here : Pair → Type 0
  Here = Converses g l s r

  lost_here : (k : Link) (newest : Option Link) → Here (pair (RecvDoes recv_acts.Read) (Some k) newest) → Here (pair (RecvHas recv_inputs.Lost) (Some k) newest)
  lost_here k newest c =
      falls_here g l s r sh between denies refusals k newest recv_acts.Read (RecvHas recv_inputs.Lost) k.down refl refl refl tt tt
      (λ a. recv_silenced (send_there newest (send_stance s.lane s.past.is_acked sh)) (recv_stance r.lane r.past.is_idle r.past.is_acked (RecvDoes recv_acts.Read)) k.down.sent k.up.sent a) c

  abort_here : (k : Link) (newest : Option Link) (f : Frame) (rest : Way Message) → is_abort f ≡ true → k.down.sent ≡ Framed f ∷ rest.sent → Here (pair (RecvDoes recv_acts.Read) (Some k) newest) → Here (pair (RecvHas (recv_inputs.Got f)) (Some record k { down = rest }) newest)
  abort_here k newest f rest fails is c =
      let p = reads_phase r.lane.state r.lane r.past.is_idle r.past.is_acked reads in
      let before : recv_stance r.lane r.past.is_idle r.past.is_acked (RecvDoes recv_acts.Read) ≡ Talks p.0 = ap (stand _) p.1 in
      let none : recv.phase_heard (Framed f) (recv.phase_by r.lane r.past.is_idle false r.lane.state) ≡ None = ap (recv.phase_heard (Framed f)) p.2 ∙ not_down p.0 f fails in
      falls_here g l s r sh between denies refusals k newest recv_acts.Read (RecvHas (recv_inputs.Got f)) rest (ap (stand false) none) refl refl tt
      (subst (λ (o : Option Phase). IsWord o (is_recv_out r.lane.state || is_abort f)) (sym none) (free (is_recv_out r.lane.state) (is_abort f) fails))
      (λ a. heard_abort (send_there newest (send_stance s.lane s.past.is_acked sh)) p.0 f rest.sent k.up.sent fails (subst (λ (ds : List Message). OnLink (send_there newest (send_stance s.lane s.past.is_acked sh)) (Talks p.0) ds k.up.sent) is (subst (λ (x : Stance). OnLink (send_there newest (send_stance s.lane s.past.is_acked sh)) x k.down.sent k.up.sent) before a))) c where
        free : (a b : Bool) → b ≡ true → IsWord None (a || b)
        free true b e = tt
        free false true e = tt
        free false false e = cc

  heard_here : (k : Link) (newest : Option Link) (f : Frame) (rest : Way Message) (b : Bool) → is_abort f ≡ b → k.down.sent ≡ Framed f ∷ rest.sent → Here (pair (RecvDoes recv_acts.Read) (Some k) newest) → Here (pair (RecvHas (recv_inputs.Got f)) (Some record k { down = rest }) newest)
  heard_here k newest f rest true fails is c = abort_here k newest f rest fails is c
  heard_here k newest f rest false calm is c =
      let p = reads_phase r.lane.state r.lane r.past.is_idle r.past.is_acked reads in
      reads_here g l s r sh between denies refusals k newest f rest p.0 calm is p.1 p.2 c

  front_here : (k : Link) (newest : Option Link) (o : Option (Message × Way Message)) → front size_down k.down ≡ o → Here (pair (RecvDoes recv_acts.Read) (Some k) newest) → Here (recv_reads_by (pair (RecvDoes recv_acts.Read) (Some k) newest) k o)
  front_here k newest (Some (Framed f, rest)) e c = heard_here k newest f rest (is_abort f) refl (front_head size_down k.down.sent k.down.room (Framed f) rest e) c
  front_here k newest (Some (Piece n, rest)) e c = c
  front_here k newest None e c = if_has Here (is_cut k.down || send_left newest sh) (pair (RecvHas recv_inputs.Lost) (Some k) newest) (pair (RecvDoes recv_acts.Read) (Some k) newest) (lost_here k newest c) c

  pub recv_reads_here : (taken newest : Option Link) → Here (pair (RecvDoes recv_acts.Read) taken newest) → Here (recv_reads (pair (RecvDoes recv_acts.Read) taken newest) taken)
  recv_reads_here None newest c = c
  recv_reads_here (Some k) newest c = front_here k newest (front size_down k.down) refl c

pub recv_read_keeps : (w : PlainWorld) (l : ℕ) (broken : Option ℕ) → Conversation w → l < length w.pairs → is_reading (state_at w.receiver l) ≡ true → (pair_at w l).recv ≡ RecvDoes recv_acts.Read → Conversation (recv_steps w l broken)
recv_read_keeps w l broken c within reads holds =
    let p : Pair = pair_at w l in
    subst (λ (x : RecvHold). Conversation (recv_steps_by w l broken x)) (sym holds)
    (pair_keeps w l (recv_does p recv_acts.Read) c within
    (subst (λ (x : RecvHold). Converses (common w.receiver) l (sending w.sender l) (receiving w.receiver l) (recv_does (record p { recv = x }) recv_acts.Read)) (sym holds)
    (recv_reads_here (common w.receiver) l (sending w.sender l) (receiving w.receiver l) p.send p.between p.denies p.refusals reads p.taken p.newest
    (subst (λ (x : RecvHold). Converses (common w.receiver) l (sending w.sender l) (receiving w.receiver l) record p { recv = x }) holds (c.lanes l within)))))
