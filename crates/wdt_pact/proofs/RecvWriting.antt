-- The receiver's lane writes a frame: a move of its phase, or that its end has failed.
use Rattle.std.proofs.Common.{◌≡◌, inl, inr, ℕ, ◌<◌, ◌&&◌, not, Bool, true, false, List, [], ◌∷◌, ◌++◌, length, Option, Some, None, subst, sym, ap, ◌∙◌, refl, append-nil}
use Rattle.wdt_units.specs.declared.blocks.Header.{Header}
use Rattle.wdt_codec.specs.Frames.{Fits}
use Rattle.wdt_codec.specs.declared.frames.Frame.{Frame}
use Rattle.wdt_sender_fsm.specs.Phases.{Phase, Message, down, up, is_abort}
use Rattle.wdt_receiver_fsm.specs.declared.acts.RecvAct.TheVariants as recv_acts
use Rattle.wdt_receiver_fsm.specs.declared.states.RecvLane.{RecvLane}
use Rattle.wdt_receiver_fsm.specs.declared.states.RecvState.{RecvState}
use Rattle.wdt_receiver_fsm.specs.declared.states.RecvState.TheVariants as recv_states
use Rattle.wdt_receiver_fsm.specs.Phases as recv
use Rattle.wdt_receiver_fsm.specs.PlainReceiver.{lane_at, past_at, state_at}
use Rattle.wdt_pact.specs.Belongs.{receives_writing}
use Rattle.wdt_pact.specs.Each.{Each}
use Rattle.wdt_pact.specs.Links.{Link, is_cut, with_sent}
use Rattle.wdt_pact.specs.Pairs.{SendHold, RecvHold, RecvDoes, RecvHas, Pair, recv_does, recv_writes, recv_wrote_or_lost, send_left, top_by}
use Rattle.wdt_pact.specs.World.{PlainWorld, pair_at, recv_steps, recv_steps_by}
use Rattle.wdt_pact.specs.Stances.{Stance, Talks, Aborts, Silent, Agrees, OnLink, is_abort_down, is_any, is_calm, recv_aborts, recv_stance, send_stance, send_there, stand}
use Rattle.wdt_pact.specs.Lists.{AskedBy, ListsBy, UnsentBy, in_hand}
use Rattle.wdt_pact.specs.Conversation.{AllTell, Common, Conversation, Converses, HeardDown, IsIdle, NotesBy, Pieces, Receiving, Sending, Tells, common, receiving, send_in_hand, sending, upward_by}
use Rattle.wdt_pact.proofs.Below.{one_talker, turned_talker}
use Rattle.wdt_pact.proofs.Frame.{pair_keeps}
use Rattle.wdt_pact.proofs.Links.{calm_stays, says_failure, says_one, turned_on}
use Rattle.wdt_pact.proofs.RecvHearing.{recv_silenced}
use Rattle.wdt_pact.proofs.RecvMoves.{Keeps, lists_through}

-- ---- on the connection

-- what it writes is a move of its phase
says_up : (ss : Stance) (p q : Phase) (f : Frame) (ds : List Message) (us : List Frame) → up p f ≡ Some q → OnLink ss (Talks p) ds us → OnLink ss (Talks q) ds (us ++ f ∷ [])
says_up ss p q f ds us e a =
    turned_on up down is_abort is_abort_down is_any is_calm (turned_talker down up one_talker) (Talks q) ss (us ++ f ∷ []) ds
    (says_one up down is_abort is_abort_down is_any is_calm (turned_talker down up one_talker) calm_stays p q ss us ds f (turned_on down up is_abort_down is_abort is_calm is_any one_talker ss (Talks p) ds us a) e)

-- or tells that its end has failed
tells_up : (ss : Stance) (f : Frame) (ds : List Message) (us : List Frame) → is_abort f ≡ true → OnLink ss Aborts ds us → OnLink ss Silent ds (us ++ f ∷ [])
tells_up ss f ds us e a =
    turned_on up down is_abort is_abort_down is_any is_calm (turned_talker down up one_talker) Silent ss (us ++ f ∷ []) ds
    (says_failure up down is_abort is_abort_down is_any is_calm (turned_talker down up one_talker) ss us ds f e (turned_on down up is_abort_down is_abort is_calm is_any one_talker ss Aborts ds us a))

-- ---- the lane's part

lists_talk : (p q : Phase) (k : Link) (kept landed : List Header) (begun : Option Header) (P : List Header → Type 0) → ListsBy (Talks p) (Some k) kept landed begun [] P → ListsBy (Talks q) (Some k) kept landed begun [] P
lists_talk p q k kept landed begun P x = record { rest = x.rest; same = x.same; live = x.live; dead = x.dead }

module _ (g : Common) (l : ℕ) (s : Sending) (r : Receiving) (sh : SendHold) (between : List Link) (newest : Option Link) (denies refusals : ℕ) (f : Frame) where
  abbrev at : RecvHold → Option Link → Pair
  at rh taken = record { send = sh; recv = rh; taken = taken; between = between; newest = newest; denies = denies; refusals = refusals }

  abbrev ss : Stance
  ss = send_stance s.lane s.past.is_acked sh

  abbrev rs : RecvHold → Stance
  rs rh = recv_stance r.lane r.past.is_idle r.past.is_acked rh

  abbrev behind : Link → Link
  behind k = record k { up = with_sent k.up (f ∷ []) }

  same_up : (k : Link) (b : Bool) (o : Option Link) → upward_by o (Some k) sh (RecvDoes (recv_acts.Write f)) ≡ upward_by o (Some (behind k)) sh (RecvHas (recv_wrote_or_lost b))
  same_up k b None = ap (λ (us : List Frame). send_in_hand sh ++ us) (sym (append-nil (k.up.sent ++ f ∷ [])))
  same_up k b (Some t) = refl

  same_notes : (k : Link) (o : Option Link) → NotesBy s.lane.state sh s.past (top_by o (Some k)) → NotesBy s.lane.state sh s.past (top_by o (Some (behind k)))
  same_notes k None n = n
  same_notes k (Some t) n = n

  no_hand : (b : Bool) → in_hand (RecvHas (recv_wrote_or_lost b)) ≡ []
  no_hand true = refl
  no_hand false = refl

  no_piece : (b : Bool) → Pieces r.lane.left (RecvHas (recv_wrote_or_lost b))
  no_piece true = tt
  no_piece false = tt

  no_word : (b : Bool) → HeardDown (RecvHas (recv_wrote_or_lost b)) r.lane r.past.is_idle
  no_word true = tt
  no_word false = tt

  written : (k : Link) (b : Bool) (old new : Stance) → rs (RecvDoes (recv_acts.Write f)) ≡ old → rs (RecvHas (recv_wrote_or_lost b)) ≡ new
      → (OnLink (send_there newest ss) old k.down.sent k.up.sent → OnLink (send_there newest ss) new k.down.sent (k.up.sent ++ f ∷ []))
      → (ListsBy old (Some k) s.kept r.landed r.begun [] (UnsentBy newest s.lane.state sh) → ListsBy new (Some k) s.kept r.landed r.begun [] (UnsentBy newest s.lane.state sh))
      → (AskedBy old (Some k) s.kept r.landed r.begun [] s.past.claims.held → AskedBy new (Some k) s.kept r.landed r.begun [] s.past.claims.held)
      → (old ≡ Silent → ⊥) → Converses g l s r (at (RecvDoes (recv_acts.Write f)) (Some k)) → Converses g l s r (at (RecvHas (recv_wrote_or_lost b)) (Some (behind k)))
  written k b old new before after on lists asked loud c =
      let li = lists (subst (λ (x : Stance). ListsBy x (Some k) s.kept r.landed r.begun [] (UnsentBy newest s.lane.state sh)) before c.lists) in
      record {
        agrees = subst (λ (x : Stance). Agrees ss x (Some (behind k)) between newest) (sym after)
            record { on_taken = on (subst (λ (x : Stance). OnLink (send_there newest ss) x k.down.sent k.up.sent) before c.agrees.on_taken); waiting = c.agrees.waiting; on_newest = c.agrees.on_newest };
        lists =
            subst (λ (x : Stance). ListsBy x (Some (behind k)) s.kept r.landed r.begun (in_hand (RecvHas (recv_wrote_or_lost b))) (UnsentBy newest s.lane.state sh)) (sym after)
            (subst (λ (h : List Message). ListsBy new (Some (behind k)) s.kept r.landed r.begun h (UnsentBy newest s.lane.state sh)) (sym (no_hand b)) record { rest = li.rest; same = li.same; live = li.live; dead = li.dead });
        sure = c.sure;
        upward = subst (λ (us : List Frame). AllTell ss (Tells g l r.landed) us) (same_up k b newest) c.upward;
        fits = subst (λ (us : List Frame). Each Fits us) (same_up k b newest) c.fits;
        notes = same_notes k newest c.notes;
        closed = c.closed;
        asked =
            subst (λ (x : Stance). AskedBy x (Some (behind k)) s.kept r.landed r.begun (in_hand (RecvHas (recv_wrote_or_lost b))) s.past.claims.held) (sym after)
            (subst (λ (h : List Message). AskedBy new (Some (behind k)) s.kept r.landed r.begun h s.past.claims.held) (sym (no_hand b))
            (asked (subst (λ (x : Stance). AskedBy x (Some k) s.kept r.landed r.begun [] s.past.claims.held) before c.asked)));
        finished = c.finished;
        pieces = no_piece b;
        waits = c.waits;
        idle = λ e. subst (λ (us : List Frame). IsIdle s.kept r.landed s.past.claims.held newest ss us) (same_up k b newest) (c.idle e);
        shut = λ e. absurd (loud (sym before ∙ (c.shut e).silent));
        heard_up = c.heard_up;
        heard_down = no_word b;
      }

  -- a move of its phase
  moves_here : (k : Link) (b : Bool) (p q : Phase) → rs (RecvDoes (recv_acts.Write f)) ≡ Talks p → up p f ≡ Some q → recv.phase_written r.lane.ask r.lane.state ≡ Some q → Converses g l s r (at (RecvDoes (recv_acts.Write f)) (Some k)) → Converses g l s r (at (RecvHas (recv_wrote_or_lost b)) (Some (behind k)))
  moves_here k true p q before moves after c =
      written k true (Talks p) (Talks q) before (ap (stand false) after) (says_up (send_there newest ss) p q f k.down.sent k.up.sent moves) (lists_talk p q k s.kept r.landed r.begun (UnsentBy newest s.lane.state sh)) (λ x. x) (λ e. cc) c
  moves_here k false p q before moves after c =
      written k false (Talks p) Silent before refl (λ a. recv_silenced (send_there newest ss) (Talks q) k.down.sent (k.up.sent ++ f ∷ []) (says_up (send_there newest ss) p q f k.down.sent k.up.sent moves a))
      (lists_through (Talks p) Silent (Some k) s.kept r.landed r.begun r.begun [] (UnsentBy newest s.lane.state sh) refl (Keeps refl)) (λ x. tt) (λ e. cc) c

  -- that its end has failed
  fails_here : (k : Link) (b : Bool) → rs (RecvDoes (recv_acts.Write f)) ≡ Aborts → is_abort f ≡ true → rs (RecvHas (recv_wrote_or_lost b)) ≡ Silent → Converses g l s r (at (RecvDoes (recv_acts.Write f)) (Some k)) → Converses g l s r (at (RecvHas (recv_wrote_or_lost b)) (Some (behind k)))
  fails_here k b before fails after c =
      written k b Aborts Silent before after (tells_up (send_there newest ss) f k.down.sent k.up.sent fails)
      (lists_through Aborts Silent (Some k) s.kept r.landed r.begun r.begun [] (UnsentBy newest s.lane.state sh) refl (Keeps refl)) (λ x. tt) (λ e. cc) c

-- ---- the step

-- a state from which something was written
pub writing_in : (lane : RecvLane) (q : Phase) (st : RecvState) → recv.phase_written lane.ask st ≡ Some q → receives_writing st ≡ true
writing_in lane q recv_states.SendLocalCheckpoint e = refl
writing_in lane q recv_states.SendFileChunks e = refl
writing_in lane q recv_states.SendWait e = refl
writing_in lane q recv_states.SendGlobalCheckpoint e = refl
writing_in lane q recv_states.SendDone e = refl
writing_in lane q st e = cc

-- there it doesn't matter whether the lane is acknowledged
pub talks_in : (lane : RecvLane) (idle acked : Bool) (p q : Phase) (st : RecvState) → recv.phase_by lane idle false st ≡ Some p → recv.phase_written lane.ask st ≡ Some q → stand (recv_aborts st) (recv.phase_by lane idle acked st) ≡ Talks p
talks_in lane idle acked p q recv_states.SendLocalCheckpoint e w = ap (stand false) e
talks_in lane idle acked p q recv_states.SendFileChunks e w = ap (stand false) e
talks_in lane idle acked p q recv_states.SendWait e w = ap (stand false) e
talks_in lane idle acked p q recv_states.SendGlobalCheckpoint e w = ap (stand false) e
talks_in lane idle acked p q recv_states.SendDone e w = ap (stand false) e
talks_in lane idle acked p q st e w = cc

wrote_silent : (lane : RecvLane) (idle acked b : Bool) → lane.state ≡ recv_states.SendAbort → recv_stance lane idle acked (RecvHas (recv_wrote_or_lost b)) ≡ Silent
wrote_silent lane idle acked true here = ap (λ (x : RecvState). stand false (recv.phase_written lane.ask x)) here
wrote_silent lane idle acked false here = refl

module _ (w : PlainWorld) (l : ℕ) (c : Conversation w) (within : l < length w.pairs) (f : Frame) (holds : (pair_at w l).recv ≡ RecvDoes (recv_acts.Write f)) (fits : recv.FitsLane (lane_at w.receiver l) (past_at w.receiver l) (recv_acts.Write f)) where
  abbrev p : Pair
  p = pair_at w l

  abbrev Here : Pair → Type 0
  Here = Converses (common w.receiver) l (sending w.sender l) (receiving w.receiver l)

  part : (taken : Option Link) → Here (record p { recv = RecvDoes (recv_acts.Write f); taken = taken }) → Here (recv_writes (record p { recv = RecvDoes (recv_acts.Write f); taken = taken }) f taken)
  part None x = x
  part (Some k) x = go fits where
    b : Bool
    b = not (is_cut k.up) && not (send_left p.newest p.send)

    go : recv.FitsLane (lane_at w.receiver l) (past_at w.receiver l) (recv_acts.Write f) → Here (recv_writes (record p { recv = RecvDoes (recv_acts.Write f); taken = Some k }) f (Some k))
    go (inl e) =
        fails_here (common w.receiver) l (sending w.sender l) (receiving w.receiver l) p.send p.between p.newest p.denies p.refusals f k b
        (ap (λ (y : RecvState). stand (recv_aborts y) (recv.phase_by (lane_at w.receiver l) (past_at w.receiver l).is_idle (past_at w.receiver l).is_acked y)) e.1) e.0
        (wrote_silent (lane_at w.receiver l) (past_at w.receiver l).is_idle (past_at w.receiver l).is_acked b e.1) x
    go (inr e) =
        moves_here (common w.receiver) l (sending w.sender l) (receiving w.receiver l) p.send p.between p.newest p.denies p.refusals f k b e.from e.to
        (talks_in (lane_at w.receiver l) (past_at w.receiver l).is_idle (past_at w.receiver l).is_acked e.from e.to (state_at w.receiver l) e.before e.after) e.moves e.after x

  pub recv_write_keeps : (broken : Option ℕ) → Conversation (recv_steps w l broken)
  recv_write_keeps broken =
      subst (λ (x : RecvHold). Conversation (recv_steps_by w l broken x)) (sym holds)
      (pair_keeps w l (recv_does p (recv_acts.Write f)) c within
      (subst (λ (x : RecvHold). Here (recv_does (record p { recv = x }) (recv_acts.Write f))) (sym holds)
      (part p.taken (subst (λ (x : RecvHold). Here (record p { recv = x })) holds (c.lanes l within)))))
