-- The receiver's lane reads a frame.
use Rattle.std.proofs.Common.{◌≡◌, ℕ, Bool, true, false, ◌||◌, List, [], ◌∷◌, ◌++◌, Option, Some, None, subst, sym, ap, ◌∙◌, refl}
use Rattle.std.proofs.lemmas.Option.{same_Some}
use Rattle.wdt_units.specs.declared.blocks.Header.{Header}
use Rattle.wdt_codec.specs.Frames.{Fits}
use Rattle.wdt_pact.specs.Each.{Each}
use Rattle.wdt_codec.specs.declared.frames.Frame.{Frame}
use Rattle.wdt_sender_fsm.specs.Phases.{Phase, Message, Framed, down, up, is_abort}
use Rattle.wdt_pact.proofs.Below.{one_talker, turned_talker}
use Rattle.wdt_receiver_fsm.specs.declared.acts.RecvAct.TheVariants as recv_acts
use Rattle.wdt_receiver_fsm.specs.declared.inputs.RecvIn.TheVariants as recv_inputs
use Rattle.wdt_receiver_fsm.specs.Phases as recv
use Rattle.wdt_pact.specs.Links.{Link, Way, front_of, front_by, has_room, less}
use Rattle.wdt_pact.specs.Pairs.{SendHold, RecvHold, RecvDoes, RecvHas, Pair, top_by}
use Rattle.wdt_pact.specs.Stances.{Stance, Talks, Agrees, OnLink, is_abort_down, is_any, is_calm, recv_stance, send_stance, send_there, stand}
use Rattle.wdt_pact.specs.Lists.{ListsBy, AskedBy, UnsentBy, Splits-same, flying, has_done}
use Rattle.wdt_pact.specs.Conversation.{Common, Sending, Receiving, Converses, AllTell, IsIdle, IsWord, NotesBy, is_recv_out, Tells, upward_by}
use Rattle.wdt_pact.proofs.Links.{hears_one, turned_on}

-- what can be taken stands at the front
pub front_head : {M : Type 0} (size : M → ℕ) (ms : List M) (room : Option ℕ) (m : M) (rest : Way M) → front_of size ms room ≡ Some (m, rest) → ms ≡ m ∷ rest.sent
front_head {M} size [] room m rest e = cc
front_head {M} size (x ∷ ms) room m rest e = go (has_room room (size x)) e where
  go : (b : Bool) → front_by b x record { sent = ms; room = less room (size x) } ≡ Some (m, rest) → x ∷ ms ≡ m ∷ rest.sent
  go true is = let pair : (x, record { sent = ms; room = less room (size x) }) ≡ (m, rest) = same_Some _ _ is in ap {A = M × Way M} {B = List M} (λ y. y.0 ∷ y.1.sent) pair
  go false is = cc

-- the receiver hears a frame that tells of no failure
pub hears_down_one : (ss : Stance) (q : Phase) (f : Frame) (ds : List Message) (us : List Frame) → is_abort f ≡ false → OnLink ss (Talks q) (Framed f ∷ ds) us → (r : Phase) × (down q (Framed f) ≡ Some r) × OnLink ss (Talks r) ds us
hears_down_one ss q f ds us calm a =
    let b = turned_on down up is_abort_down is_abort is_calm is_any one_talker ss (Talks q) (Framed f ∷ ds) us a in
    let h = hears_one up down is_abort is_abort_down is_any is_calm (turned_talker down up one_talker) q ss us ds (Framed f) b calm in
    (h.0, h.1, turned_on up down is_abort is_abort_down is_any is_calm (turned_talker down up one_talker) (Talks h.0) ss us ds h.2)

module _ (g : Common) (l : ℕ) (s : Sending) (r : Receiving) (sh : SendHold) (between : List Link) (denies refusals : ℕ) where
  abbrev at : RecvHold → Link → Option Link → Pair
  at rh k newest = record { send = sh; recv = rh; taken = Some k; between = between; newest = newest; denies = denies; refusals = refusals }

  pub same_up : (k : Link) (rest : Way Message) (newest : Option Link) (rh rg : RecvHold) → upward_by newest (Some k) sh (RecvDoes recv_acts.Read) ≡ upward_by newest (Some record k { down = rest }) sh (RecvHas recv_inputs.Odd)
  same_up k rest None rh rg = refl
  same_up k rest (Some t) rh rg = refl

  pub same_notes : (k : Link) (rest : Way Message) (newest : Option Link) → NotesBy s.lane.state sh s.past (top_by newest (Some k)) → NotesBy s.lane.state sh s.past (top_by newest (Some record k { down = rest }))
  same_notes k rest None n = n
  same_notes k rest (Some t) n = n

  -- a frame is read: what flew is in hand now
  pub reads_here : (k : Link) (newest : Option Link) (f : Frame) (rest : Way Message) (q : Phase) → is_abort f ≡ false → k.down.sent ≡ Framed f ∷ rest.sent → recv.phase_by r.lane r.past.is_idle r.past.is_acked r.lane.state ≡ Some q → recv.phase_by r.lane r.past.is_idle false r.lane.state ≡ Some q
      → Converses g l s r (at (RecvDoes recv_acts.Read) k newest) → Converses g l s r (at (RecvHas (recv_inputs.Got f)) record k { down = rest } newest)
  reads_here k newest f rest q calm is phase again c =
      let before : recv_stance r.lane r.past.is_idle r.past.is_acked (RecvDoes recv_acts.Read) ≡ Talks q = ap (stand _) phase in
      let on = subst (λ (x : Stance). Agrees (send_stance s.lane s.past.is_acked sh) x (Some k) between newest) before c.agrees in
      let heard = hears_down_one (send_there newest (send_stance s.lane s.past.is_acked sh)) q f rest.sent k.up.sent calm (subst (λ (ds : List Message). OnLink (send_there newest (send_stance s.lane s.past.is_acked sh)) (Talks q) ds k.up.sent) is on.on_taken) in
      let after : recv_stance r.lane r.past.is_idle r.past.is_acked (RecvHas (recv_inputs.Got f)) ≡ Talks heard.0 = ap (λ (o : Option Phase). stand false (recv.phase_heard (Framed f) o)) again ∙ ap (stand false) heard.1 in
      let fly : flying r.begun [] k.down.sent ≡ flying r.begun (Framed f ∷ []) rest.sent = ap (λ (ds : List Message). flying r.begun [] ds) is in
      let li = subst (λ (x : Stance). ListsBy x (Some k) s.kept r.landed r.begun [] (UnsentBy newest s.lane.state sh)) before c.lists in
      let aq = subst (λ (x : Stance). AskedBy x (Some k) s.kept r.landed r.begun [] s.past.claims.held) before c.asked in
      record {
        agrees = subst (λ (x : Stance). Agrees (send_stance s.lane s.past.is_acked sh) x (Some record k { down = rest }) between newest) (sym after) record { on_taken = heard.2; waiting = on.waiting; on_newest = on.on_newest };
        lists = subst (λ (x : Stance). ListsBy x (Some record k { down = rest }) s.kept r.landed r.begun (Framed f ∷ []) (UnsentBy newest s.lane.state sh)) (sym after)
            record { rest = li.rest; same = Splits-same s.kept r.landed (flying r.begun [] k.down.sent ++ li.rest) (flying r.begun (Framed f ∷ []) rest.sent ++ li.rest) li.same (ap (λ (hs : List Header). hs ++ li.rest) fly); live = li.live; dead = λ e. sym fly ∙ li.dead e };
        sure = c.sure;
        upward = subst (λ (us : List Frame). AllTell (send_stance s.lane s.past.is_acked sh) (Tells g l r.landed) us) (same_up k rest newest (RecvDoes recv_acts.Read) (RecvHas recv_inputs.Odd)) c.upward;
        fits = subst (λ (us : List Frame). Each Fits us) (same_up k rest newest (RecvDoes recv_acts.Read) (RecvHas recv_inputs.Odd)) c.fits;
        notes = same_notes k rest newest c.notes;
        closed = c.closed;
        asked = subst (λ (x : Stance). AskedBy x (Some record k { down = rest }) s.kept r.landed r.begun (Framed f ∷ []) s.past.claims.held) (sym after)
            (λ e. let x = aq (ap has_done is ∙ e) in (Splits-same s.kept r.landed (flying r.begun [] k.down.sent) (flying r.begun (Framed f ∷ []) rest.sent) x.0 fly, x.1));
        finished = λ e. let x = c.finished e in record { same = x.same; holds = x.holds };
        pieces = tt;
        waits = c.waits;
        idle = λ e. let x = c.idle e in subst (λ (us : List Frame). IsIdle s.kept r.landed s.past.claims.held newest (send_stance s.lane s.past.is_acked sh) us) (same_up k rest newest (RecvDoes recv_acts.Read) (RecvHas recv_inputs.Odd)) x;
        shut = λ e. let x = (c.shut e).silent in cc (before);
        heard_up = c.heard_up;
        heard_down = subst (λ (o : Option Phase). IsWord (recv.phase_heard (Framed f) o) (is_recv_out r.lane.state || is_abort f)) (sym again) (subst (λ (o : Option Phase). IsWord o (is_recv_out r.lane.state || is_abort f)) (sym heard.1) tt);
      }
