-- The receiver's lane takes a piece of a block, or its connection is lost in the midst.
use Rattle.std.proofs.Common.{◌≡◌, ℕ, ◌-◌, ◌==◌, ◌<◌, ◌||◌, min, Bool, true, false, if◌then◌else◌, List, [], ◌∷◌, ◌++◌, length, Option, Some, None, subst, sym, ap, ◌∙◌, refl, eqb-true}
use Rattle.wdt_units.specs.declared.blocks.Header.{Header}
use Rattle.wdt_codec.specs.Frames.{Fits}
use Rattle.wdt_codec.specs.declared.frames.Frame.{Frame}
use Rattle.wdt_sender_fsm.specs.Phases.{Phase, Mid, Message, Framed, Piece, down, up, is_abort, piece_from, piece_most, with_left}
use Rattle.wdt_receiver_fsm.specs.declared.acts.RecvAct.TheVariants as recv_acts
use Rattle.wdt_receiver_fsm.specs.declared.inputs.RecvIn.TheVariants as recv_inputs
use Rattle.wdt_receiver_fsm.specs.declared.states.RecvLane.{RecvLane}
use Rattle.wdt_receiver_fsm.specs.declared.states.RecvState.{RecvState}
use Rattle.wdt_receiver_fsm.specs.declared.states.RecvState.TheVariants as recv_states
use Rattle.wdt_receiver_fsm.specs.PlainReceiver.{lane_at, past_at, state_at}
use Rattle.wdt_receiver_fsm.specs.ReceiverHistory.{RecvPast}
use Rattle.wdt_pact.specs.Each.{Each}
use Rattle.wdt_pact.specs.Links.{Link, Way, front, is_cut, size_down}
use Rattle.wdt_pact.specs.Pairs.{SendHold, RecvHold, RecvDoes, RecvHas, RecvTook, Pair, recv_does, recv_takes, recv_takes_by, send_left}
use Rattle.wdt_pact.specs.World.{PlainWorld, pair_at, recv_steps, recv_steps_by}
use Rattle.wdt_pact.specs.Stances.{Stance, Talks, Agrees, OnLink, is_abort_down, is_any, is_calm, send_stance, send_there, stand}
use Rattle.wdt_pact.specs.Lists.{AskedBy, ListsBy, Splits-same, UnsentBy, flying, has_done}
use Rattle.wdt_pact.specs.Conversation.{AllTell, Common, Conversation, Converses, IsIdle, IsWord, Receiving, Sending, Tells, common, receiving, sending, upward_by}
use Rattle.wdt_pact.proofs.Below.{if_has, one_talker, turned_talker}
use Rattle.wdt_pact.proofs.Frame.{pair_keeps}
use Rattle.wdt_pact.proofs.Links.{hears_one, turned_on}
use Rattle.wdt_pact.proofs.Reading.{front_head, same_notes}
use Rattle.wdt_pact.proofs.RecvHearing.{falls_here, recv_silenced}
use Rattle.wdt_pact.proofs.RecvRows.{recv_row_at, recv_stands_in}

-- the receiver hears a piece
hears_piece : (ss : Stance) (q : Phase) (n : ℕ) (ds : List Message) (us : List Frame) → OnLink ss (Talks q) (Piece n ∷ ds) us → (r : Phase) × (down q (Piece n) ≡ Some r) × OnLink ss (Talks r) ds us
hears_piece ss q n ds us a =
    let b = turned_on down up is_abort_down is_abort is_calm is_any one_talker ss (Talks q) (Piece n ∷ ds) us a in
    let h = hears_one up down is_abort is_abort_down is_any is_calm (turned_talker down up one_talker) q ss us ds (Piece n) b refl in
    (h.0, h.1, turned_on up down is_abort is_abort_down is_any is_calm (turned_talker down up one_talker) (Talks h.0) ss us ds h.2)

-- it is the next one
next_piece : (left n : ℕ) (q : Phase) → piece_from left n ≡ Some q → n ≡ min left piece_most
next_piece left n q e = go (n == min left piece_most) refl e where
  go : (b : Bool) → (n == min left piece_most) ≡ b → (if b then Some (with_left (left - n)) else None) ≡ Some q → n ≡ min left piece_most
  go true is x = eqb-true n (min left piece_most) is
  go false is x = cc

module _ (g : Common) (l : ℕ) (s : Sending) (lane : RecvLane) (past : RecvPast) (landed : List Header) (begun : Option Header) (sh : SendHold) (between : List Link) (denies refusals : ℕ) (wanted : ℕ) where
  abbrev taking : Receiving
  taking = record { lane = record lane { state = recv_states.TakeBlock }; past = past; landed = landed; begun = begun }

  abbrev pair : RecvHold → Option Link → Option Link → Pair
  pair rh taken newest = record { send = sh; recv = rh; taken = taken; between = between; newest = newest; denies = denies; refusals = refusals }

  abbrev Here : Pair → Type 0
  Here = Converses g l s taking

  abbrev ss : Stance
  ss = send_stance s.lane s.past.is_acked sh

  same : (k : Link) (rest : Way Message) (n : ℕ) (newest : Option Link) → upward_by newest (Some k) sh (RecvDoes (recv_acts.TakePiece wanted)) ≡ upward_by newest (Some record k { down = rest }) sh (RecvTook n)
  same k rest n None = refl
  same k rest n (Some t) = refl

  -- a piece is taken: what flew flies
  takes_here : (k : Link) (newest : Option Link) (n : ℕ) (rest : Way Message) → k.down.sent ≡ Piece n ∷ rest.sent → Here (pair (RecvDoes (recv_acts.TakePiece wanted)) (Some k) newest) → Here (pair (RecvTook n) (Some record k { down = rest }) newest)
  takes_here k newest n rest is c =
      let heard = hears_piece (send_there newest ss) (Mid lane.left) n rest.sent k.up.sent (subst (λ (ds : List Message). OnLink (send_there newest ss) (Talks (Mid lane.left)) ds k.up.sent) is c.agrees.on_taken) in
      let after : stand false (piece_from lane.left n) ≡ Talks heard.0 = ap (stand false) heard.1 in
      let fly : flying begun [] k.down.sent ≡ flying begun [] rest.sent = ap (λ (ds : List Message). flying begun [] ds) is in
      record {
        agrees = subst (λ (x : Stance). Agrees ss x (Some record k { down = rest }) between newest) (sym after) record { on_taken = heard.2; waiting = c.agrees.waiting; on_newest = c.agrees.on_newest };
        lists = subst (λ (x : Stance). ListsBy x (Some record k { down = rest }) s.kept landed begun [] (UnsentBy newest s.lane.state sh)) (sym after)
            record { rest = c.lists.rest; same = Splits-same s.kept landed (flying begun [] k.down.sent ++ c.lists.rest) (flying begun [] rest.sent ++ c.lists.rest) c.lists.same (ap (λ (hs : List Header). hs ++ c.lists.rest) fly); live = c.lists.live; dead = λ e. sym fly ∙ c.lists.dead e };
        sure = c.sure;
        upward = subst (λ (us : List Frame). AllTell ss (Tells g l landed) us) (same k rest n newest) c.upward;
        fits = subst (λ (us : List Frame). Each Fits us) (same k rest n newest) c.fits;
        notes = same_notes g l s taking sh between denies refusals k rest newest c.notes;
        closed = c.closed;
        asked = subst (λ (x : Stance). AskedBy x (Some record k { down = rest }) s.kept landed begun [] s.past.claims.held) (sym after)
            (λ e. let x = c.asked (ap has_done is ∙ e) in (Splits-same s.kept landed (flying begun [] k.down.sent) (flying begun [] rest.sent) x.0 fly, x.1));
        finished = c.finished;
        pieces = next_piece lane.left n heard.0 heard.1;
        waits = c.waits;
        idle = λ e. subst (λ (us : List Frame). IsIdle s.kept landed s.past.claims.held newest ss us) (same k rest n newest) (c.idle e);
        shut = λ e. let x = (c.shut e).silent in cc;
        heard_up = c.heard_up;
        heard_down = subst (λ (o : Option Phase). IsWord o false) (sym heard.1) tt;
      }

  lost_here : (k : Link) (newest : Option Link) → Here (pair (RecvDoes (recv_acts.TakePiece wanted)) (Some k) newest) → Here (pair (RecvHas recv_inputs.Lost) (Some k) newest)
  lost_here k newest c =
      falls_here g l s taking sh between denies refusals k newest (recv_acts.TakePiece wanted) (RecvHas recv_inputs.Lost) k.down refl refl refl tt tt
      (λ a. recv_silenced (send_there newest ss) (Talks (Mid lane.left)) k.down.sent k.up.sent a) c

  front_here : (k : Link) (newest : Option Link) (o : Option (Message × Way Message)) → front size_down k.down ≡ o → Here (pair (RecvDoes (recv_acts.TakePiece wanted)) (Some k) newest) → Here (recv_takes_by (pair (RecvDoes (recv_acts.TakePiece wanted)) (Some k) newest) k o)
  front_here k newest (Some (Piece n, rest)) e c = takes_here k newest n rest (front_head size_down k.down.sent k.down.room (Piece n) rest e) c
  front_here k newest (Some (Framed f, rest)) e c = c
  front_here k newest None e c = if_has Here (is_cut k.down || send_left newest sh) (pair (RecvHas recv_inputs.Lost) (Some k) newest) (pair (RecvDoes (recv_acts.TakePiece wanted)) (Some k) newest) (lost_here k newest c) c

  pub recv_takes_here : (taken newest : Option Link) → Here (pair (RecvDoes (recv_acts.TakePiece wanted)) taken newest) → Here (recv_takes (pair (RecvDoes (recv_acts.TakePiece wanted)) taken newest) taken)
  recv_takes_here None newest c = c
  recv_takes_here (Some k) newest c = front_here k newest (front size_down k.down) refl c

pub recv_take_keeps : (w : PlainWorld) (l wanted : ℕ) (broken : Option ℕ) → Conversation w → l < length w.pairs → state_at w.receiver l ≡ recv_states.TakeBlock → (pair_at w l).recv ≡ RecvDoes (recv_acts.TakePiece wanted) → Conversation (recv_steps w l broken)
recv_take_keeps w l wanted broken c within here holds =
    let p : Pair = pair_at w l in
    subst (λ (x : RecvHold). Conversation (recv_steps_by w l broken x)) (sym holds)
    (pair_keeps w l (recv_does p (recv_acts.TakePiece wanted)) c within
    (subst (λ (x : RecvState). Converses (common w.receiver) l (sending w.sender l) (recv_stands_in w.receiver l x) (recv_does p (recv_acts.TakePiece wanted))) (sym here)
    (subst (λ (x : RecvHold). Converses (common w.receiver) l (sending w.sender l) (recv_stands_in w.receiver l recv_states.TakeBlock) (recv_does (record p { recv = x }) (recv_acts.TakePiece wanted))) (sym holds)
    (recv_takes_here (common w.receiver) l (sending w.sender l) (lane_at w.receiver l) (past_at w.receiver l) (receiving w.receiver l).landed (receiving w.receiver l).begun p.send p.between p.denies p.refusals wanted p.taken p.newest
    (recv_row_at w l recv_states.TakeBlock (RecvDoes (recv_acts.TakePiece wanted)) c within here holds)))))
