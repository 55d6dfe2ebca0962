-- An act is performed as its pair performs it.
use Rattle.std.proofs.Common.{◌≡◌, nat_lt, Bool, true, false, [], Option, Some, None, subst, sym, ap, ◌∙◌, refl}
use Rattle.wdt_units.specs.declared.numbers.Conn.{Conn}
use Rattle.wdt_sender_fsm.specs.declared.acts.SendAct.{SendAct}
use Rattle.wdt_sender_fsm.specs.declared.acts.SendAct.TheVariants as acts
use Rattle.wdt_receiver_fsm.specs.declared.acts.RecvAct.{RecvAct}
use Rattle.wdt_receiver_fsm.specs.declared.acts.RecvAct.TheVariants as recv_acts
use Rattle.wdt_receiver_fsm.specs.declared.inputs.RecvIn.{RecvIn}
use Rattle.wdt_pact.specs.Pairs.{Pair, RecvDoes, RecvHold, SendDoes, recv_accepts, recv_stops, send_dials, send_stops}
use Rattle.wdt_world.specs.declared.hands.RecvHand.{RecvHand}
use Rattle.wdt_world.specs.declared.hands.SendHand.{SendHand}
use Rattle.wdt_world.specs.Acting.{ActsRecv, ActsSend}
use Rattle.wdt_world.specs.Hands.{accept_hand, dial_hand, recv_held, send_held}
use Rattle.wdt_world.specs.Lines.{LinesView, accepted, accepts, can_dial, dialed, has_waiting}
use Rattle.wdt_world.specs.Pairing.{ShowsLines}
use Rattle.wdt_world.proofs.Lining.{accept_hold, accepting, dial_answer, dials}

-- ---- the sender's lane

-- one that performs another act than Stop hasn't stopped
pub goes_on : (p : Pair) (act : SendAct) → send_stops (SendDoes act) ≡ false → p.send ≡ SendDoes act → send_stops p.send ≡ false
goes_on p act goes is = ap send_stops is ∙ goes

dial_held : (works : Bool) → send_held (dial_hand works) ≡ dial_answer works
dial_held true = refl
dial_held false = refl

pub acts_dial : (Fails : Type 0) (v new : LinesView) (p : Pair) (conn : Conn) (has_stopped works : Bool) (hand : SendHand) → p.send ≡ SendDoes (acts.Dial conn) → has_stopped ≡ recv_stops p.recv → ShowsLines v p
    → works ≡ can_dial v.denies has_stopped → new ≡ dialed has_stopped v → hand ≡ dial_hand works → ActsSend Fails p (acts.Dial conn) hand new
acts_dial Fails v new p conn has_stopped works hand does same shows answer now is =
    let d = dials v p has_stopped (goes_on p (acts.Dial conn) refl does) same shows in
    record {
      lost = None;
      cause = λ none. absurd (none refl);
      held = ap send_held is ∙ (dial_held works ∙ (ap dial_answer answer ∙ (sym d.told ∙ ap (λ (b : Bool). (send_dials p p.denies b).send) same)));
      shows = subst (λ (w : LinesView). ShowsLines w (send_dials p p.denies (recv_stops p.recv))) (sym now) (subst (λ (b : Bool). ShowsLines (dialed has_stopped v) (send_dials p p.denies b)) same d.shows);
    }

-- ---- the receiver's lane

pub stays_on : (p : Pair) (act : RecvAct) → recv_stops (RecvDoes act) ≡ false → p.recv ≡ RecvDoes act → recv_stops p.recv ≡ false
stays_on p act goes is = ap recv_stops is ∙ goes

accept_held : (old : RecvHold) (answer : Option RecvIn) → old ≡ RecvDoes recv_acts.Accept → recv_held (accept_hand answer) ≡ accept_hold old answer
accept_held old None is = sym is
accept_held old (Some input) is = refl

pub acts_accept : (v new : LinesView) (p : Pair) (has_stopped : Bool) (answer : Option RecvIn) (hand : RecvHand) → p.recv ≡ RecvDoes recv_acts.Accept → has_stopped ≡ send_stops p.send → (p.newest ≡ None → p.between ≡ [])
    → ShowsLines v p → answer ≡ accepts (nat_lt 0 v.refusals) (has_waiting v.between v.newest) has_stopped → new ≡ accepted v → hand ≡ accept_hand answer → ActsRecv p recv_acts.Accept hand new
acts_accept v new p has_stopped answer hand does same order shows told now is =
    let a = accepting v p has_stopped same (stays_on p recv_acts.Accept refl does) order shows in
    record {
      held = ap recv_held is ∙ (accept_held p.recv answer does ∙ (ap (accept_hold p.recv) told ∙ sym a.told));
      shows = subst (λ (w : LinesView). ShowsLines w (recv_accepts p p.refusals)) (sym now) a.shows;
    }
