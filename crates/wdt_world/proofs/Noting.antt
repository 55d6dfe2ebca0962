-- What is noted on a connection shows nowhere; and a lane that handed something in.
use Rattle.std.proofs.Common.{◌≡◌, Bool, true, false, Option, Some, None, option_map, subst, sym, ap, ◌∙◌, refl}
use Rattle.wdt_sender_fsm.specs.declared.acts.SendAct.{SendAct}
use Rattle.wdt_sender_fsm.specs.declared.acts.SendAct.TheVariants as acts
use Rattle.wdt_sender_fsm.specs.declared.inputs.SendIn.{SendIn}
use Rattle.wdt_sender_fsm.specs.declared.inputs.SendIn.TheVariants as inputs
use Rattle.wdt_sender_fsm.specs.Stops.{is_stop}
use Rattle.wdt_receiver_fsm.specs.declared.acts.RecvAct.{RecvAct}
use Rattle.wdt_receiver_fsm.specs.declared.acts.RecvAct.TheVariants as recv_acts
use Rattle.wdt_receiver_fsm.specs.Stops.{is_stop as is_last}
use Rattle.wdt_wire.specs.Wires.{PlainWire}
use Rattle.wdt_pact.specs.Links.{Link, note_greeted}
use Rattle.wdt_pact.specs.Pairs.{Pair, RecvDoes, recv_gets, SendDoes, SendHas, SendHold, noted_below, recv_stops, send_left, send_stops, send_takes}
use Rattle.wdt_world.specs.Lines.{LinesView, all_left_up, left_down, on_top}
use Rattle.wdt_world.specs.Pairing.{ShowsLines}
use Rattle.wdt_world.specs.Shown.{ShowsBy}
use Rattle.wdt_world.proofs.Lining.{leaving_down, leaving_up, rehold}

-- ---- notes

noted_shows : (g s r : Bool) (wire : Option PlainWire) (link : Option Link) → ShowsBy s r wire link → ShowsBy s r wire (option_map (note_greeted g) link)
noted_shows g s r None None shows = tt
noted_shows g s r None (Some k) shows = absurd shows
noted_shows g s r (Some w) None shows = absurd shows
noted_shows g s r (Some w) (Some k) shows = record { sender = shows.sender; receiver = shows.receiver; down = shows.down; up = shows.up }

-- the newest that waits is there as before
noted_left : (g : Bool) (newest : Option Link) (held : SendHold) → send_left newest held ≡ send_left (option_map (note_greeted g) newest) held
noted_left g None held = refl
noted_left g (Some t) held = refl

noted_below_shows : (g s r : Bool) (newest : Option Link) (wire : Option PlainWire) (taken : Option Link) → ShowsBy s r wire taken → ShowsBy s r wire (noted_below newest g taken)
noted_below_shows g s r None wire taken shows = noted_shows g s r wire taken shows
noted_below_shows g s r (Some t) wire taken shows = shows

-- the lane holds the act, whatever it handed in
takes_shows : (v : LinesView) (p : Pair) (input : SendIn) (g : Bool) (act : SendAct) → ShowsLines v record p { send = SendDoes act } → ShowsLines v (send_takes p input g act)
takes_shows v p (inputs.Got frame) g act shows =
    record {
      taken = noted_below_shows g (send_left (option_map (note_greeted g) p.newest) (SendDoes act)) (recv_stops p.recv) p.newest v.taken p.taken
          (subst (λ (b : Bool). ShowsBy b (recv_stops p.recv) v.taken p.taken) (noted_left g p.newest (SendDoes act)) shows.taken);
      between = shows.between;
      newest = noted_shows g (send_stops (SendDoes act)) (recv_stops p.recv) v.newest p.newest shows.newest;
      denies = shows.denies;
      refusals = shows.refusals;
    }
takes_shows v p inputs.Start g act shows = shows
takes_shows v p inputs.Linked g act shows = shows
takes_shows v p inputs.NoLink g act shows = shows
takes_shows v p inputs.Wrote g act shows = shows
takes_shows v p inputs.Lost g act shows = shows
takes_shows v p (inputs.Bad at) g act shows = shows
takes_shows v p (inputs.SourceLost unwritten) g act shows = shows
takes_shows v p inputs.Starved g act shows = shows

-- ---- the lane goes on, or leaves its connection

stop_is : (act : SendAct) → is_stop act ≡ true → act ≡ acts.Stop
stop_is acts.Stop is = refl
stop_is (acts.Dial conn) is = absurd (no_stop is) where
  no_stop : false ≡ true → ⊥
  no_stop e = cc
stop_is (acts.Write frame) is = absurd (no_stop is) where
  no_stop : false ≡ true → ⊥
  no_stop e = cc
stop_is (acts.SendBlock header) is = absurd (no_stop is) where
  no_stop : false ≡ true → ⊥
  no_stop e = cc
stop_is acts.Read is = absurd (no_stop is) where
  no_stop : false ≡ true → ⊥
  no_stop e = cc

goes_is : (act : SendAct) → is_stop act ≡ false → send_stops (SendDoes act) ≡ false
goes_is acts.Stop is = absurd (no_stop is) where
  no_stop : true ≡ false → ⊥
  no_stop e = cc
goes_is (acts.Dial conn) is = refl
goes_is (acts.Write frame) is = refl
goes_is (acts.SendBlock header) is = refl
goes_is acts.Read is = refl

-- the lane has stopped, and left its connection
pub turned_stop : (v w : LinesView) (p : Pair) (input : SendIn) (act : SendAct) → is_stop act ≡ true → ShowsLines v p → w ≡ on_top left_down v → (g : Bool) → ShowsLines w (send_takes p input g act)
turned_stop v w p input act stops shows is g =
    subst (λ (a : SendAct). ShowsLines w (send_takes p input g a)) (sym (stop_is act stops))
    (takes_shows w p input g acts.Stop (subst (λ (u : LinesView). ShowsLines u record p { send = SendDoes acts.Stop }) (sym is) (leaving_down v p shows)))

-- the lane goes on
pub turned_on : (v : LinesView) (p : Pair) (input : SendIn) (act : SendAct) → is_stop act ≡ false → p.send ≡ SendHas input → ShowsLines v p → (g : Bool) → ShowsLines v (send_takes p input g act)
turned_on v p input act goes has shows g =
    takes_shows v p input g act (rehold v p (SendDoes act) p.recv (ap send_stops has ∙ sym (goes_is act goes)) refl shows)

-- ---- the receiver's lane

last_is : (act : RecvAct) → is_last act ≡ true → act ≡ recv_acts.Stop
last_is recv_acts.Stop is = refl
last_is recv_acts.Accept is = absurd (no_stop is) where
  no_stop : false ≡ true → ⊥
  no_stop e = cc
last_is (recv_acts.Write frame) is = absurd (no_stop is) where
  no_stop : false ≡ true → ⊥
  no_stop e = cc
last_is recv_acts.Read is = absurd (no_stop is) where
  no_stop : false ≡ true → ⊥
  no_stop e = cc
last_is (recv_acts.TakePiece n) is = absurd (no_stop is) where
  no_stop : false ≡ true → ⊥
  no_stop e = cc
last_is recv_acts.Park is = absurd (no_stop is) where
  no_stop : false ≡ true → ⊥
  no_stop e = cc

stays_is : (act : RecvAct) → is_last act ≡ false → recv_stops (RecvDoes act) ≡ false
stays_is recv_acts.Stop is = absurd (no_stop is) where
  no_stop : true ≡ false → ⊥
  no_stop e = cc
stays_is recv_acts.Accept is = refl
stays_is (recv_acts.Write frame) is = refl
stays_is recv_acts.Read is = refl
stays_is (recv_acts.TakePiece n) is = refl
stays_is recv_acts.Park is = refl

-- the lane has stopped, and left its connections
pub gets_stop : (v w : LinesView) (p : Pair) (act : RecvAct) → is_last act ≡ true → ShowsLines v p → w ≡ all_left_up v → ShowsLines w (recv_gets p act)
gets_stop v w p act stops shows is =
    subst (λ (a : RecvAct). ShowsLines w (recv_gets p a)) (sym (last_is act stops)) (subst (λ (u : LinesView). ShowsLines u record p { recv = RecvDoes recv_acts.Stop }) (sym is) (leaving_up v p shows))

-- the lane goes on
pub gets_on : (v : LinesView) (p : Pair) (act : RecvAct) → is_last act ≡ false → recv_stops p.recv ≡ false → ShowsLines v p → ShowsLines v (recv_gets p act)
gets_on v p act goes here shows = rehold v p p.send (RecvDoes act) refl (here ∙ sym (stays_is act goes)) shows
