-- The connections of a lane show those of a pair behind each call.
use Rattle.std.proofs.Common.{◌≡◌, ℕ, zero, suc, ◌-◌, nat_lt, Bool, true, false, not, ◌||◌, List, [], ◌∷◌, ◌++◌, map, Option, Some, None, option_map, subst, sym, ap, ◌∙◌, refl, arith, if◌then◌else◌}
use Rattle.std.proofs.lemmas.Bool.{lt-ltb}
use Rattle.wdt_sender_fsm.specs.declared.acts.SendAct.TheVariants as acts
use Rattle.wdt_sender_fsm.specs.declared.inputs.SendIn.TheVariants as inputs
use Rattle.wdt_receiver_fsm.specs.declared.acts.RecvAct.TheVariants as recv_acts
use Rattle.wdt_receiver_fsm.specs.declared.inputs.RecvIn.{RecvIn}
use Rattle.wdt_receiver_fsm.specs.declared.inputs.RecvIn.TheVariants as recv_inputs
use Rattle.wdt_wire.specs.Wires.{PlainWire, cut_wire, new_wire}
use Rattle.wdt_pact.specs.Links.{Link, cut_link, new_link}
use Rattle.wdt_pact.specs.Pairs.{Pair, RecvDoes, RecvHas, RecvHold, SendDoes, SendHas, SendHold, cuts_by, recv_accepts, recv_accepts_by, recv_stops, send_dials, send_left, send_stops, top, waits, with_top}
use Rattle.wdt_pact.specs.Pairs as pairs
use Rattle.wdt_world.specs.Lines.{LinesView, accepted, accepts, all_left_up, can_dial, dialed, has_waiting, left_down, left_up, made, on_top, taken_by, taken_next, top_by, top_wire, waiting}
use Rattle.wdt_world.specs.Pairing.{ShowsLines}
use Rattle.wdt_world.specs.Shown.{ShowsAll, ShowsBy, ShowsLink}
use Rattle.wdt_world.proofs.Showing.{begins, cuts, receiver_leaves, sender_leaves}

-- ---- what is held

-- whether the sender has left the taken connection depends on whether its lane stopped alone
left_same : (newest : Option Link) (old new : SendHold) → send_stops old ≡ send_stops new → send_left newest old ≡ send_left newest new
left_same None old new same = same
left_same (Some t) old new same = refl

-- a lane holds something else, and has stopped as before
pub rehold : (v : LinesView) (p : Pair) (send : SendHold) (recv : RecvHold) → send_stops p.send ≡ send_stops send → recv_stops p.recv ≡ recv_stops recv → ShowsLines v p → ShowsLines v record p { send = send; recv = recv }
rehold v p send recv s r shows =
    record {
      taken = subst (λ (b : Bool). ShowsBy (send_left p.newest send) b v.taken p.taken) r (subst (λ (b : Bool). ShowsBy b (recv_stops p.recv) v.taken p.taken) (left_same p.newest p.send send s) shows.taken);
      between = subst (λ (b : Bool). ShowsAll true b v.between p.between) r shows.between;
      newest = subst (λ (b : Bool). ShowsBy (send_stops send) b v.newest p.newest) r (subst (λ (b : Bool). ShowsBy b (recv_stops p.recv) v.newest p.newest) s shows.newest);
      denies = shows.denies;
      refusals = shows.refusals;
    }

-- ---- one of them becomes so

-- a connection that becomes so in bytes and by messages
abbrev pub Keeps : (PlainWire → PlainWire) → (Link → Link) → Type 0
Keeps f g = (s r : Bool) (wire : PlainWire) (link : Link) → ShowsLink s r wire link → ShowsLink s r (f wire) (g link)

by_keeps : (f : PlainWire → PlainWire) (g : Link → Link) → Keeps f g → (s r : Bool) (wire : Option PlainWire) (link : Option Link) → ShowsBy s r wire link → ShowsBy s r (option_map f wire) (option_map g link)
by_keeps f g keeps s r None None shows = tt
by_keeps f g keeps s r None (Some link) shows = absurd shows
by_keeps f g keeps s r (Some wire) None shows = absurd shows
by_keeps f g keeps s r (Some wire) (Some link) shows = keeps s r wire link shows

-- the sender's connection of a lane becomes so, where there is one
abbrev pub top_on : (Link → Link) → Pair → Option Link → Pair
top_on g p None = p
top_on g p (Some k) = with_top p (g k)

on_top_taken : (f : PlainWire → PlainWire) (g : Link → Link) → Keeps f g → (s r : Bool) (taken newest : Option PlainWire) (p : Pair) (ptaken pnewest : Option Link) (k : Link)
    → (b : Bool) → ShowsBy b r newest pnewest → ShowsBy s r taken ptaken → pairs.top_by pnewest ptaken ≡ Some k → ShowsBy s r (taken_by f newest taken) (pairs.put_taken pnewest ptaken (g k))
on_top_taken f g keeps s r None None p None None k b new old is = absurd (no_some is) where
  no_some : None ≡ Some k → ⊥
  no_some e = cc
on_top_taken f g keeps s r None None p (Some t) None k b new old is = absurd old
on_top_taken f g keeps s r (Some w) None p None None k b new old is = absurd old
on_top_taken f g keeps s r (Some w) None p (Some t) None k b new old is = subst (λ (j : Link). ShowsLink s r (f w) (g j)) (same is) (keeps s r w t old) where
  same : Some t ≡ Some k → t ≡ k
  same e = cc
on_top_taken f g keeps s r taken (Some w) p ptaken (Some t) k b new old is = old
on_top_taken f g keeps s r taken (Some w) p ptaken None k b new old is = absurd new
on_top_taken f g keeps s r taken None p ptaken (Some t) k b new old is = absurd new

on_top_newest : (f : PlainWire → PlainWire) (g : Link → Link) → Keeps f g → (s r : Bool) (newest : Option PlainWire) (ptaken pnewest : Option Link) (k : Link)
    → ShowsBy s r newest pnewest → pairs.top_by pnewest ptaken ≡ Some k → ShowsBy s r (option_map f newest) (pairs.put_newest pnewest (g k))
on_top_newest f g keeps s r None ptaken None k new is = tt
on_top_newest f g keeps s r None ptaken (Some t) k new is = absurd new
on_top_newest f g keeps s r (Some w) ptaken None k new is = absurd new
on_top_newest f g keeps s r (Some w) ptaken (Some t) k new is = subst (λ (j : Link). ShowsLink s r (f w) (g j)) (same is) (keeps s r w t new) where
  same : Some t ≡ Some k → t ≡ k
  same e = cc

-- whether a newest waits is as before
pub put_left : (pnewest : Option Link) (k : Link) (held : SendHold) → send_left pnewest held ≡ send_left (pairs.put_newest pnewest k) held
put_left None k held = refl
put_left (Some t) k held = refl

-- the sender's connection becomes so
pub top_shows : (f : PlainWire → PlainWire) (g : Link → Link) → Keeps f g → (v : LinesView) (p : Pair) (k : Link) → top p ≡ Some k → ShowsLines v p → ShowsLines (on_top f v) (with_top p (g k))
top_shows f g keeps v p k is shows =
    record {
      taken = subst (λ (b : Bool). ShowsBy b (recv_stops p.recv) (taken_by f v.newest v.taken) (pairs.put_taken p.newest p.taken (g k))) (put_left p.newest (g k) p.send)
          (on_top_taken f g keeps (send_left p.newest p.send) (recv_stops p.recv) v.taken v.newest p p.taken p.newest k (send_stops p.send) shows.newest shows.taken is);
      between = shows.between;
      newest = on_top_newest f g keeps (send_stops p.send) (recv_stops p.recv) v.newest p.taken p.newest k shows.newest is;
      denies = shows.denies;
      refusals = shows.refusals;
    }

-- where there is none in bytes there is none by messages
pub top_none : (v : LinesView) (p : Pair) → ShowsLines v p → top p ≡ None → top_wire v ≡ None
top_none v p shows is = none (send_left p.newest p.send) (send_stops p.send) (recv_stops p.recv) v.taken v.newest p.taken p.newest shows.taken shows.newest is where
  none : (a b r : Bool) (taken newest : Option PlainWire) (ptaken pnewest : Option Link) → ShowsBy a r taken ptaken → ShowsBy b r newest pnewest → pairs.top_by pnewest ptaken ≡ None → top_by newest taken ≡ None
  none a b r None None ptaken pnewest old new is = refl
  none a b r (Some w) None None None old new is = absurd old
  none a b r (Some w) None (Some t) None old new is = absurd (no_some is) where
    no_some : Some t ≡ None → ⊥
    no_some e = cc
  none a b r taken None ptaken (Some t) old new is = absurd new
  none a b r taken (Some w) ptaken None old new is = absurd new
  none a b r taken (Some w) ptaken (Some t) old new is = absurd (no_some is) where
    no_some : Some t ≡ None → ⊥
    no_some e = cc

-- ---- a connection is made

all_append : (s r : Bool) (xs ys : List PlainWire) (ks js : List Link) → ShowsAll s r xs ks → ShowsAll s r ys js → ShowsAll s r (xs ++ ys) (ks ++ js)
all_append s r [] ys [] js a b = b
all_append s r [] ys (k ∷ ks) js a b = absurd a
all_append s r (x ∷ xs) ys [] js a b = absurd a
all_append s r (x ∷ xs) ys (k ∷ ks) js a b = (a.0, all_append s r xs ys ks js a.1 b)

-- the newest that waited waits among the others, left by the sender
waiting_shows : (s r : Bool) (newest : Option PlainWire) (pnewest : Option Link) → ShowsBy s r newest pnewest → ShowsAll true r (waiting newest) (waits pnewest)
waiting_shows s r None None shows = tt
waiting_shows s r None (Some t) shows = absurd shows
waiting_shows s r (Some w) None shows = absurd shows
waiting_shows s r (Some w) (Some t) shows = (sender_leaves s r w t shows, tt)

-- the sender has left the taken one then
made_taken : (held : SendHold) (b r : Bool) (newest taken : Option PlainWire) (pnewest ptaken : Option Link) → ShowsBy b r newest pnewest → ShowsBy (send_left pnewest held) r taken ptaken → ShowsBy true r (taken_by left_down newest taken) ptaken
made_taken held b r None None None None new old = tt
made_taken held b r None None None (Some k) new old = absurd old
made_taken held b r None (Some w) None None new old = absurd old
made_taken held b r None (Some w) None (Some k) new old = sender_leaves (send_stops held) r w k old
made_taken held b r None taken (Some t) ptaken new old = absurd new
made_taken held b r (Some w) taken None ptaken new old = absurd new
made_taken held b r (Some w) taken (Some t) ptaken new old = old

pub made_shows : (v : LinesView) (p : Pair) → recv_stops p.recv ≡ false → ShowsLines v p
    → ShowsLines (made v) record p { send = SendHas inputs.Linked; between = p.between ++ waits p.newest; newest = Some new_link }
made_shows v p there shows =
    record {
      taken = made_taken p.send (send_stops p.send) (recv_stops p.recv) v.newest v.taken p.newest p.taken shows.newest shows.taken;
      between = all_append true (recv_stops p.recv) v.between (waiting v.newest) p.between (waits p.newest) shows.between (waiting_shows (send_stops p.send) (recv_stops p.recv) v.newest p.newest shows.newest);
      newest = subst (λ (b : Bool). ShowsLink false b new_wire new_link) (sym there) begins;
      denies = shows.denies;
      refusals = shows.refusals;
    }

-- what a lane is told of its try
abbrev pub dial_answer : Bool → SendHold
dial_answer true = SendHas inputs.Linked
dial_answer false = SendHas inputs.NoLink

none_below : (n : ℕ) → n ≡ 0 → nat_lt 0 n ≡ false
none_below n is = ap (nat_lt 0) is

-- a try to make a connection, by how many are to fail
pub record Dialed (v : LinesView) (p : Pair) (denies : ℕ) (has_stopped : Bool) : Type 0 where
  pub told : (send_dials p denies has_stopped).send ≡ dial_answer (can_dial v.denies has_stopped)
  pub shows : ShowsLines (dialed has_stopped v) (send_dials p denies has_stopped)

dials_by : (v : LinesView) (p : Pair) (denies : ℕ) (has_stopped : Bool) → p.denies ≡ denies → send_stops p.send ≡ false → has_stopped ≡ recv_stops p.recv → ShowsLines v p → Dialed v p denies has_stopped
dials_by v p (suc n) has_stopped is here same shows =
    let some : nat_lt 0 v.denies ≡ true = lt-ltb 0 v.denies (omega (arith, shows.denies, is)) in
    let less : v.denies - 1 ≡ n = omega (arith, shows.denies, is) in
    record {
      told = ap (λ (b : Bool). dial_answer (not (b || has_stopped))) (sym some);
      shows = subst (λ (b : Bool). ShowsLines (if b then record v { denies = v.denies - 1 } else (if has_stopped then v else made v)) record p { send = SendHas inputs.NoLink; denies = n }) (sym some)
          (let held = rehold v p (SendHas inputs.NoLink) p.recv here refl shows in
          record { taken = held.taken; between = held.between; newest = held.newest; denies = less; refusals = held.refusals });
    }
dials_by v p zero true is here same shows =
    let none : nat_lt 0 v.denies ≡ false = none_below v.denies (shows.denies ∙ is) in
    record {
      told = ap (λ (b : Bool). dial_answer (not (b || true))) (sym none);
      shows = subst (λ (b : Bool). ShowsLines (if b then record v { denies = v.denies - 1 } else v) record p { send = SendHas inputs.NoLink }) (sym none) (rehold v p (SendHas inputs.NoLink) p.recv here refl shows);
    }
dials_by v p zero false is here same shows =
    let none : nat_lt 0 v.denies ≡ false = none_below v.denies (shows.denies ∙ is) in
    record {
      told = ap (λ (b : Bool). dial_answer (not (b || false))) (sym none);
      shows = subst (λ (b : Bool). ShowsLines (if b then record v { denies = v.denies - 1 } else made v) record p { send = SendHas inputs.Linked; between = p.between ++ waits p.newest; newest = Some new_link }) (sym none)
          (made_shows v p (sym same) shows);
    }

pub dials : (v : LinesView) (p : Pair) (has_stopped : Bool) → send_stops p.send ≡ false → has_stopped ≡ recv_stops p.recv → ShowsLines v p → Dialed v p p.denies has_stopped
dials v p has_stopped here same shows = dials_by v p p.denies has_stopped refl here same shows

-- ---- a connection is taken

-- what a lane holds behind its try: nothing else where nothing came of it
abbrev pub accept_hold : RecvHold → Option RecvIn → RecvHold
accept_hold old None = old
accept_hold old (Some input) = RecvHas input

-- a try to take a connection: its answer is what the lane holds behind it, and the connections are the pair's
pub record Accepted (v : LinesView) (q : Pair) (old : RecvHold) (answer : Option RecvIn) : Type 0 where
  pub told : q.recv ≡ accept_hold old answer
  pub shows : ShowsLines v q

-- each connection shows that of the lane, over its parts
record Parts (send : SendHold) (recv : RecvHold) (t : Option PlainWire) (b : List PlainWire) (n : Option PlainWire) (kt : Option Link) (kb : List Link) (kn : Option Link) : Type 0 where
  pub taken : ShowsBy (send_left kn send) (recv_stops recv) t kt
  pub between : ShowsAll true (recv_stops recv) b kb
  pub newest : ShowsBy (send_stops send) (recv_stops recv) n kn

none_waits : (send : SendHold) (recv : RecvHold) (t : Option PlainWire) (kt : Option Link) (vd vr d rf : ℕ) (has_stopped : Bool) → vd ≡ d → vr ≡ rf → has_stopped ≡ send_stops send → recv_stops recv ≡ false
    → Parts send recv t [] None kt [] None
    → Accepted record { taken = t; between = []; newest = None; denies = vd; refusals = vr }
    (if has_stopped then record { send = send; recv = RecvHas recv_inputs.NoLink; taken = kt; between = []; newest = None; denies = d; refusals = rf }
    else record { send = send; recv = recv; taken = kt; between = []; newest = None; denies = d; refusals = rf }) recv (accepts false false has_stopped)
none_waits send recv t kt vd vr d rf true ed er same there parts =
    record { told = refl; shows = record { taken = subst (λ (b : Bool). ShowsBy (send_stops send) b t kt) there parts.taken; between = tt; newest = tt; denies = ed; refusals = er } }
none_waits send recv t kt vd vr d rf false ed er same there parts = record { told = refl; shows = record { taken = parts.taken; between = tt; newest = tt; denies = ed; refusals = er } }

accepts_by : (send : SendHold) (recv : RecvHold) (t : Option PlainWire) (b : List PlainWire) (n : Option PlainWire) (kt : Option Link) (kb : List Link) (kn : Option Link) (vd vr d rf : ℕ) (has_stopped : Bool)
    → vd ≡ d → vr ≡ rf → has_stopped ≡ send_stops send → recv_stops recv ≡ false → (kn ≡ None → kb ≡ []) → Parts send recv t b n kt kb kn
    → Accepted (taken_next record { taken = t; between = b; newest = n; denies = vd; refusals = vr }) (recv_accepts_by record { send = send; recv = recv; taken = kt; between = kb; newest = kn; denies = d; refusals = rf } kb kn) recv
    (accepts false (has_waiting b n) has_stopped)
accepts_by send recv t [] None kt [] None vd vr d rf has_stopped ed er same there order parts =
    subst
    (λ (s : Bool). Accepted record { taken = t; between = []; newest = None; denies = vd; refusals = vr }
    (if s then record { send = send; recv = RecvHas recv_inputs.NoLink; taken = kt; between = []; newest = None; denies = d; refusals = rf }
    else record { send = send; recv = recv; taken = kt; between = []; newest = None; denies = d; refusals = rf }) recv (accepts false false has_stopped))
    same (none_waits send recv t kt vd vr d rf has_stopped ed er same there parts)
accepts_by send recv t [] (Some w) kt [] None vd vr d rf has_stopped ed er same there order parts = absurd parts.newest
accepts_by send recv t [] None kt [] (Some k) vd vr d rf has_stopped ed er same there order parts = absurd parts.newest
accepts_by send recv t [] (Some w) kt [] (Some k) vd vr d rf has_stopped ed er same there order parts =
    record {
      told = refl;
      shows = record { taken = subst (λ (b : Bool). ShowsLink (send_stops send) b w k) there parts.newest; between = tt; newest = tt; denies = ed; refusals = er };
    }
accepts_by send recv t (w ∷ ws) n kt [] kn vd vr d rf has_stopped ed er same there order parts = absurd parts.between
accepts_by send recv t [] n kt (k ∷ ks) kn vd vr d rf has_stopped ed er same there order parts = absurd parts.between
accepts_by send recv t (w ∷ ws) n kt (k ∷ ks) None vd vr d rf has_stopped ed er same there order parts = absurd (no_item (order refl)) where
  no_item : k ∷ ks ≡ [] → ⊥
  no_item e = cc
accepts_by send recv t (w ∷ ws) None kt (k ∷ ks) (Some j) vd vr d rf has_stopped ed er same there order parts = absurd parts.newest
accepts_by send recv t (w ∷ ws) (Some u) kt (k ∷ ks) (Some j) vd vr d rf has_stopped ed er same there order parts =
    record {
      told = refl;
      shows = record {
        taken = subst (λ (b : Bool). ShowsLink true b w k) there parts.between.0;
        between = subst (λ (b : Bool). ShowsAll true b ws ks) there parts.between.1;
        newest = subst (λ (b : Bool). ShowsLink (send_stops send) b u j) there parts.newest;
        denies = ed;
        refusals = er;
      };
    }

accepts_in : (v : LinesView) (p : Pair) (refusals : ℕ) (has_stopped : Bool) → p.refusals ≡ refusals → has_stopped ≡ send_stops p.send → recv_stops p.recv ≡ false → (p.newest ≡ None → p.between ≡ []) → ShowsLines v p
    → Accepted (accepted v) (recv_accepts p refusals) p.recv (accepts (nat_lt 0 v.refusals) (has_waiting v.between v.newest) has_stopped)
accepts_in v p (suc n) has_stopped is same there order shows =
    let some : nat_lt 0 v.refusals ≡ true = lt-ltb 0 v.refusals (omega (arith, shows.refusals, is)) in
    let less : v.refusals - 1 ≡ n = omega (arith, shows.refusals, is) in
    let held = rehold v p p.send (RecvHas recv_inputs.NoLink) refl there shows in
    subst
    (λ (b : Bool). Accepted (if b then record v { refusals = v.refusals - 1 } else taken_next v) record p { recv = RecvHas recv_inputs.NoLink; refusals = n } p.recv (accepts b (has_waiting v.between v.newest) has_stopped))
    (sym some) record { told = refl; shows = record { taken = held.taken; between = held.between; newest = held.newest; denies = held.denies; refusals = less } }
accepts_in v p zero has_stopped is same there order shows =
    subst
    (λ (b : Bool). Accepted (if b then record v { refusals = v.refusals - 1 } else taken_next v) (recv_accepts_by p p.between p.newest) p.recv (accepts b (has_waiting v.between v.newest) has_stopped))
    (sym (none_below v.refusals (shows.refusals ∙ is)))
    (accepts_by p.send p.recv v.taken v.between v.newest p.taken p.between p.newest v.denies v.refusals p.denies p.refusals has_stopped shows.denies shows.refusals same there order
    record { taken = shows.taken; between = shows.between; newest = shows.newest })

pub accepting : (v : LinesView) (p : Pair) (has_stopped : Bool) → has_stopped ≡ send_stops p.send → recv_stops p.recv ≡ false → (p.newest ≡ None → p.between ≡ []) → ShowsLines v p
    → Accepted (accepted v) (recv_accepts p p.refusals) p.recv (accepts (nat_lt 0 v.refusals) (has_waiting v.between v.newest) has_stopped)
accepting v p has_stopped same there order shows = accepts_in v p p.refusals has_stopped refl same there order shows

-- ---- a cut

pub cutting : (v : LinesView) (p : Pair) (down up : ℕ) → ShowsLines v p → ShowsLines (on_top (cut_wire down up) v) (cuts_by p down up (top p))
cutting v p down up shows = by_top (top p) refl where
  untouched : (taken newest : Option PlainWire) → top_by newest taken ≡ None → (taken_by (cut_wire down up) newest taken ≡ taken) × (option_map (cut_wire down up) newest ≡ newest)
  untouched None None is = (refl, refl)
  untouched (Some w) None is = absurd (no_some is) where
    no_some : Some w ≡ None → ⊥
    no_some e = cc
  untouched taken (Some w) is = absurd (no_some is) where
    no_some : Some w ≡ None → ⊥
    no_some e = cc

  by_top : (k : Option Link) → top p ≡ k → ShowsLines (on_top (cut_wire down up) v) (cuts_by p down up k)
  by_top None is =
      let same = untouched v.taken v.newest (top_none v p shows is) in
      record {
        taken = subst (λ (w : Option PlainWire). ShowsBy (send_left p.newest p.send) (recv_stops p.recv) w p.taken) (sym same.0) shows.taken;
        between = shows.between;
        newest = subst (λ (w : Option PlainWire). ShowsBy (send_stops p.send) (recv_stops p.recv) w p.newest) (sym same.1) shows.newest;
        denies = shows.denies;
        refusals = shows.refusals;
      }
  by_top (Some k) is = top_shows (cut_wire down up) (cut_link down up) (λ s r wire link. cuts s r wire link down up) v p k is shows

-- ---- an end leaves

left_top_taken : (held : SendHold) (b r : Bool) (newest taken : Option PlainWire) (pnewest ptaken : Option Link) → ShowsBy b r newest pnewest → ShowsBy (send_left pnewest held) r taken ptaken
    → ShowsBy (send_left pnewest (SendDoes acts.Stop)) r (taken_by left_down newest taken) ptaken
left_top_taken held b r newest taken None ptaken new old = made_taken held b r newest taken None ptaken new old
left_top_taken held b r newest taken (Some t) ptaken new old = made_taken held b r newest taken (Some t) ptaken new old

left_newest : (b r : Bool) (newest : Option PlainWire) (pnewest : Option Link) → ShowsBy b r newest pnewest → ShowsBy true r (option_map left_down newest) pnewest
left_newest b r None None new = tt
left_newest b r None (Some t) new = absurd new
left_newest b r (Some w) None new = absurd new
left_newest b r (Some w) (Some t) new = sender_leaves b r w t new

-- the sender's lane has stopped
pub leaving_down : (v : LinesView) (p : Pair) → ShowsLines v p → ShowsLines (on_top left_down v) record p { send = SendDoes acts.Stop }
leaving_down v p shows =
    record {
      taken = left_top_taken p.send (send_stops p.send) (recv_stops p.recv) v.newest v.taken p.newest p.taken shows.newest shows.taken;
      between = shows.between;
      newest = left_newest (send_stops p.send) (recv_stops p.recv) v.newest p.newest shows.newest;
      denies = shows.denies;
      refusals = shows.refusals;
    }

left_by_receiver : (s r : Bool) (wire : Option PlainWire) (link : Option Link) → ShowsBy s r wire link → ShowsBy s true (option_map left_up wire) link
left_by_receiver s r None None shows = tt
left_by_receiver s r None (Some k) shows = absurd shows
left_by_receiver s r (Some w) None shows = absurd shows
left_by_receiver s r (Some w) (Some k) shows = receiver_leaves s r w k shows

all_left : (s r : Bool) (wires : List PlainWire) (links : List Link) → ShowsAll s r wires links → ShowsAll s true (map left_up wires) links
all_left s r [] [] shows = tt
all_left s r [] (k ∷ ks) shows = absurd shows
all_left s r (w ∷ ws) [] shows = absurd shows
all_left s r (w ∷ ws) (k ∷ ks) shows = (receiver_leaves s r w k shows.0, all_left s r ws ks shows.1)

-- the receiver's lane has stopped
pub leaving_up : (v : LinesView) (p : Pair) → ShowsLines v p → ShowsLines (all_left_up v) record p { recv = RecvDoes recv_acts.Stop }
leaving_up v p shows =
    record {
      taken = left_by_receiver (send_left p.newest p.send) (recv_stops p.recv) v.taken p.taken shows.taken;
      between = all_left true (recv_stops p.recv) v.between p.between shows.between;
      newest = left_by_receiver (send_stops p.send) (recv_stops p.recv) v.newest p.newest shows.newest;
      denies = shows.denies;
      refusals = shows.refusals;
    }

-- the sender's connection was cut
pub cut_shows : (v w : LinesView) (p : Pair) (down up : ℕ) → w ≡ on_top (cut_wire down up) v → ShowsLines v p → ShowsLines w (cuts_by p down up (top p))
cut_shows v w p down up is shows = subst (λ (u : LinesView). ShowsLines u (cuts_by p down up (top p))) (sym is) (cutting v p down up shows)
