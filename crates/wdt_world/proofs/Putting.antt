-- One connection of a lane becomes another that shows what it is by messages.
use Rattle.std.proofs.Common.{◌≡◌, Bool, Option, Some, None, subst, refl}
use Rattle.wdt_wire.specs.Wires.{PlainWire}
use Rattle.wdt_pact.specs.Links.{Link}
use Rattle.wdt_pact.specs.Pairs.{Pair, SendHold, recv_stops, send_left, send_stops, top, with_top}
use Rattle.wdt_pact.specs.Pairs as pairs
use Rattle.wdt_world.specs.Lines.{LinesView, put_newest, put_taken, top_by, top_wire, with_taken, with_top_wire}
use Rattle.wdt_world.specs.Pairing.{ShowsLines}
use Rattle.wdt_world.specs.Shown.{ShowsBy, ShowsLink}
use Rattle.wdt_world.proofs.Lining.{put_left}

-- ---- the sender's

-- the sender's connection of a lane, where it has one
pub record TopShown (v : LinesView) (p : Pair) (k : Link) : Type 0 where
  pub wire : PlainWire
  pub there : top_wire v ≡ Some wire
  pub shows : ShowsLink (send_stops p.send) (recv_stops p.recv) wire k

top_parts : (held : SendHold) (r : Bool) (taken newest : Option PlainWire) (ptaken pnewest : Option Link) (k : Link) → ShowsBy (send_left pnewest held) r taken ptaken → ShowsBy (send_stops held) r newest pnewest
    → pairs.top_by pnewest ptaken ≡ Some k → (wire : PlainWire) × (top_by newest taken ≡ Some wire) × ShowsLink (send_stops held) r wire k
top_parts held r None None None None k old new is = absurd (no_some is) where
  no_some : None ≡ Some k → ⊥
  no_some e = cc
top_parts held r None None (Some j) None k old new is = absurd old
top_parts held r (Some w) None None None k old new is = absurd old
top_parts held r (Some w) None (Some j) None k old new is = (w, refl, subst (λ (l : Link). ShowsLink (send_stops held) r w l) (same is) old) where
  same : Some j ≡ Some k → j ≡ k
  same e = cc
top_parts held r taken (Some w) ptaken None k old new is = absurd new
top_parts held r taken None ptaken (Some t) k old new is = absurd new
top_parts held r taken (Some w) ptaken (Some t) k old new is = (w, refl, subst (λ (l : Link). ShowsLink (send_stops held) r w l) (same is) new) where
  same : Some t ≡ Some k → t ≡ k
  same e = cc

pub top_shown : (v : LinesView) (p : Pair) (k : Link) → top p ≡ Some k → ShowsLines v p → TopShown v p k
top_shown v p k is shows =
    let parts = top_parts p.send (recv_stops p.recv) v.taken v.newest p.taken p.newest k shows.taken shows.newest is in
    record { wire = parts.0; there = parts.1; shows = parts.2 }

put_in_taken : (held : SendHold) (r : Bool) (taken newest : Option PlainWire) (ptaken pnewest : Option Link) (wire : PlainWire) (k : Link) → ShowsBy (send_left pnewest held) r taken ptaken → ShowsBy (send_stops held) r newest pnewest
    → ShowsLink (send_stops held) r wire k → ShowsBy (send_left pnewest held) r (put_taken newest (Some wire) taken) (pairs.put_taken pnewest ptaken k)
put_in_taken held r taken None ptaken None wire k old new shows = shows
put_in_taken held r taken None ptaken (Some t) wire k old new shows = absurd new
put_in_taken held r taken (Some w) ptaken None wire k old new shows = absurd new
put_in_taken held r taken (Some w) ptaken (Some t) wire k old new shows = old

put_in_newest : (s r : Bool) (newest : Option PlainWire) (pnewest : Option Link) (wire : PlainWire) (k : Link) → ShowsBy s r newest pnewest → ShowsLink s r wire k → ShowsBy s r (put_newest newest (Some wire)) (pairs.put_newest pnewest k)
put_in_newest s r None None wire k new shows = tt
put_in_newest s r None (Some t) wire k new shows = absurd new
put_in_newest s r (Some w) None wire k new shows = absurd new
put_in_newest s r (Some w) (Some t) wire k new shows = shows

-- the sender's connection is another now
pub top_put : (v : LinesView) (p : Pair) (wire : PlainWire) (k : Link) → ShowsLink (send_stops p.send) (recv_stops p.recv) wire k → ShowsLines v p → ShowsLines (with_top_wire (Some wire) v) (with_top p k)
top_put v p wire k link shows =
    record {
      taken = subst (λ (b : Bool). ShowsBy b (recv_stops p.recv) (put_taken v.newest (Some wire) v.taken) (pairs.put_taken p.newest p.taken k)) (put_left p.newest k p.send)
          (put_in_taken p.send (recv_stops p.recv) v.taken v.newest p.taken p.newest wire k shows.taken shows.newest link);
      between = shows.between;
      newest = put_in_newest (send_stops p.send) (recv_stops p.recv) v.newest p.newest wire k shows.newest link;
      denies = shows.denies;
      refusals = shows.refusals;
    }

-- nothing is put where nothing is
pub put_none : (newest taken : Option PlainWire) → top_by newest taken ≡ None → (put_taken newest None taken ≡ taken) × (put_newest newest None ≡ newest)
put_none None None is = (refl, refl)
put_none None (Some w) is = absurd (no_some is) where
  no_some : Some w ≡ None → ⊥
  no_some e = cc
put_none (Some w) taken is = absurd (no_some is) where
  no_some : Some w ≡ None → ⊥
  no_some e = cc

-- ---- the taken one

-- the taken connection of a lane, where it has one
pub record TakenShown (v : LinesView) (p : Pair) (k : Link) : Type 0 where
  pub wire : PlainWire
  pub there : v.taken ≡ Some wire
  pub shows : ShowsLink (send_left p.newest p.send) (recv_stops p.recv) wire k

taken_parts : (s r : Bool) (taken : Option PlainWire) (ptaken : Option Link) (k : Link) → ShowsBy s r taken ptaken → ptaken ≡ Some k → (wire : PlainWire) × (taken ≡ Some wire) × ShowsLink s r wire k
taken_parts s r None None k shows is = absurd (no_some is) where
  no_some : None ≡ Some k → ⊥
  no_some e = cc
taken_parts s r None (Some j) k shows is = absurd shows
taken_parts s r (Some w) None k shows is = absurd shows
taken_parts s r (Some w) (Some j) k shows is = (w, refl, subst (λ (l : Link). ShowsLink s r w l) (same is) shows) where
  same : Some j ≡ Some k → j ≡ k
  same e = cc

pub taken_shown : (v : LinesView) (p : Pair) (k : Link) → p.taken ≡ Some k → ShowsLines v p → TakenShown v p k
taken_shown v p k is shows =
    let parts = taken_parts (send_left p.newest p.send) (recv_stops p.recv) v.taken p.taken k shows.taken is in
    record { wire = parts.0; there = parts.1; shows = parts.2 }

pub taken_none : (v : LinesView) (p : Pair) → p.taken ≡ None → ShowsLines v p → v.taken ≡ None
taken_none v p is shows = none (send_left p.newest p.send) (recv_stops p.recv) v.taken p.taken shows.taken is where
  none : (s r : Bool) (taken : Option PlainWire) (ptaken : Option Link) → ShowsBy s r taken ptaken → ptaken ≡ None → taken ≡ None
  none s r None ptaken shows is = refl
  none s r (Some w) None shows is = absurd shows
  none s r (Some w) (Some j) shows is = absurd (no_some is) where
    no_some : Some j ≡ None → ⊥
    no_some e = cc

-- the taken connection is another now
pub taken_put : (v : LinesView) (p : Pair) (wire : PlainWire) (k : Link) → ShowsLink (send_left p.newest p.send) (recv_stops p.recv) wire k → ShowsLines v p → ShowsLines (with_taken (Some wire) v) record p { taken = Some k }
taken_put v p wire k link shows = record { taken = link; between = shows.between; newest = shows.newest; denies = shows.denies; refusals = shows.refusals }
