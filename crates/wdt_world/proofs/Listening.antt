-- What a lane hears is what its pair hears.
use Rattle.std.proofs.Common.{◌≡◌, ℕ, ◌≤◌, Bool, true, false, ◌||◌, length, Option, Some, None, subst, sym, ap, ◌∙◌, refl, if◌then◌else◌}
use Rattle.wdt_codec.specs.declared.frames.Frame.{Frame}
use Rattle.wdt_sender_fsm.specs.declared.inputs.SendIn.{SendIn}
use Rattle.wdt_sender_fsm.specs.declared.inputs.SendIn.TheVariants as inputs
use Rattle.wdt_receiver_fsm.specs.declared.inputs.RecvIn.TheVariants as recv_inputs
use Rattle.wdt_sender_fsm.specs.Phases.{Message}
use Rattle.wdt_wire.specs.declared.side.Side.TheVariants.{Down, Up}
use Rattle.wdt_wire.specs.declared.taken.Taken.{Taken}
use Rattle.wdt_wire.specs.declared.taken.Taken.TheVariants as found
use Rattle.wdt_wire.specs.Wires.{FindsFrame, FindsPiece, PlainWire}
use Rattle.wdt_pact.specs.Links.{Link, Way, front, is_cut, size_down, size_up}
use Rattle.wdt_pact.specs.Pairs.{Pair, RecvHas, RecvTook, SendHas, SendHold, recv_nothing, recv_reads, recv_reads_by, recv_stops, recv_takes, recv_takes_by, send_left, send_reads, send_reads_by, send_stops, top, with_top}
use Rattle.wdt_pact.specs.Pairs as pairs
use Rattle.wdt_world.specs.declared.hands.RecvHand.{RecvHand}
use Rattle.wdt_world.specs.Finding.{BeginsOn, BeginsWithFrame, BeginsWithPiece, FoundDown, FoundUp}
use Rattle.wdt_world.specs.Hands.{Receives, Sends}
use Rattle.wdt_world.specs.Heard.{heard_down, heard_up}
use Rattle.wdt_world.specs.Lines.{FindsOn, LinesView, top_wire, with_taken, with_top_wire}
use Rattle.wdt_world.specs.Pairing.{ShowsLines}
use Rattle.wdt_world.specs.Shown.{ShowsBy, ShowsLink}
use Rattle.wdt_world.proofs.Fronts.{OneReading}
use Rattle.wdt_world.proofs.Lining.{rehold, top_none}
use Rattle.wdt_world.proofs.Putting.{put_none, taken_none, taken_put, taken_shown, top_put, top_shown}
use Rattle.wdt_world.proofs.Showing.{found_down, found_piece, found_up}

-- ---- the sender's lane

-- the sender's connection of a pair, put where it is
pub top_same : (p : Pair) (k : Link) → top p ≡ Some k → with_top p k ≡ p
top_same p k is = same p.taken p.newest is where
  same : (taken newest : Option Link) → pairs.top_by newest taken ≡ Some k → record p { taken = pairs.put_taken newest taken k; newest = pairs.put_newest newest k } ≡ record p { taken = taken; newest = newest }
  same taken None is = ap (λ (t : Option Link). record p { taken = t; newest = None }) (sym is)
  same taken (Some t) is = ap (λ (n : Option Link). record p { taken = taken; newest = n }) (sym is)

-- by what was found
up_by : (v : LinesView) (p : Pair) (k : Link) (new : PlainWire) (taken : Taken) → top p ≡ Some k → send_stops p.send ≡ false → ShowsLines v p → FoundUp (send_stops p.send) (recv_stops p.recv) taken new k
    → Sends p.send (heard_up taken) (with_top_wire (Some new) v) (send_reads_by p k (front size_up k.up))
up_by v p k new (found.Frame f) is here shows was =
    subst (λ (x : Option (Frame × Way Frame)). Sends p.send (Some (inputs.Got f)) (with_top_wire (Some new) v) (send_reads_by p k x)) (sym was.1)
    record {
      told = refl;
      shows = rehold (with_top_wire (Some new) v) (with_top p record k { up = was.0 }) (SendHas (inputs.Got f)) p.recv here refl (top_put v p new record k { up = was.0 } was.2 shows);
    }
up_by v p k new (found.Piece bytes) is here shows was = absurd was
up_by v p k new found.Nothing is here shows was =
    subst (λ (x : Option (Frame × Way Frame)). Sends p.send None (with_top_wire (Some new) v) (send_reads_by p k x)) (sym was.0)
    (subst (λ (b : Bool). Sends p.send None (with_top_wire (Some new) v) (if b then record p { send = SendHas inputs.Lost } else p)) (sym was.1)
    record { told = refl; shows = subst (ShowsLines (with_top_wire (Some new) v)) (top_same p k is) (top_put v p new k was.2 shows) })
up_by v p k new found.Lost is here shows was =
    subst (λ (x : Option (Frame × Way Frame)). Sends p.send (Some inputs.Lost) (with_top_wire (Some new) v) (send_reads_by p k x)) (sym was.0)
    (subst (λ (b : Bool). Sends p.send (Some inputs.Lost) (with_top_wire (Some new) v) (if b then record p { send = SendHas inputs.Lost } else p)) (sym was.1)
    record {
      told = refl;
      shows = rehold (with_top_wire (Some new) v) p (SendHas inputs.Lost) p.recv here refl (subst (ShowsLines (with_top_wire (Some new) v)) (top_same p k is) (top_put v p new k was.2 shows));
    })

-- where there is no connection nothing was found
up_none : (v : LinesView) (p : Pair) (old new : Option PlainWire) (taken : Taken) → top_wire v ≡ old → old ≡ None → ShowsLines v p → FindsOn (FindsFrame Up) taken old new → Sends p.send (heard_up taken) (with_top_wire new v) p
up_none v p None new taken at none shows finds =
    subst (λ (t : Taken). Sends p.send (heard_up t) (with_top_wire new v) p) (sym finds.0)
    (subst (λ (w : Option PlainWire). Sends p.send None (with_top_wire w v) p) (sym finds.1)
    (let same = put_none v.newest v.taken at in
    record {
      told = refl;
      shows = record {
        taken = subst (λ (w : Option PlainWire). ShowsBy (send_left p.newest p.send) (recv_stops p.recv) w p.taken) (sym same.0) shows.taken;
        between = shows.between;
        newest = subst (λ (w : Option PlainWire). ShowsBy (send_stops p.send) (recv_stops p.recv) w p.newest) (sym same.1) shows.newest;
        denies = shows.denies;
        refusals = shows.refusals;
      };
    }))
up_none v p (Some w) new taken at none shows finds = absurd (no_some none) where
  no_some : Some w ≡ None → ⊥
  no_some e = cc

up_some : OneReading → (v : LinesView) (p : Pair) (k : Link) (wire : PlainWire) (new : Option PlainWire) (taken : Taken) → top p ≡ Some k → send_stops p.send ≡ false → ShowsLines v p
    → ShowsLink (send_stops p.send) (recv_stops p.recv) wire k → FindsOn (FindsFrame Up) taken (Some wire) new → Sends p.send (heard_up taken) (with_top_wire new v) (send_reads_by p k (front size_up k.up))
up_some one v p k wire None taken is here shows link finds = absurd finds
up_some one v p k wire (Some new) taken is here shows link finds =
    up_by v p k new taken is here shows (found_up one (send_stops p.send) (recv_stops p.recv) wire new k taken link here finds)

up_top : OneReading → (v : LinesView) (p : Pair) (new : Option PlainWire) (taken : Taken) (k : Option Link) → top p ≡ k → send_stops p.send ≡ false → ShowsLines v p → FindsOn (FindsFrame Up) taken (top_wire v) new
    → Sends p.send (heard_up taken) (with_top_wire new v) (send_reads p k)
up_top one v p new taken None is here shows finds = up_none v p (top_wire v) new taken refl (top_none v p shows is) shows finds
up_top one v p new taken (Some k) is here shows finds =
    let t = top_shown v p k is shows in
    up_some one v p k t.wire new taken is here shows t.shows (subst (λ (old : Option PlainWire). FindsOn (FindsFrame Up) taken old new) t.there finds)

-- the sender's lane hears what its pair hears
pub hears_up : OneReading → (v new : LinesView) (p : Pair) (taken : Taken) (answer : Option SendIn) → send_stops p.send ≡ false → ShowsLines v p → FindsOn (FindsFrame Up) taken (top_wire v) (top_wire new)
    → new ≡ with_top_wire (top_wire new) v → answer ≡ heard_up taken → Sends p.send answer new (send_reads p (top p))
hears_up one v new p taken answer here shows finds only is =
    subst (λ (w : LinesView). Sends p.send answer w (send_reads p (top p))) (sym only)
    (subst (λ (a : Option SendIn). Sends p.send a (with_top_wire (top_wire new) v) (send_reads p (top p))) (sym is) (up_top one v p (top_wire new) taken (top p) refl here shows finds))

-- ---- the receiver's lane

-- where nothing whole is there
nothing_by : (v : LinesView) (p : Pair) (k : Link) (new : PlainWire) (lost : Bool) → p.taken ≡ Some k → recv_stops p.recv ≡ false → ShowsLines v p → (is_cut k.down || send_left p.newest p.send) ≡ lost
    → ShowsLink (send_left p.newest p.send) (recv_stops p.recv) new k → Receives p.recv (if lost then heard_down found.Lost else None) (with_taken (Some new) v) (recv_nothing p k)
nothing_by v p k new true is here shows lost link =
    subst (λ (b : Bool). Receives p.recv (heard_down found.Lost) (with_taken (Some new) v) (if b then record p { recv = RecvHas recv_inputs.Lost } else p)) (sym lost)
    record {
      told = refl;
      shows = rehold (with_taken (Some new) v) p p.send (RecvHas recv_inputs.Lost) refl here
          (subst (λ (t : Option Link). ShowsLines (with_taken (Some new) v) record p { taken = t }) (sym is) (taken_put v p new k link shows));
    }
nothing_by v p k new false is here shows lost link =
    subst (λ (b : Bool). Receives p.recv None (with_taken (Some new) v) (if b then record p { recv = RecvHas recv_inputs.Lost } else p)) (sym lost)
    record { told = refl; shows = subst (λ (t : Option Link). ShowsLines (with_taken (Some new) v) record p { taken = t }) (sym is) (taken_put v p new k link shows) }

-- a frame is looked for, or a piece
abbrev pub IsNoPiece : Taken → Type 0
IsNoPiece (found.Piece bytes) = ⊥
IsNoPiece _ = Unit {0}

abbrev pub IsNoFrame : Taken → Type 0
IsNoFrame (found.Frame frame) = ⊥
IsNoFrame _ = Unit {0}

-- a reader of frames, by what was found
frames_by : (v : LinesView) (p : Pair) (k : Link) (new : PlainWire) (taken : Taken) → IsNoPiece taken → p.taken ≡ Some k → recv_stops p.recv ≡ false → ShowsLines v p
    → FoundDown (send_left p.newest p.send) (recv_stops p.recv) taken new k → Receives p.recv (heard_down taken) (with_taken (Some new) v) (recv_reads_by p k (front size_down k.down))
frames_by v p k new (found.Frame f) kind is here shows was =
    subst (λ (x : Option (Message × Way Message)). Receives p.recv (heard_down (found.Frame f)) (with_taken (Some new) v) (recv_reads_by p k x)) (sym was.1)
    record {
      told = refl;
      shows = rehold (with_taken (Some new) v) record p { taken = Some record k { down = was.0 } } p.send (RecvHas (recv_inputs.Got f)) refl here (taken_put v p new record k { down = was.0 } was.2 shows);
    }
frames_by v p k new (found.Piece bytes) kind is here shows was = absurd kind
frames_by v p k new found.Nothing kind is here shows was =
    subst (λ (x : Option (Message × Way Message)). Receives p.recv None (with_taken (Some new) v) (recv_reads_by p k x)) (sym was.0) (nothing_by v p k new false is here shows was.1 was.2)
frames_by v p k new found.Lost kind is here shows was =
    subst (λ (x : Option (Message × Way Message)). Receives p.recv (heard_down found.Lost) (with_taken (Some new) v) (recv_reads_by p k x)) (sym was.0) (nothing_by v p k new true is here shows was.1 was.2)

-- a taker of pieces
pieces_by : (v : LinesView) (p : Pair) (k : Link) (new : PlainWire) (taken : Taken) → IsNoFrame taken → p.taken ≡ Some k → recv_stops p.recv ≡ false → ShowsLines v p
    → FoundDown (send_left p.newest p.send) (recv_stops p.recv) taken new k → Receives p.recv (heard_down taken) (with_taken (Some new) v) (recv_takes_by p k (front size_down k.down))
pieces_by v p k new (found.Frame f) kind is here shows was = absurd kind
pieces_by v p k new (found.Piece bytes) kind is here shows was =
    subst (λ (x : Option (Message × Way Message)). Receives p.recv (heard_down (found.Piece bytes)) (with_taken (Some new) v) (recv_takes_by p k x)) (sym was.1)
    record {
      told = refl;
      shows = rehold (with_taken (Some new) v) record p { taken = Some record k { down = was.0 } } p.send (RecvTook (length bytes.items)) refl here (taken_put v p new record k { down = was.0 } was.2 shows);
    }
pieces_by v p k new found.Nothing kind is here shows was =
    subst (λ (x : Option (Message × Way Message)). Receives p.recv None (with_taken (Some new) v) (recv_takes_by p k x)) (sym was.0) (nothing_by v p k new false is here shows was.1 was.2)
pieces_by v p k new found.Lost kind is here shows was =
    subst (λ (x : Option (Message × Way Message)). Receives p.recv (heard_down found.Lost) (with_taken (Some new) v) (recv_takes_by p k x)) (sym was.0) (nothing_by v p k new true is here shows was.1 was.2)

frame_is : (taken : Taken) (old new : PlainWire) → FindsFrame Down taken old new → IsNoPiece taken
frame_is (found.Frame f) old new finds = tt
frame_is (found.Piece bytes) old new finds = absurd finds
frame_is found.Nothing old new finds = tt
frame_is found.Lost old new finds = tt

piece_is : (n : ℕ) (taken : Taken) (old new : PlainWire) → FindsPiece Down n taken old new → IsNoFrame taken
piece_is n (found.Frame f) old new finds = absurd finds
piece_is n (found.Piece bytes) old new finds = tt
piece_is n found.Nothing old new finds = tt
piece_is n found.Lost old new finds = tt

-- where there is no connection nothing was found
down_none : (Finds : Taken → PlainWire → PlainWire → Type 0) (v : LinesView) (p : Pair) (old new : Option PlainWire) (taken : Taken) → v.taken ≡ old → old ≡ None → ShowsLines v p → FindsOn Finds taken old new
    → Receives p.recv (heard_down taken) (with_taken new v) p
down_none Finds v p None new taken at none shows finds =
    subst (λ (t : Taken). Receives p.recv (heard_down t) (with_taken new v) p) (sym finds.0)
    (subst (λ (w : Option PlainWire). Receives p.recv None (with_taken w v) p) (at ∙ sym finds.1) record { told = refl; shows = shows })
down_none Finds v p (Some w) new taken at none shows finds = absurd (no_some none) where
  no_some : Some w ≡ None → ⊥
  no_some e = cc

frames_some : OneReading → (v : LinesView) (p : Pair) (k : Link) (wire : PlainWire) (new : Option PlainWire) (taken : Taken) → p.taken ≡ Some k → recv_stops p.recv ≡ false → BeginsWithFrame k.down.sent → ShowsLines v p
    → ShowsLink (send_left p.newest p.send) (recv_stops p.recv) wire k → FindsOn (FindsFrame Down) taken (Some wire) new → Receives p.recv (heard_down taken) (with_taken new v) (recv_reads_by p k (front size_down k.down))
frames_some one v p k wire None taken is here head shows link finds = absurd finds
frames_some one v p k wire (Some new) taken is here head shows link finds =
    frames_by v p k new taken (frame_is taken wire new finds) is here shows (found_down one (send_left p.newest p.send) (recv_stops p.recv) wire new k taken link here head finds)

pieces_some : (v : LinesView) (p : Pair) (k : Link) (n : ℕ) (wire : PlainWire) (new : Option PlainWire) (taken : Taken) → p.taken ≡ Some k → recv_stops p.recv ≡ false → 1 ≤ n → BeginsWithPiece n k.down.sent → ShowsLines v p
    → ShowsLink (send_left p.newest p.send) (recv_stops p.recv) wire k → FindsOn (FindsPiece Down n) taken (Some wire) new → Receives p.recv (heard_down taken) (with_taken new v) (recv_takes_by p k (front size_down k.down))
pieces_some v p k n wire None taken is here some head shows link finds = absurd finds
pieces_some v p k n wire (Some new) taken is here some head shows link finds =
    pieces_by v p k new taken (piece_is n taken wire new finds) is here shows (found_piece (send_left p.newest p.send) (recv_stops p.recv) wire new k n taken link here some head finds)

frames_taken : OneReading → (v : LinesView) (p : Pair) (new : Option PlainWire) (taken : Taken) (k : Option Link) → p.taken ≡ k → recv_stops p.recv ≡ false → BeginsOn BeginsWithFrame k → ShowsLines v p
    → FindsOn (FindsFrame Down) taken v.taken new → Receives p.recv (heard_down taken) (with_taken new v) (recv_reads p k)
frames_taken one v p new taken None is here head shows finds = down_none (FindsFrame Down) v p v.taken new taken refl (taken_none v p is shows) shows finds
frames_taken one v p new taken (Some k) is here head shows finds =
    let t = taken_shown v p k is shows in
    frames_some one v p k t.wire new taken is here head shows t.shows (subst (λ (old : Option PlainWire). FindsOn (FindsFrame Down) taken old new) t.there finds)

pieces_taken : (v : LinesView) (p : Pair) (n : ℕ) (new : Option PlainWire) (taken : Taken) (k : Option Link) → p.taken ≡ k → recv_stops p.recv ≡ false → 1 ≤ n → BeginsOn (BeginsWithPiece n) k → ShowsLines v p
    → FindsOn (FindsPiece Down n) taken v.taken new → Receives p.recv (heard_down taken) (with_taken new v) (recv_takes p k)
pieces_taken v p n new taken None is here some head shows finds = down_none (FindsPiece Down n) v p v.taken new taken refl (taken_none v p is shows) shows finds
pieces_taken v p n new taken (Some k) is here some head shows finds =
    let t = taken_shown v p k is shows in
    pieces_some v p k n t.wire new taken is here some head shows t.shows (subst (λ (old : Option PlainWire). FindsOn (FindsPiece Down n) taken old new) t.there finds)

-- the receiver's lane hears what its pair hears, where a frame comes next
pub hears_down : OneReading → (v new : LinesView) (p : Pair) (taken : Taken) (answer : Option RecvHand) → recv_stops p.recv ≡ false → BeginsOn BeginsWithFrame p.taken → ShowsLines v p
    → FindsOn (FindsFrame Down) taken v.taken new.taken → new ≡ with_taken new.taken v → answer ≡ heard_down taken → Receives p.recv answer new (recv_reads p p.taken)
hears_down one v new p taken answer here head shows finds only is =
    subst (λ (w : LinesView). Receives p.recv answer w (recv_reads p p.taken)) (sym only)
    (subst (λ (a : Option RecvHand). Receives p.recv a (with_taken new.taken v) (recv_reads p p.taken)) (sym is) (frames_taken one v p new.taken taken p.taken refl here head shows finds))

-- and where a piece does
pub hears_piece : (v new : LinesView) (p : Pair) (n : ℕ) (taken : Taken) (answer : Option RecvHand) → recv_stops p.recv ≡ false → 1 ≤ n → BeginsOn (BeginsWithPiece n) p.taken → ShowsLines v p
    → FindsOn (FindsPiece Down n) taken v.taken new.taken → new ≡ with_taken new.taken v → answer ≡ heard_down taken → Receives p.recv answer new (recv_takes p p.taken)
hears_piece v new p n taken answer here some head shows finds only is =
    subst (λ (w : LinesView). Receives p.recv answer w (recv_takes p p.taken)) (sym only)
    (subst (λ (a : Option RecvHand). Receives p.recv a (with_taken new.taken v) (recv_takes p p.taken)) (sym is) (pieces_taken v p n new.taken taken p.taken refl here some head shows finds))
