-- The event of a world, at the lane that takes the step.
use Rattle.std.specs.Prelude.{IfOk}
use Rattle.std.proofs.Common.{◌≡◌, ℕ, zero, suc, ◌<◌, nat_le, Bool, true, false, ◌||◌, Result, Ok, Err, List, [], ◌∷◌, length, slice_get, slice_set, Option, Some, None, subst, sym, ap, ◌∙◌, refl, arith, if◌then◌else◌}
use Rattle.wdt_units.specs.declared.blocks.Header.{Header}
use Rattle.wdt_codec.specs.declared.frames.Frame.{Frame}
use Rattle.wdt_sender_fsm.specs.declared.acts.SendAct.{SendAct}
use Rattle.wdt_sender_fsm.specs.declared.acts.SendAct.TheVariants as acts
use Rattle.wdt_sender_fsm.specs.declared.inputs.SendIn.{SendIn}
use Rattle.wdt_sender_fsm.specs.Phases.{Message, Framed, Piece, pieces_in, written_by}
use Rattle.wdt_sender_fsm.specs.PlainSender.{PlainSender, past_at}
use Rattle.wdt_receiver_fsm.specs.declared.acts.RecvAct.{RecvAct}
use Rattle.wdt_receiver_fsm.specs.declared.acts.RecvAct.TheVariants as recv_acts
use Rattle.wdt_receiver_fsm.specs.declared.inputs.RecvIn.{RecvIn}
use Rattle.wdt_receiver_fsm.specs.PlainReceiver.{PlainReceiver}
use Rattle.wdt_receiver_fsm.specs.Turn.{Bytes, Given, Put}
use Rattle.wdt_pact.specs.Progress.{is_parked}
use Rattle.wdt_pact.specs.Links.{Link, Way, front, is_cut, size_down, size_up}
use Rattle.wdt_pact.specs.Pairs.{Pair, RecvDoes, RecvHas, RecvHold, RecvTook, SendDoes, SendHas, SendHold, recv_accepts, recv_accepts_by, recv_does, recv_gets, recv_nothing, recv_reads, recv_reads_by, recv_stops, recv_takes, recv_takes_by, recv_writes, send_dials, send_does, send_left, send_loses, send_reads, send_reads_by, send_sends, send_stops, send_takes, send_writes, top}
use Rattle.wdt_pact.specs.World.{PlainWorld, Receives, Sends, happens, number, pair_at, pair_or, recv_steps_by, recv_turn, recv_turned, send_steps_by, send_turned, some_bytes, with_pair}
use Rattle.wdt_world.specs.declared.hands.SendHand.{SendHand}
use Rattle.wdt_world.specs.declared.hands.SendHand.TheVariants as send
use Rattle.wdt_world.specs.declared.hands.RecvHand.{RecvHand}
use Rattle.wdt_world.specs.declared.hands.RecvHand.TheVariants as recv
use Rattle.wdt_world.specs.Acting.{ActsRecv, ActsSend}
use Rattle.wdt_world.specs.Lines.{LinesView}
use Rattle.wdt_world.specs.Pairing.{ShowsLines}
use Rattle.wdt_world.specs.Stepping.{StepsRecv, StepsSend}
use Rattle.wdt_world.specs.Turning.{TurnsRecv, TurnsSend}

-- ---- a lane of a world

get_set : {A : Type 0} (xs : List A) (l : ℕ) (x : A) → l < length xs → slice_get (slice_set xs l x) l ≡ Some x
get_set [] l x less = absurd (omega (arith, less))
get_set (y ∷ xs) zero x less = refl
get_set (y ∷ xs) (suc l) x less = get_set xs l x (omega (arith, less))

pub pair_there : (w : PlainWorld) (l : ℕ) (p : Pair) → l < length w.pairs → pair_at (with_pair w l p) l ≡ p
pair_there w l p less = ap pair_or (get_set w.pairs l p less)

-- ---- the receiver's hold stays

writes_other : (p : Pair) (ms : List Message) (k : Option Link) → (send_writes p ms k).recv ≡ p.recv
writes_other p ms None = refl
writes_other p ms (Some k) = refl

loses_other : (p : Pair) (k : Option Link) (ms : List Message) (b : Bool) → (send_loses p k ms b).recv ≡ p.recv
loses_other p None ms b = refl
loses_other p (Some k) ms b = refl

either_other : (p a b : Pair) (c : Bool) → a.recv ≡ p.recv → b.recv ≡ p.recv → (if c then a else b).recv ≡ p.recv
either_other p a b true first second = first
either_other p a b false first second = second

sends_other : (p : Pair) (h : Header) (lost : Option ℕ) → (send_sends p h lost).recv ≡ p.recv
sends_other p h None = writes_other p (written_by (acts.SendBlock h)) (top p)
sends_other p h (Some zero) =
    either_other p (send_writes p (written_by (acts.SendBlock h)) (top p)) (send_loses p (top p) [] true) (nat_le (pieces_in h.length) 0) (writes_other p (written_by (acts.SendBlock h)) (top p)) (loses_other p (top p) [] true)
sends_other p h (Some (suc k)) =
    either_other p (send_writes p (written_by (acts.SendBlock h)) (top p)) (send_loses p (top p) _ false) (nat_le (pieces_in h.length) (suc k)) (writes_other p (written_by (acts.SendBlock h)) (top p)) (loses_other p (top p) _ false)

dials_other : (p : Pair) (denies : ℕ) (b : Bool) → (send_dials p denies b).recv ≡ p.recv
dials_other p (suc n) b = refl
dials_other p zero true = refl
dials_other p zero false = refl

reads_by_other : (p : Pair) (k : Link) (x : Option (Frame × Way Frame)) → (send_reads_by p k x).recv ≡ p.recv
reads_by_other p k (Some x) = refl
reads_by_other p k None = either_other p _ p (is_cut k.up || recv_stops p.recv) refl refl

reads_other : (p : Pair) (k : Option Link) → (send_reads p k).recv ≡ p.recv
reads_other p None = refl
reads_other p (Some k) = reads_by_other p k (front size_up k.up)

does_other : (p : Pair) (lost : Option ℕ) (act : SendAct) → (send_does p lost act).recv ≡ p.recv
does_other p lost (acts.Dial conn) = dials_other p p.denies (recv_stops p.recv)
does_other p lost (acts.Write frame) = writes_other p _ (top p)
does_other p lost (acts.SendBlock header) = sends_other p header lost
does_other p lost acts.Read = reads_other p (top p)
does_other p lost acts.Stop = refl

-- ---- the sender's lane takes a step

-- by what it holds
step_by : (w : PlainWorld) (l : ℕ) (lost : Option ℕ) (held : SendHold) → (pair_at w l).send ≡ held → happens w (Sends l lost) ≡ send_steps_by w l lost held
step_by w l lost held is = ap (λ (h : SendHold). send_steps_by w l lost h) is

-- an act was performed
pub performed : (Fails : Type 0) (w : PlainWorld) (l : ℕ) (act : SendAct) (hand : SendHand) (v : LinesView) → l < length w.pairs → (pair_at w l).send ≡ SendDoes act → ActsSend Fails (pair_at w l) act hand v
    → StepsSend Fails w l w.sender hand v
performed Fails w l act hand v less does a =
    let q : Pair = send_does (pair_at w l) a.lost act in
    let world : with_pair w l q ≡ happens w (Sends l a.lost) = sym (step_by w l a.lost (SendDoes act) does) in
    let pair : q ≡ pair_at (happens w (Sends l a.lost)) l = sym (pair_there w l q less) ∙ ap (λ (u : PlainWorld). pair_at u l) world in
    record {
      lost = a.lost;
      cause = a.cause;
      sender = sym (ap (λ (u : PlainWorld). u.sender) world);
      held = a.held ∙ ap (λ (r : Pair). r.send) pair;
      other = sym (ap (λ (r : Pair). r.recv) pair) ∙ does_other (pair_at w l) a.lost act;
      shows = subst (ShowsLines v) pair a.shows;
    }

-- an input was handed in
pub handed : (Fails : Type 0) (w : PlainWorld) (l : ℕ) (input : SendIn) (act : SendAct) (t : PlainSender) (v : LinesView) → l < length w.pairs → (pair_at w l).send ≡ SendHas input
    → TurnsSend w.sender (number l) (pair_at w l) input act t v → StepsSend Fails w l t (send.Does act) v
handed Fails w l input act t v less has turned =
    let q : Pair = send_takes (pair_at w l) input (past_at t l).is_greeted act in
    let world : (record (with_pair w l q) { sender = t }) ≡ happens w (Sends l None) = ap (send_turned w l input) (sym turned.step) ∙ sym (step_by w l None (SendHas input) has) in
    let pair : q ≡ pair_at (happens w (Sends l None)) l = sym (pair_there w l q less) ∙ ap (λ (u : PlainWorld). pair_at u l) world in
    record {
      lost = None;
      cause = λ none. absurd (none refl);
      sender = sym (ap (λ (u : PlainWorld). u.sender) world);
      held = ap (λ (r : Pair). r.send) pair;
      other = sym (ap (λ (r : Pair). r.recv) pair);
      shows = subst (ShowsLines v) pair (turned.shows (past_at t l).is_greeted);
    }

-- what follows of a call that went well
pub through : {A E : Type 0} {P Q : A → Type 0} (r : Result A E) → ((x : A) → P x → Q x) → IfOk r P → IfOk r Q
through (Ok x) f p = f x p
through (Err e) f p = p

-- ---- the sender's hold stays

chosen_other : (p a b : Pair) (c : Bool) → a.send ≡ p.send → b.send ≡ p.send → (if c then a else b).send ≡ p.send
chosen_other p a b true first second = first
chosen_other p a b false first second = second

accepts_by_other : (p : Pair) (ks : List Link) (newest : Option Link) → (recv_accepts_by p ks newest).send ≡ p.send
accepts_by_other p (k ∷ ks) newest = refl
accepts_by_other p [] (Some k) = refl
accepts_by_other p [] None = chosen_other p _ p (send_stops p.send) refl refl

accepts_other : (p : Pair) (refusals : ℕ) → (recv_accepts p refusals).send ≡ p.send
accepts_other p (suc n) = refl
accepts_other p zero = accepts_by_other p p.between p.newest

answers_other : (p : Pair) (frame : Frame) (k : Option Link) → (recv_writes p frame k).send ≡ p.send
answers_other p frame None = refl
answers_other p frame (Some k) = refl

nothing_other : (p : Pair) (k : Link) → (recv_nothing p k).send ≡ p.send
nothing_other p k = chosen_other p _ p (is_cut k.down || send_left p.newest p.send) refl refl

hears_by_other : (p : Pair) (k : Link) (x : Option (Message × Way Message)) → (recv_reads_by p k x).send ≡ p.send
hears_by_other p k (Some (Framed frame, rest)) = refl
hears_by_other p k (Some (Piece n, rest)) = refl
hears_by_other p k None = nothing_other p k

takes_by_other : (p : Pair) (k : Link) (x : Option (Message × Way Message)) → (recv_takes_by p k x).send ≡ p.send
takes_by_other p k (Some (Framed frame, rest)) = refl
takes_by_other p k (Some (Piece n, rest)) = refl
takes_by_other p k None = nothing_other p k

hears_other : (p : Pair) (k : Option Link) → (recv_reads p k).send ≡ p.send
hears_other p None = refl
hears_other p (Some k) = hears_by_other p k (front size_down k.down)

takes_other : (p : Pair) (k : Option Link) → (recv_takes p k).send ≡ p.send
takes_other p None = refl
takes_other p (Some k) = takes_by_other p k (front size_down k.down)

receives_other : (p : Pair) (act : RecvAct) → (recv_does p act).send ≡ p.send
receives_other p recv_acts.Accept = accepts_other p p.refusals
receives_other p (recv_acts.Write frame) = answers_other p frame p.taken
receives_other p recv_acts.Read = hears_other p p.taken
receives_other p (recv_acts.TakePiece n) = takes_other p p.taken
receives_other p recv_acts.Park = refl
receives_other p recv_acts.Stop = refl

-- ---- the receiver's lane takes a step

-- one that doesn't wait for other lanes
acts_by : (w : PlainWorld) (l : ℕ) (broken : Option ℕ) (act : RecvAct) → is_parked (RecvDoes act) ≡ false → recv_steps_by w l broken (RecvDoes act) ≡ with_pair w l (recv_does (pair_at w l) act)
acts_by w l broken recv_acts.Accept here = refl
acts_by w l broken (recv_acts.Write frame) here = refl
acts_by w l broken recv_acts.Read here = refl
acts_by w l broken (recv_acts.TakePiece n) here = refl
acts_by w l broken recv_acts.Park here = absurd (no_park here) where
  no_park : true ≡ false → ⊥
  no_park e = cc
acts_by w l broken recv_acts.Stop here = refl

pub received : (Fails : Type 0) (w : PlainWorld) (l : ℕ) (act : RecvAct) (hand : RecvHand) (v : LinesView) → l < length w.pairs → (pair_at w l).recv ≡ RecvDoes act → is_parked (RecvDoes act) ≡ false → ActsRecv (pair_at w l) act hand v
    → StepsRecv Fails w l w.receiver hand v
received Fails w l act hand v less does here a =
    let q : Pair = recv_does (pair_at w l) act in
    let world : with_pair w l q ≡ happens w (Receives l None) = sym (ap (λ (h : RecvHold). recv_steps_by w l None h) does ∙ acts_by w l None act here) in
    let pair : q ≡ pair_at (happens w (Receives l None)) l = sym (pair_there w l q less) ∙ ap (λ (u : PlainWorld). pair_at u l) world in
    record {
      broken = None;
      cause = λ none. absurd (none refl);
      receiver = sym (ap (λ (u : PlainWorld). u.receiver) world);
      held = a.held ∙ ap (λ (r : Pair). r.recv) pair;
      other = sym (ap (λ (r : Pair). r.send) pair) ∙ receives_other (pair_at w l) act;
      shows = subst (ShowsLines v) pair a.shows;
    }

-- something was handed in
gets_by : (Fails : Type 0) (w : PlainWorld) (l : ℕ) (put : Put) (held : RecvHold) (act : RecvAct) (t : PlainReceiver) (v : LinesView) → l < length w.pairs → (pair_at w l).recv ≡ held
    → ((b : Option ℕ) → recv_steps_by w l b held ≡ recv_turned w l (recv_turn w.receiver l put b)) → TurnsRecv Fails w.receiver (number l) (pair_at w l) put act t v → StepsRecv Fails w l t (recv.Does act) v
gets_by Fails w l put held act t v less has by turned =
    let q : Pair = recv_gets (pair_at w l) act in
    let world : (record (with_pair w l q) { receiver = t }) ≡ happens w (Receives l turned.broken) =
    ap (recv_turned w l) (sym turned.step) ∙ (sym (by turned.broken) ∙ sym (ap (λ (h : RecvHold). recv_steps_by w l turned.broken h) has)) in
    let pair : q ≡ pair_at (happens w (Receives l turned.broken)) l = sym (pair_there w l q less) ∙ ap (λ (u : PlainWorld). pair_at u l) world in
    record {
      broken = turned.broken;
      cause = turned.cause;
      receiver = sym (ap (λ (u : PlainWorld). u.receiver) world);
      held = ap (λ (r : Pair). r.recv) pair;
      other = sym (ap (λ (r : Pair). r.send) pair);
      shows = subst (ShowsLines v) pair turned.shows;
    }

pub gave : (Fails : Type 0) (w : PlainWorld) (l : ℕ) (input : RecvIn) (act : RecvAct) (t : PlainReceiver) (v : LinesView) → l < length w.pairs → (pair_at w l).recv ≡ RecvHas input
    → TurnsRecv Fails w.receiver (number l) (pair_at w l) (Given input) act t v → StepsRecv Fails w l t (recv.Does act) v
gave Fails w l input act t v less has turned = gets_by Fails w l (Given input) (RecvHas input) act t v less has (λ b. refl) turned

pub gave_bytes : (Fails : Type 0) (w : PlainWorld) (l n : ℕ) (act : RecvAct) (t : PlainReceiver) (v : LinesView) → l < length w.pairs → (pair_at w l).recv ≡ RecvTook n
    → TurnsRecv Fails w.receiver (number l) (pair_at w l) (Bytes (some_bytes n)) act t v → StepsRecv Fails w l t (recv.Does act) v
gave_bytes Fails w l n act t v less has turned = gets_by Fails w l (Bytes (some_bytes n)) (RecvTook n) act t v less has (λ b. refl) turned
