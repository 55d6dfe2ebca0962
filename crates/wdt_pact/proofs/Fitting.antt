-- What goes down stays in the grammar's ranges, and each end keeps to its limits.
use Rattle.std.proofs.Common.{◌≡◌, ℕ, zero, suc, ◌<◌, ◌≤◌, ◌||◌, ◌&&◌, not, nat_le, Bool, true, false, List, [], ◌∷◌, length, take, slice_get, slice_set, option_map, ◌^◌, ◌-◌, Option, Some, None, subst, sym, ap, ◌∙◌, refl}
use Rattle.std.proofs.lemmas.List.{length-set}
use Rattle.wdt_units.specs.declared.blocks.Header.{Header}
use Rattle.wdt_units.specs.declared.numbers.Lane.{Lane}
use Rattle.wdt_units.specs.Have.{HaveFile}
use Rattle.wdt_codec.specs.Chunks.{FitsChunks}
use Rattle.wdt_codec.specs.declared.frames.Frame.{Frame}
use Rattle.wdt_codec.specs.declared.frames.Frame.TheVariants as frames
use Rattle.wdt_logfmt.specs.View.{NamedFile}
use Rattle.wdt_tree.specs.declared.entry.Entry.{Entry}
use Rattle.wdt_sender_fsm.specs.declared.acts.SendAct.{SendAct}
use Rattle.wdt_sender_fsm.specs.declared.acts.SendAct.TheVariants as acts
use Rattle.wdt_sender_fsm.specs.declared.inputs.SendIn.{SendIn}
use Rattle.wdt_sender_fsm.specs.declared.inputs.SendIn.TheVariants as inputs
use Rattle.wdt_sender_fsm.specs.Phases.{Message, Framed, Piece, pieces_in, pieces_of, written_by}
use Rattle.wdt_sender_fsm.specs.PlainSender.{PlainSender, past_at}
use Rattle.wdt_sender_fsm.specs.Sender.{FitsIn, IsSender}
use Rattle.wdt_sender_fsm.specs.Touches.{Touches}
use Rattle.wdt_sender_fsm.specs.Turn.{send_turn}
use Rattle.wdt_sender_fsm.specs.Writes.{FitsAct, IsLawful}
use Rattle.wdt_receiver_fsm.specs.declared.acts.RecvAct.{RecvAct}
use Rattle.wdt_receiver_fsm.specs.declared.acts.RecvAct.TheVariants as recv_acts
use Rattle.wdt_receiver_fsm.specs.declared.inputs.RecvIn.{RecvIn}
use Rattle.wdt_receiver_fsm.specs.declared.inputs.RecvIn.TheVariants as recv_inputs
use Rattle.wdt_receiver_fsm.specs.Plan.{EndsIn}
use Rattle.wdt_receiver_fsm.specs.PlainReceiver.{PlainReceiver, have_now}
use Rattle.wdt_receiver_fsm.specs.Turn.{Bytes, Given, Put, Step, turn_plan}
use Rattle.wdt_receiver_fsm.specs.Writes.{CanTell, FitsPut}
use Rattle.wdt_receiver_fsm.proofs.ForCallers.{codes_keep, turn_touches}
use Rattle.wdt_pact.specs.Belongs.{RecvFits}
use Rattle.wdt_pact.specs.Each.{Each}
use Rattle.wdt_pact.specs.Fitting.{DownBy, DownOf, FitsDown, FitsMessage, Fitting, GoesDown, SaysOf}
use Rattle.wdt_pact.specs.Links.{Link, Way, cut_link, front, is_cut, note_greeted, size_down, size_up, with_sent}
use Rattle.wdt_pact.specs.Lists.{in_hand}
use Rattle.wdt_pact.specs.Pairs.{Pair, RecvHold, RecvDoes, RecvHas, RecvTook, SendHold, SendDoes, SendHas, cuts_by, noted_below, put_newest, put_taken, recv_accepts, recv_accepts_by, recv_does, recv_gets, recv_nothing, recv_reads, recv_reads_by, recv_stops, recv_takes, recv_takes_by, recv_writes, recv_wrote_or_lost, send_dials, send_does, send_left, send_loses, send_reads, send_reads_by, send_sends, send_stops, send_takes, send_writes, top, top_by, waits, with_top, wrote_or_lost}
use Rattle.wdt_pact.specs.World.{PlainWorld, number, pair_at, pair_or, recv_steps, recv_steps_by, recv_turn, recv_turned, recv_woken, send_steps, send_steps_by, some_bytes, with_pair}
use Rattle.wdt_pact.specs.Conversation.{Conversation}
use Rattle.wdt_pact.proofs.Below.{if_has}
use Rattle.wdt_pact.proofs.Frame.{each_pair}
use Rattle.wdt_pact.proofs.Lists.{Each-append, Each-take, IsPiece, are_pieces}
use Rattle.wdt_pact.proofs.Reading.{front_head}
use Rattle.wdt_pact.proofs.RecvRows.{ends_in, have_stays}

-- ---- messages of a kind, of which each piece is

module _ (P : Message → Type 0) (pieces : (n : ℕ) → P (Piece n)) where
  abbrev Goes : Pair → Type 0
  Goes = GoesDown P

  -- ---- what the receiver's lane does

  front_down : (k : Link) (m : Message) (rest : Way Message) → front size_down k.down ≡ Some (m, rest) → DownOf P k → P m × Each P rest.sent
  front_down k m rest e d = subst (λ (ms : List Message). Each P ms) (front_head size_down k.down.sent k.down.room m rest e) d

  no_hand : (b : Bool) → Each P (in_hand (RecvHas (recv_wrote_or_lost b)))
  no_hand true = tt
  no_hand false = tt

  nothing_down : (p : Pair) (k : Link) → Goes p → Goes (recv_nothing p k)
  nothing_down p k d = if_has Goes (is_cut k.down || send_left p.newest p.send) (record p { recv = RecvHas recv_inputs.Lost }) p record { hand = tt; says = d.says; taken = d.taken; between = d.between; newest = d.newest } d

  reads_down : (p : Pair) (taken : Option Link) → DownBy P taken → Goes p → Goes (recv_reads p taken)
  reads_down p None t d = d
  reads_down p (Some k) t d = go (front size_down k.down) refl where
    go : (o : Option (Message × Way Message)) → front size_down k.down ≡ o → Goes (recv_reads_by p k o)
    go (Some (Framed f, rest)) e = let x = front_down k (Framed f) rest e t in record { hand = (x.0, tt); says = d.says; taken = x.1; between = d.between; newest = d.newest }
    go (Some (Piece n, rest)) e = d
    go None e = nothing_down p k d

  takes_down : (p : Pair) (taken : Option Link) → DownBy P taken → Goes p → Goes (recv_takes p taken)
  takes_down p None t d = d
  takes_down p (Some k) t d = go (front size_down k.down) refl where
    go : (o : Option (Message × Way Message)) → front size_down k.down ≡ o → Goes (recv_takes_by p k o)
    go (Some (Piece n, rest)) e = let x = front_down k (Piece n) rest e t in record { hand = tt; says = d.says; taken = x.1; between = d.between; newest = d.newest }
    go (Some (Framed f, rest)) e = d
    go None e = nothing_down p k d

  writes_down : (p : Pair) (f : Frame) (taken : Option Link) → DownBy P taken → Goes p → Goes (recv_writes p f taken)
  writes_down p f None t d = d
  writes_down p f (Some k) t d = record { hand = no_hand (not (is_cut k.up) && not (send_left p.newest p.send)); says = d.says; taken = t; between = d.between; newest = d.newest }

  accepts_down : (p : Pair) (between : List Link) (newest : Option Link) → Each (DownOf P) between → DownBy P newest → Goes p → Goes (recv_accepts_by p between newest)
  accepts_down p (k ∷ ks) newest b n d = record { hand = tt; says = d.says; taken = b.0; between = b.1; newest = d.newest }
  accepts_down p [] (Some k) b n d = record { hand = tt; says = d.says; taken = n; between = d.between; newest = tt }
  accepts_down p [] None b n d = if_has Goes (send_stops p.send) (record p { recv = RecvHas recv_inputs.NoLink }) p record { hand = tt; says = d.says; taken = d.taken; between = d.between; newest = d.newest } d

  tries_down : (p : Pair) (n : ℕ) → Goes p → Goes (recv_accepts p n)
  tries_down p (suc n) d = record { hand = tt; says = d.says; taken = d.taken; between = d.between; newest = d.newest }
  tries_down p zero d = accepts_down p p.between p.newest d.between d.newest d

  pub recv_does_down : (p : Pair) (act : RecvAct) → Goes p → Goes (recv_does p act)
  recv_does_down p recv_acts.Accept d = tries_down p p.refusals d
  recv_does_down p (recv_acts.Write f) d = writes_down p f p.taken d.taken d
  recv_does_down p recv_acts.Read d = reads_down p p.taken d.taken d
  recv_does_down p (recv_acts.TakePiece n) d = takes_down p p.taken d.taken d
  recv_does_down p recv_acts.Park d = d
  recv_does_down p recv_acts.Stop d = d

  -- ---- what the sender's lane does

  more_down : (k : Link) (ms : List Message) → Each P ms → DownOf P k → DownOf P (record k { down = with_sent k.down ms })
  more_down k ms e d = Each-append P k.down.sent ms d e

  -- the sender's connection stands so now
  top_down : (p : Pair) (k : Link) (sh : SendHold) (rh : RecvHold) → DownOf P k → Each P (in_hand rh) → SaysOf P sh → Goes p → Goes (record (with_top p k) { send = sh; recv = rh })
  top_down p k sh rh t h s d = record { hand = h; says = s; taken = taken p.newest d.taken; between = d.between; newest = newest p.newest } where
    taken : (o : Option Link) → DownBy P p.taken → DownBy P (put_taken o p.taken k)
    taken None e = t
    taken (Some j) e = e

    newest : (o : Option Link) → DownBy P (put_newest o k)
    newest None = tt
    newest (Some j) = t

  wrote_fits : (b : Bool) → SaysOf P (SendHas (wrote_or_lost b))
  wrote_fits true = tt
  wrote_fits false = tt

  pub tops : (newest taken : Option Link) → DownBy P newest → DownBy P taken → DownBy P (top_by newest taken)
  tops None taken n t = t
  tops (Some k) taken n t = n

  send_writes_down : (p : Pair) (ms : List Message) (k : Option Link) → DownBy P k → Each P ms → Goes p → Goes (send_writes p ms k)
  send_writes_down p ms None t e d = d
  send_writes_down p ms (Some k) t e d =
      top_down p (record k { down = with_sent k.down ms }) (SendHas (wrote_or_lost (not (is_cut k.down) && not (recv_stops p.recv)))) p.recv (more_down k ms e t) d.hand (wrote_fits (not (is_cut k.down) && not (recv_stops p.recv))) d

  send_loses_down : (p : Pair) (k : Option Link) (ms : List Message) (unwritten : Bool) → DownBy P k → Each P ms → Goes p → Goes (send_loses p k ms unwritten)
  send_loses_down p None ms unwritten t e d = d
  send_loses_down p (Some k) ms unwritten t e d = top_down p (record k { down = with_sent k.down ms }) (SendHas (inputs.SourceLost unwritten)) p.recv (more_down k ms e t) d.hand tt d

  pieces_fit : (ms : List Message) → Each IsPiece ms → Each P ms
  pieces_fit [] e = tt
  pieces_fit (Piece n ∷ ms) e = (pieces n, pieces_fit ms e.1)
  pieces_fit (Framed f ∷ ms) e = absurd e.0

  block_fits : (h : Header) → P (Framed (frames.Block h)) → Each P (written_by (acts.SendBlock h))
  block_fits h f = (f, pieces_fit (pieces_of h.length) (are_pieces h.length (pieces_in h.length)))

  send_sends_down : (p : Pair) (h : Header) (lost : Option ℕ) → P (Framed (frames.Block h)) → Goes p → Goes (send_sends p h lost)
  send_sends_down p h None f d = send_writes_down p (written_by (acts.SendBlock h)) (top p) (tops p.newest p.taken d.newest d.taken) (block_fits h f) d
  send_sends_down p h (Some zero) f d =
      if_has Goes (nat_le (pieces_in h.length) 0) (send_writes p (written_by (acts.SendBlock h)) (top p)) (send_loses p (top p) [] true)
      (send_writes_down p (written_by (acts.SendBlock h)) (top p) (tops p.newest p.taken d.newest d.taken) (block_fits h f) d) (send_loses_down p (top p) [] true (tops p.newest p.taken d.newest d.taken) tt d)
  send_sends_down p h (Some (suc k)) f d =
      if_has Goes (nat_le (pieces_in h.length) (suc k)) (send_writes p (written_by (acts.SendBlock h)) (top p)) (send_loses p (top p) (take (suc (suc k)) (written_by (acts.SendBlock h))) false)
      (send_writes_down p (written_by (acts.SendBlock h)) (top p) (tops p.newest p.taken d.newest d.taken) (block_fits h f) d)
      (send_loses_down p (top p) (take (suc (suc k)) (written_by (acts.SendBlock h))) false (tops p.newest p.taken d.newest d.taken) (Each-take P (suc (suc k)) (written_by (acts.SendBlock h)) (block_fits h f)) d)

  send_reads_down : (p : Pair) (k : Option Link) → DownBy P k → Goes p → Goes (send_reads p k)
  send_reads_down p None t d = d
  send_reads_down p (Some k) t d = go (front size_up k.up) where
    go : (o : Option (Frame × Way Frame)) → Goes (send_reads_by p k o)
    go (Some x) = top_down p (record k { up = x.1 }) (SendHas (inputs.Got x.0)) p.recv t d.hand tt d
    go None = if_has Goes (is_cut k.up || recv_stops p.recv) (record p { send = SendHas inputs.Lost }) p record { hand = d.hand; says = tt; taken = d.taken; between = d.between; newest = d.newest } d

  waits_fit : (o : Option Link) → DownBy P o → Each (DownOf P) (waits o)
  waits_fit None e = tt
  waits_fit (Some k) e = (e, tt)

  send_dials_down : (p : Pair) (n : ℕ) (stopped : Bool) → Goes p → Goes (send_dials p n stopped)
  send_dials_down p (suc n) stopped d = record { hand = d.hand; says = tt; taken = d.taken; between = d.between; newest = d.newest }
  send_dials_down p zero true d = record { hand = d.hand; says = tt; taken = d.taken; between = d.between; newest = d.newest }
  send_dials_down p zero false d = record { hand = d.hand; says = tt; taken = d.taken; between = Each-append (DownOf P) p.between (waits p.newest) d.between (waits_fit p.newest d.newest); newest = tt }

  pub send_does_down : (p : Pair) (lost : Option ℕ) (act : SendAct) → SaysOf P (SendDoes act) → Goes p → Goes (send_does p lost act)
  send_does_down p lost (acts.Dial conn) f d = send_dials_down p p.denies (recv_stops p.recv) d
  send_does_down p lost (acts.Write frame) f d = send_writes_down p (Framed frame ∷ []) (top p) (tops p.newest p.taken d.newest d.taken) (f, tt) d
  send_does_down p lost (acts.SendBlock h) f d = send_sends_down p h lost f d
  send_does_down p lost acts.Read f d = send_reads_down p (top p) (tops p.newest p.taken d.newest d.taken) d
  send_does_down p lost acts.Stop f d = d

  noted_fits : (b : Bool) (o : Option Link) → DownBy P o → DownBy P (option_map (note_greeted b) o)
  noted_fits b None e = tt
  noted_fits b (Some k) e = e

  pub takes_fits : (p : Pair) (input : SendIn) (b : Bool) (act : SendAct) → SaysOf P (SendDoes act) → Goes p → Goes (send_takes p input b act)
  takes_fits p (inputs.Got f) b act s d = record { hand = d.hand; says = s; taken = below p.newest; between = d.between; newest = noted_fits b p.newest d.newest } where
    below : (o : Option Link) → DownBy P (noted_below o b p.taken)
    below None = noted_fits b p.taken d.taken
    below (Some t) = d.taken
  takes_fits p input b act s d = record { hand = d.hand; says = s; taken = d.taken; between = d.between; newest = d.newest }

  -- a cut leaves what was written
  pub cuts_fit : (p : Pair) (d u : ℕ) (o : Option Link) → DownBy P o → Goes p → Goes (cuts_by p d u o)
  cuts_fit p d u None t f = f
  cuts_fit p d u (Some k) t f = top_down p (cut_link d u k) p.send p.recv t f.hand f.says f

-- ---- in a world

pub any_piece : (n : ℕ) → FitsMessage (Piece n)
any_piece n = tt

-- each lane's, where one lane's pair is another
pub pair_fits : (ps : List Pair) (l : ℕ) (p : Pair) → l < length ps → FitsDown p → ((k : ℕ) → k < length ps → FitsDown (pair_or (slice_get ps k))) → (k : ℕ) → k < length (slice_set ps l p) → FitsDown (pair_or (slice_get (slice_set ps l p) k))
pair_fits ps l p within own all k below = each_pair (λ (i : ℕ) (q : Pair). FitsDown q) ps l p within own (λ i b ne. all i b) k (subst (λ (n : ℕ). k < n) (length-set ps l p) below)

pub with_fits : (w : PlainWorld) (l : ℕ) (p : Pair) → l < length w.pairs → FitsDown p → Fitting w → Fitting (with_pair w l p)
with_fits w l p within d f = record { sender = f.sender; stamps = f.stamps; receiver = f.receiver; down = pair_fits w.pairs l p within d f.down }

-- what a lane has read fits
pub read_fits : (p : Pair) → FitsDown p → RecvFits p.recv
read_fits p d = go p.recv d.hand where
  go : (h : RecvHold) → Each FitsMessage (in_hand h) → RecvFits h
  go (RecvHas (recv_inputs.Got f)) e = e.0
  go h e = tt

-- what the receiver can tell it can tell behind its steps
can_tell : (r : PlainReceiver) (l : ℕ) (put : Put) (step : Step) → FitsPut put → CanTell r → EndsIn (Unit {0}) (turn_plan r (number l) put) step → CanTell step.1
can_tell r l put step fits t ends =
    let touches = turn_touches r (number l) put step ends in
    record {
      have = subst (λ (h : List HaveFile). FitsChunks h) (sym (ap (λ (o : List NamedFile). have_now o step.1.history) touches.opening ∙ have_stays r.opening step.1.history r.history)) t.have;
      code = codes_keep r (number l) put step fits t.code ends;
    }

woken_fits : (w : PlainWorld) (l : ℕ) (act : RecvAct) (r : PlainReceiver) → Fitting w → Fitting (recv_turned w l (act, r)) → Fitting (recv_woken w l (act, r))
woken_fits w l recv_acts.Park r f x = f
woken_fits w l act r f x = x

pub recv_fits : (w : PlainWorld) (l : ℕ) (broken : Option ℕ) → l < length w.pairs → Fitting w → Fitting (recv_steps w l broken)
recv_fits w l broken within f = go (pair_at w l).recv refl where
  d : FitsDown (pair_at w l)
  d = f.down l within

  turns : (put : Put) → FitsPut put → Fitting (recv_turned w l (recv_turn w.receiver l put broken))
  turns put fits = record {
    sender = f.sender;
    stamps = f.stamps;
    receiver = can_tell w.receiver l put (recv_turn w.receiver l put broken) fits f.receiver (ends_in (turn_plan w.receiver (number l) put) broken);
    down = pair_fits w.pairs l (recv_gets (pair_at w l) (recv_turn w.receiver l put broken).0) within record { hand = tt; says = d.says; taken = d.taken; between = d.between; newest = d.newest } f.down;
  }

  acts_so : (act : RecvAct) → Fitting (with_pair w l (recv_does (pair_at w l) act))
  acts_so act = with_fits w l (recv_does (pair_at w l) act) within (recv_does_down FitsMessage any_piece (pair_at w l) act d) f

  input_fits : (i : RecvIn) → RecvFits (RecvHas i) → FitsPut (Given i)
  input_fits (recv_inputs.Got frame) e = e
  input_fits i e = tt

  go : (h : RecvHold) → (pair_at w l).recv ≡ h → Fitting (recv_steps w l broken)
  go (RecvDoes recv_acts.Park) is =
      subst (λ (x : RecvHold). Fitting (recv_steps_by w l broken x)) (sym is)
      (woken_fits w l (recv_turn w.receiver l (Given recv_inputs.Woken) broken).0 (recv_turn w.receiver l (Given recv_inputs.Woken) broken).1 f (turns (Given recv_inputs.Woken) tt))
  go (RecvDoes recv_acts.Accept) is = subst (λ (x : RecvHold). Fitting (recv_steps_by w l broken x)) (sym is) (acts_so recv_acts.Accept)
  go (RecvDoes (recv_acts.Write frame)) is = subst (λ (x : RecvHold). Fitting (recv_steps_by w l broken x)) (sym is) (acts_so (recv_acts.Write frame))
  go (RecvDoes recv_acts.Read) is = subst (λ (x : RecvHold). Fitting (recv_steps_by w l broken x)) (sym is) (acts_so recv_acts.Read)
  go (RecvDoes (recv_acts.TakePiece n)) is = subst (λ (x : RecvHold). Fitting (recv_steps_by w l broken x)) (sym is) (acts_so (recv_acts.TakePiece n))
  go (RecvDoes recv_acts.Stop) is = subst (λ (x : RecvHold). Fitting (recv_steps_by w l broken x)) (sym is) (acts_so recv_acts.Stop)
  go (RecvHas i) is = subst (λ (x : RecvHold). Fitting (recv_steps_by w l broken x)) (sym is) (turns (Given i) (input_fits i (subst RecvFits is (read_fits (pair_at w l) d))))
  go (RecvTook n) is = subst (λ (x : RecvHold). Fitting (recv_steps_by w l broken x)) (sym is) (turns (Bytes (some_bytes n)) tt)

-- the sender's act fits
act_fits : (manifest : List Entry) (act : SendAct) → ((file : ℕ) (entry : Entry) → slice_get manifest file ≡ Some entry → entry.stamp ≤ 2 ^ 64 - 1) → FitsAct manifest act → SaysOf FitsMessage (SendDoes act)
act_fits manifest (acts.Write frame) stamps f = f.0
act_fits manifest (acts.SendBlock h) stamps f = f.0 (subst (λ (n : ℕ). n ≤ 2 ^ 64 - 1) (sym f.1.stamp) (stamps f.1.file f.1.entry f.1.there))
act_fits manifest act stamps f = tt

pub send_fits : ((s : PlainSender) (k : Lane) (i : SendIn) → IsSender s → IsLawful s → k.0 < length s.lanes → FitsIn i → FitsAct s.manifest (send_turn s k i).0) → ((s : PlainSender) (k : Lane) (i : SendIn) → IsLawful s → IsLawful (send_turn s k i).1)
    → ((s : PlainSender) (k : Lane) (i : SendIn) → Touches s k i (send_turn s k i).1) → (w : PlainWorld) (l : ℕ) (lost : Option ℕ) → Conversation w → ((i : SendIn) → (pair_at w l).send ≡ SendHas i → FitsIn i) → l < length w.pairs → Fitting w → Fitting (send_steps w l lost)
send_fits writes lawful touches w l lost c reads within f = go (pair_at w l).send refl where
  d : FitsDown (pair_at w l)
  d = f.down l within

  go : (h : SendHold) → (pair_at w l).send ≡ h → Fitting (send_steps w l lost)
  go (SendDoes act) is = subst (λ (x : SendHold). Fitting (send_steps_by w l lost x)) (sym is) (with_fits w l (send_does (pair_at w l) lost act) within (send_does_down FitsMessage any_piece (pair_at w l) lost act (subst (SaysOf FitsMessage) is d.says) d) f)
  go (SendHas i) is =
      subst (λ (x : SendHold). Fitting (send_steps_by w l lost x)) (sym is)
      record {
        sender = lawful w.sender (number l) i f.sender;
        stamps = subst (λ (m : List Entry). (file : ℕ) (entry : Entry) → slice_get m file ≡ Some entry → entry.stamp ≤ 2 ^ 64 - 1) (sym (touches w.sender (number l) i).manifest) f.stamps;
        receiver = f.receiver;
        down = pair_fits w.pairs l (send_takes (pair_at w l) i (past_at (send_turn w.sender (number l) i).1 l).is_greeted (send_turn w.sender (number l) i).0) within
            (takes_fits FitsMessage any_piece (pair_at w l) i (past_at (send_turn w.sender (number l) i).1 l).is_greeted (send_turn w.sender (number l) i).0 (act_fits w.sender.manifest (send_turn w.sender (number l) i).0 f.stamps (writes w.sender (number l) i c.sender f.sender (subst (λ (n : ℕ). l < n) (sym c.send_lanes) within) (reads i is))) d) f.down;
      }
