-- Whatever happens to a world, it stays sound.
use Rattle.std.proofs.Common.{◌≡◌, ℕ, zero, suc, ◌<◌, ◌||◌, nat_le, Bool, true, false, if◌then◌else◌, List, [], ◌∷◌, length, take, Option, Some, None, subst, sym, refl}
use Rattle.wdt_units.specs.declared.blocks.Block.{Block}
use Rattle.wdt_units.specs.declared.blocks.Header.{Header}
use Rattle.wdt_units.specs.declared.numbers.Lane.{Lane}
use Rattle.wdt_codec.specs.declared.frames.Frame.{Frame}
use Rattle.wdt_sender_fsm.specs.declared.acts.SendAct.{SendAct}
use Rattle.wdt_sender_fsm.specs.declared.acts.SendAct.TheVariants as acts
use Rattle.wdt_sender_fsm.specs.declared.events.SendEvent.{SendEvent}
use Rattle.wdt_sender_fsm.specs.declared.inputs.SendIn.{SendIn}
use Rattle.wdt_sender_fsm.specs.declared.inputs.SendIn.TheVariants as inputs
use Rattle.wdt_sender_fsm.specs.declared.states.SendState.{SendState}
use Rattle.wdt_receiver_fsm.specs.declared.states.RecvState.{RecvState}
use Rattle.wdt_sender_fsm.specs.Legal.{IsLegal, IsSound as IsSoundLane}
use Rattle.wdt_sender_fsm.specs.Phases.{Framed, Message, Piece, pieces_in, written_by}
use Rattle.wdt_sender_fsm.specs.PlainSender as sender
use Rattle.wdt_sender_fsm.specs.PlainSender.{PlainSender}
use Rattle.wdt_sender_fsm.specs.Reasons.{Comes}
use Rattle.wdt_sender_fsm.specs.Sender.{FitsIn, IsSender}
use Rattle.wdt_sender_fsm.specs.SenderHistory.{past_of as sent_past}
use Rattle.wdt_sender_fsm.specs.Touches.{Touches}
use Rattle.wdt_sender_fsm.specs.Turn.{send_turn}
use Rattle.wdt_sender_fsm.specs.Writes.{FitsAct, IsLawful}
use Rattle.wdt_receiver_fsm.specs.declared.acts.RecvAct.{RecvAct}
use Rattle.wdt_receiver_fsm.specs.declared.acts.RecvAct.TheVariants as recv_acts
use Rattle.wdt_receiver_fsm.specs.declared.inputs.RecvIn.TheVariants as recv_inputs
use Rattle.wdt_receiver_fsm.specs.PlainReceiver as recv
use Rattle.wdt_receiver_fsm.specs.PlainReceiver.{PlainReceiver}
use Rattle.wdt_receiver_fsm.specs.Turn.{Bytes, Given, Put}
use Rattle.wdt_pact.specs.Belongs.{RecvBelongs, RecvBelongsAt, SendBelongs, SendBelongsAt}
use Rattle.wdt_pact.specs.Finishing.{Finishing}
use Rattle.wdt_pact.specs.Fitting.{FitsDown, FitsMessage, IsSound, lane_of}
use Rattle.wdt_pact.specs.Links.{Link, Way, front, is_cut, size_down, size_up}
use Rattle.wdt_pact.specs.Pairs.{Pair, RecvHold, RecvDoes, RecvHas, RecvTook, SendHold, SendDoes, SendHas, cuts_by, recv_accepts, recv_accepts_by, recv_does, recv_gets, recv_nothing, recv_reads, recv_reads_by, recv_stops, recv_takes, recv_takes_by, recv_writes, send_dials, send_does, send_left, send_loses, send_reads, send_reads_by, send_sends, send_stops, send_takes, send_writes, top}
use Rattle.wdt_pact.specs.World.{PlainWorld, WorldEvent, Sends, Receives, Cut, Deny, Refuse, happens, number, pair_at, recv_steps, recv_steps_by, recv_turn, recv_turned, recv_woken, send_steps, send_steps_by, some_bytes, with_pair}
use Rattle.wdt_pact.specs.Conversation.{Common, Converses, Receiving, Sending, common, receiving, sending}
use Rattle.wdt_pact.proofs.Below.{if_has}
use Rattle.wdt_pact.proofs.Connecting.{cut_keeps}
use Rattle.wdt_pact.proofs.CutLaw.{AllSplit, pair_splits, recv_splits, send_splits}
use Rattle.wdt_pact.proofs.CutSteps.{cuts_split}
use Rattle.wdt_pact.proofs.Cuts.{IsSplit}
use Rattle.wdt_pact.proofs.Fitting.{any_piece, cuts_fit, read_fits, recv_fits, send_fits, tops, with_fits}
use Rattle.wdt_pact.proofs.Frame.{pair_keeps}
use Rattle.wdt_pact.proofs.Promised.{SenderKeeps}
use Rattle.wdt_pact.proofs.RecvBelonging.{pair_belongs as recv_pair_belongs, recv_belongs}
use Rattle.wdt_pact.proofs.RecvLaw.{recv_keeps}
use Rattle.wdt_pact.proofs.SendLaw.{fits as what_is_read_fits, pair_belongs as send_pair_belongs, send_belongs, send_keeps}

-- ---- what an act of one end leaves of the other's

-- a record of pairs says so of both choices
same_if : {A : Type 0} (f : Pair → A) (x : A) (b : Bool) (p q : Pair) → f p ≡ x → f q ≡ x → f (if b then p else q) ≡ x
same_if f x b p q e g = if_has (λ (y : Pair). f y ≡ x) b p q e g

writes_recv : (p : Pair) (ms : List Message) (k : Option Link) → (send_writes p ms k).recv ≡ p.recv
writes_recv p ms None = refl
writes_recv p ms (Some k) = refl

loses_recv : (p : Pair) (k : Option Link) (ms : List Message) (u : Bool) → (send_loses p k ms u).recv ≡ p.recv
loses_recv p None ms u = refl
loses_recv p (Some k) ms u = refl

reads_recv : (p : Pair) (k : Option Link) → (send_reads p k).recv ≡ p.recv
reads_recv p None = refl
reads_recv p (Some k) = go (front size_up k.up) where
  go : (o : Option (Frame × Way Frame)) → (send_reads_by p k o).recv ≡ p.recv
  go (Some x) = refl
  go None = same_if (λ (y : Pair). y.recv) p.recv (is_cut k.up || recv_stops p.recv) (record p { send = SendHas inputs.Lost }) p refl refl

dials_recv : (p : Pair) (n : ℕ) (stopped : Bool) → (send_dials p n stopped).recv ≡ p.recv
dials_recv p (suc n) stopped = refl
dials_recv p zero true = refl
dials_recv p zero false = refl

sends_recv : (p : Pair) (h : Header) (lost : Option ℕ) → (send_sends p h lost).recv ≡ p.recv
sends_recv p h None = writes_recv p (written_by (acts.SendBlock h)) (top p)
sends_recv p h (Some zero) = same_if (λ (y : Pair). y.recv) p.recv (nat_le (pieces_in h.length) 0) (send_writes p (written_by (acts.SendBlock h)) (top p)) (send_loses p (top p) [] true) (writes_recv p (written_by (acts.SendBlock h)) (top p)) (loses_recv p (top p) [] true)
sends_recv p h (Some (suc k)) =
    same_if (λ (y : Pair). y.recv) p.recv (nat_le (pieces_in h.length) (suc k)) (send_writes p (written_by (acts.SendBlock h)) (top p)) (send_loses p (top p) (take (suc (suc k)) (written_by (acts.SendBlock h))) false)
    (writes_recv p (written_by (acts.SendBlock h)) (top p)) (loses_recv p (top p) (take (suc (suc k)) (written_by (acts.SendBlock h))) false)

pub does_recv : (p : Pair) (lost : Option ℕ) (act : SendAct) → (send_does p lost act).recv ≡ p.recv
does_recv p lost (acts.Dial conn) = dials_recv p p.denies (recv_stops p.recv)
does_recv p lost (acts.Write frame) = writes_recv p (Framed frame ∷ []) (top p)
does_recv p lost (acts.SendBlock h) = sends_recv p h lost
does_recv p lost acts.Read = reads_recv p (top p)
does_recv p lost acts.Stop = refl

nothing_send : (p : Pair) (k : Link) → (recv_nothing p k).send ≡ p.send
nothing_send p k = same_if (λ (y : Pair). y.send) p.send (is_cut k.down || send_left p.newest p.send) (record p { recv = RecvHas recv_inputs.Lost }) p refl refl

recv_reads_send : (p : Pair) (k : Option Link) → (recv_reads p k).send ≡ p.send
recv_reads_send p None = refl
recv_reads_send p (Some k) = go (front size_down k.down) where
  go : (o : Option (Message × Way Message)) → (recv_reads_by p k o).send ≡ p.send
  go (Some (Framed f, rest)) = refl
  go (Some (Piece n, rest)) = refl
  go None = nothing_send p k

recv_takes_send : (p : Pair) (k : Option Link) → (recv_takes p k).send ≡ p.send
recv_takes_send p None = refl
recv_takes_send p (Some k) = go (front size_down k.down) where
  go : (o : Option (Message × Way Message)) → (recv_takes_by p k o).send ≡ p.send
  go (Some (Framed f, rest)) = refl
  go (Some (Piece n, rest)) = refl
  go None = nothing_send p k

recv_writes_send : (p : Pair) (f : Frame) (k : Option Link) → (recv_writes p f k).send ≡ p.send
recv_writes_send p f None = refl
recv_writes_send p f (Some k) = refl

accepts_send : (p : Pair) (between : List Link) (newest : Option Link) → (recv_accepts_by p between newest).send ≡ p.send
accepts_send p (k ∷ ks) newest = refl
accepts_send p [] (Some k) = refl
accepts_send p [] None = same_if (λ (y : Pair). y.send) p.send (send_stops p.send) (record p { recv = RecvHas recv_inputs.NoLink }) p refl refl

tries_send : (p : Pair) (n : ℕ) → (recv_accepts p n).send ≡ p.send
tries_send p (suc n) = refl
tries_send p zero = accepts_send p p.between p.newest

pub does_send : (p : Pair) (act : RecvAct) → (recv_does p act).send ≡ p.send
does_send p recv_acts.Accept = tries_send p p.refusals
does_send p (recv_acts.Write f) = recv_writes_send p f p.taken
does_send p recv_acts.Read = recv_reads_send p p.taken
does_send p (recv_acts.TakePiece n) = recv_takes_send p p.taken
does_send p recv_acts.Park = refl
does_send p recv_acts.Stop = refl

-- ---- what the other end's lanes hold

abbrev RecvAll : PlainWorld → Type 0
RecvAll w = (k : ℕ) → k < length w.pairs → RecvBelongsAt w k

abbrev SendAll : PlainWorld → Type 0
SendAll w = (k : ℕ) → k < length w.pairs → SendBelongsAt w k

keeps_recv : (w : PlainWorld) (l : ℕ) (p : Pair) → l < length w.pairs → p.recv ≡ (pair_at w l).recv → RecvAll w → RecvAll (with_pair w l p)
keeps_recv w l p within same all = recv_pair_belongs w l p within all (subst (λ (x : RecvHold). RecvBelongs x (recv.lane_at w.receiver l) (recv.past_at w.receiver l)) (sym same) (all l within))

keeps_send : (w : PlainWorld) (l : ℕ) (p : Pair) → l < length w.pairs → p.send ≡ (pair_at w l).send → SendAll w → SendAll (with_pair w l p)
keeps_send w l p within same all = send_pair_belongs w l p within all (subst (λ (x : SendHold). SendBelongs x (sender.lane_at w.sender l)) (sym same) (all l within))

send_leaves_recv : (w : PlainWorld) (l : ℕ) (lost : Option ℕ) → l < length w.pairs → RecvAll w → RecvAll (send_steps w l lost)
send_leaves_recv w l lost within all = go (pair_at w l).send refl where
  go : (h : SendHold) → (pair_at w l).send ≡ h → RecvAll (send_steps w l lost)
  go (SendDoes act) is = subst (λ (x : SendHold). RecvAll (send_steps_by w l lost x)) (sym is) (keeps_recv w l (send_does (pair_at w l) lost act) within (does_recv (pair_at w l) lost act) all)
  go (SendHas i) is =
      subst (λ (x : SendHold). RecvAll (send_steps_by w l lost x)) (sym is)
      (keeps_recv w l (send_takes (pair_at w l) i (sender.past_at (send_turn w.sender (number l) i).1 l).is_greeted (send_turn w.sender (number l) i).0) within refl all)

woken_leaves : (w : PlainWorld) (l : ℕ) (act : RecvAct) (r : PlainReceiver) → SendAll w → SendAll (recv_turned w l (act, r)) → SendAll (recv_woken w l (act, r))
woken_leaves w l recv_acts.Park r all x = all
woken_leaves w l act r all x = x

recv_leaves_send : (w : PlainWorld) (l : ℕ) (broken : Option ℕ) → l < length w.pairs → SendAll w → SendAll (recv_steps w l broken)
recv_leaves_send w l broken within all = go (pair_at w l).recv refl where
  acts_so : (act : RecvAct) → SendAll (with_pair w l (recv_does (pair_at w l) act))
  acts_so act = keeps_send w l (recv_does (pair_at w l) act) within (does_send (pair_at w l) act) all

  turns : (put : Put) → SendAll (recv_turned w l (recv_turn w.receiver l put broken))
  turns put = keeps_send w l (recv_gets (pair_at w l) (recv_turn w.receiver l put broken).0) within refl all

  go : (h : RecvHold) → (pair_at w l).recv ≡ h → SendAll (recv_steps w l broken)
  go (RecvDoes recv_acts.Park) is =
      subst (λ (x : RecvHold). SendAll (recv_steps_by w l broken x)) (sym is)
      (woken_leaves w l (recv_turn w.receiver l (Given recv_inputs.Woken) broken).0 (recv_turn w.receiver l (Given recv_inputs.Woken) broken).1 all (turns (Given recv_inputs.Woken)))
  go (RecvDoes recv_acts.Accept) is = subst (λ (x : RecvHold). SendAll (recv_steps_by w l broken x)) (sym is) (acts_so recv_acts.Accept)
  go (RecvDoes (recv_acts.Write frame)) is = subst (λ (x : RecvHold). SendAll (recv_steps_by w l broken x)) (sym is) (acts_so (recv_acts.Write frame))
  go (RecvDoes recv_acts.Read) is = subst (λ (x : RecvHold). SendAll (recv_steps_by w l broken x)) (sym is) (acts_so recv_acts.Read)
  go (RecvDoes (recv_acts.TakePiece n)) is = subst (λ (x : RecvHold). SendAll (recv_steps_by w l broken x)) (sym is) (acts_so (recv_acts.TakePiece n))
  go (RecvDoes recv_acts.Stop) is = subst (λ (x : RecvHold). SendAll (recv_steps_by w l broken x)) (sym is) (acts_so recv_acts.Stop)
  go (RecvHas i) is = subst (λ (x : RecvHold). SendAll (recv_steps_by w l broken x)) (sym is) (turns (Given i))
  go (RecvTook n) is = subst (λ (x : RecvHold). SendAll (recv_steps_by w l broken x)) (sym is) (turns (Bytes (some_bytes n)))

-- ---- tries that fail

-- nothing is said of how many do
tries_here : (g : Common) (l : ℕ) (s : Sending) (r : Receiving) (p : Pair) (n m : ℕ) → Converses g l s r p → Converses g l s r (record p { denies = n; refusals = m })
tries_here g l s r p n m c =
    record { agrees = c.agrees; lists = c.lists; sure = c.sure; upward = c.upward; fits = c.fits; notes = c.notes; closed = c.closed; asked = c.asked; finished = c.finished; pieces = c.pieces; waits = c.waits; idle = c.idle; shut = c.shut; heard_up = c.heard_up; heard_down = c.heard_down }

tries_split : (ss : SendState) (rs : RecvState) (p : Pair) (n m : ℕ) → IsSplit ss rs p → IsSplit ss rs (record p { denies = n; refusals = m })
tries_split ss rs p n m s = record { cut = record { older = s.cut.older; sender = s.cut.sender; receiver = s.cut.receiver }; even = record { taken = s.even.taken; between = s.even.between; newest = s.even.newest } }

-- ---- whatever happens

module _ (keeps : SenderKeeps) (comes : (s : PlainSender) (k : Lane) (i : SendIn) → Comes s k i (send_turn s k i)) (touches : (s : PlainSender) (k : Lane) (i : SendIn) → Touches s k i (send_turn s k i).1)
    (lawful : (s : PlainSender) (k : Lane) (i : SendIn) → IsLawful s → IsLawful (send_turn s k i).1) (writes : (s : PlainSender) (k : Lane) (i : SendIn) → IsSender s → IsLawful s → k.0 < length s.lanes → FitsIn i → FitsAct s.manifest (send_turn s k i).0)
    (sounds : (n : ℕ) (planned : List Block) (h : List SendEvent) (l : ℕ) → IsLegal n planned h → IsSoundLane (sent_past h l)) where
  splits : (w : PlainWorld) → IsSound w → AllSplit w
  splits w s = λ l b. record { cut = s.cut l b; even = s.even l b }

  quiet_pair : (w : PlainWorld) (l : ℕ) (p : Pair) → l < length w.pairs → IsSplit (sender.state_at w.sender l) (recv.state_at w.receiver l) p → Converses (common w.receiver) l (sending w.sender l) (receiving w.receiver l) p → FitsDown p → p.send ≡ (pair_at w l).send → p.recv ≡ (pair_at w l).recv → IsSound w → IsSound (with_pair w l p)
  quiet_pair w l p within split own fits send receives s =
      let x = pair_splits w l p within split (splits w s) in
      record {
        talk = pair_keeps w l p s.talk within own;
        belongs = record { send = keeps_send w l p within send s.belongs.send; recv = keeps_recv w l p within receives s.belongs.recv };
        fits = with_fits w l p within fits s.fits;
        cut = λ k b. (x k b).cut;
        even = λ k b. (x k b).even;
      }

  cuts_send : (p : Pair) (d u : ℕ) (o : Option Link) → (cuts_by p d u o).send ≡ p.send
  cuts_send p d u None = refl
  cuts_send p d u (Some k) = refl

  cuts_recv : (p : Pair) (d u : ℕ) (o : Option Link) → (cuts_by p d u o).recv ≡ p.recv
  cuts_recv p d u None = refl
  cuts_recv p d u (Some k) = refl

  pub stays_sound : (w : PlainWorld) (e : WorldEvent) → IsSound w → Finishing w → lane_of e < length w.pairs → IsSound (happens w e)
  stays_sound w (Sends l lost) s f within =
      let x = send_splits comes touches w l lost s.talk within s.belongs.send (splits w s) in
      record {
        talk = send_keeps keeps comes w l lost s.talk f.empty within (s.belongs.send l within);
        belongs = record { send = send_belongs comes touches w l lost s.talk within s.belongs.send; recv = send_leaves_recv w l lost within s.belongs.recv };
        fits = send_fits writes lawful touches w l lost s.talk (what_is_read_fits keeps comes w l lost s.talk f.empty within (s.belongs.send l within)) within s.fits;
        cut = λ k b. (x k b).cut;
        even = λ k b. (x k b).even;
      }
  stays_sound w (Receives l broken) s f within =
      let x = recv_splits w l broken s.talk within s.belongs.recv (splits w s) in
      record {
        talk = recv_keeps sounds w l broken s.talk f within s.fits.receiver (s.belongs.recv l within) (read_fits (pair_at w l) (s.fits.down l within));
        belongs = record { send = recv_leaves_send w l broken within s.belongs.send; recv = recv_belongs w l broken s.talk within s.belongs.recv };
        fits = recv_fits w l broken within s.fits;
        cut = λ k b. (x k b).cut;
        even = λ k b. (x k b).even;
      }
  stays_sound w (Cut l d u) s f within =
      let p : Pair = pair_at w l in
      let x = pair_splits w l (cuts_by p d u (top p)) within (cuts_split (sender.state_at w.sender l) (recv.state_at w.receiver l) p.send p.recv p.taken p.between p.newest p.denies p.refusals d u (splits w s l within)) (splits w s) in
      record {
        talk = cut_keeps w l d u s.talk within;
        belongs = record { send = keeps_send w l (cuts_by p d u (top p)) within (cuts_send p d u (top p)) s.belongs.send; recv = keeps_recv w l (cuts_by p d u (top p)) within (cuts_recv p d u (top p)) s.belongs.recv };
        fits = with_fits w l (cuts_by p d u (top p)) within (cuts_fit FitsMessage any_piece p d u (top p) (tops FitsMessage any_piece p.newest p.taken (s.fits.down l within).newest (s.fits.down l within).taken) (s.fits.down l within)) s.fits;
        cut = λ k b. (x k b).cut;
        even = λ k b. (x k b).even;
      }
  stays_sound w (Deny l) s f within =
      let p : Pair = pair_at w l in
      let d = s.fits.down l within in
      quiet_pair w l (record p { denies = suc p.denies }) within (tries_split (sender.state_at w.sender l) (recv.state_at w.receiver l) p (suc p.denies) p.refusals (splits w s l within)) (tries_here (common w.receiver) l (sending w.sender l) (receiving w.receiver l) p (suc p.denies) p.refusals (s.talk.lanes l within)) record { hand = d.hand; says = d.says; taken = d.taken; between = d.between; newest = d.newest } refl refl s
  stays_sound w (Refuse l) s f within =
      let p : Pair = pair_at w l in
      let d = s.fits.down l within in
      quiet_pair w l (record p { refusals = suc p.refusals }) within (tries_split (sender.state_at w.sender l) (recv.state_at w.receiver l) p p.denies (suc p.refusals) (splits w s l within)) (tries_here (common w.receiver) l (sending w.sender l) (receiving w.receiver l) p p.denies (suc p.refusals) (s.talk.lanes l within)) record { hand = d.hand; says = d.says; taken = d.taken; between = d.between; newest = d.newest } refl refl s
