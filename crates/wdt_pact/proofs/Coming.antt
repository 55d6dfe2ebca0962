-- The sender's word that nothing more is to come: no act of a lane makes it come where it didn't.
use Rattle.std.proofs.Common.{◌≡◌, inl, inr, ℕ, zero, suc, ◌||◌, ◌&&◌, not, nat_le, Bool, true, false, List, [], ◌∷◌, ◌++◌, take, Option, Some, None, subst, sym, ap, ◌∙◌, refl}
use Rattle.std.proofs.lemmas.Bool.{or_from}
use Rattle.wdt_units.specs.declared.blocks.Header.{Header}
use Rattle.wdt_codec.specs.declared.frames.Frame.{Frame}
use Rattle.wdt_codec.specs.declared.frames.Frame.TheVariants as frames
use Rattle.wdt_sender_fsm.specs.declared.acts.SendAct.{SendAct}
use Rattle.wdt_sender_fsm.specs.declared.acts.SendAct.TheVariants as acts
use Rattle.wdt_sender_fsm.specs.declared.inputs.SendIn.{SendIn}
use Rattle.wdt_sender_fsm.specs.declared.inputs.SendIn.TheVariants as inputs
use Rattle.wdt_sender_fsm.specs.Phases.{Message, Framed, Piece, Phase, Open, down, pieces_in, pieces_of, written_by}
use Rattle.wdt_sender_fsm.specs.Talk.{moved}
use Rattle.wdt_receiver_fsm.specs.declared.inputs.RecvIn.TheVariants as recv_inputs
use Rattle.wdt_pact.specs.Links.{Link, Way, front, is_cut, new_link, size_down, size_up, with_sent}
use Rattle.wdt_pact.specs.Lists.{has_done, in_hand}
use Rattle.wdt_pact.specs.Pairs.{Pair, RecvHold, RecvHas, SendHold, SendDoes, SendHas, cuts_by, noted_newest, noted_taken, recv_nothing, recv_reads, recv_reads_by, recv_stops, recv_takes, recv_takes_by, recv_writes, recv_wrote_or_lost, send_dials, send_does, send_left, send_loses, send_reads, send_reads_by, send_sends, send_takes, send_writes, top, top_by, wrote_or_lost}
use Rattle.wdt_pact.specs.Stances.{Hears, is_abort_down, is_calm}
use Rattle.wdt_pact.specs.Finishing.{down_sent, says_done}
use Rattle.wdt_pact.proofs.Below.{if_has}
use Rattle.wdt_pact.proofs.Lists.{Each-take, IsPiece, are_pieces, has_done-append, no_done}
use Rattle.wdt_pact.proofs.Reading.{front_head}
use Rattle.wdt_pact.proofs.Telling.{down_turned}

-- the word is read and not stepped, on its way, or about to be written
abbrev pub has_word : Pair → Bool
has_word p = has_done (in_hand p.recv ++ down_sent p.taken) || says_done p.newest p.send

-- it isn't
abbrev pub NoWord : Pair → Type 0
NoWord p = has_word p ≡ false

pub neither : (a b : Bool) → (a || b) ≡ false → (a ≡ false) × (b ≡ false)
neither true b e = cc
neither false b e = (refl, e)

-- ---- an act of the sender's lane

-- what is written has the word only where it was about to be written
written_says : (act : SendAct) → has_done (written_by act) ≡ says_done None (SendDoes act)
written_says (acts.Write frames.Done) = refl
written_says (acts.Write frame) = refl
written_says (acts.SendBlock h) = no_done (pieces_of h.length) (are_pieces h.length (pieces_in h.length))
written_says (acts.Dial conn) = refl
written_says acts.Read = refl
written_says acts.Stop = refl

says_none : (newest : Option Link) (input : SendIn) → says_done newest (SendHas input) ≡ false
says_none None input = refl
says_none (Some k) input = refl

module _ (rh : RecvHold) (between : List Link) (denies refusals : ℕ) where
  abbrev pair : SendHold → Option Link → Option Link → Pair
  pair sh taken newest = record { send = sh; recv = rh; taken = taken; between = between; newest = newest; denies = denies; refusals = refusals }

  -- nothing more is on its way, and it is about to say nothing
  holds_input : (sh : SendHold) (input : SendIn) (taken newest other : Option Link) → NoWord (pair sh taken newest) → NoWord (pair (SendHas input) taken other)
  holds_input sh input taken newest other w =
      or_from (has_done (in_hand rh ++ down_sent taken)) (says_done other (SendHas input))
      (neither (has_done (in_hand rh ++ down_sent taken)) (says_done newest sh) w).0 (says_none other input)

  says : (act : SendAct) (ms : List Message) (input : SendIn) (k : Link) → has_done ms ≡ has_done (written_by act)
      → NoWord (pair (SendDoes act) (Some k) None) → NoWord (pair (SendHas input) (Some record k { down = with_sent k.down ms }) None)
  says act ms input k same w =
      let b = neither (has_done (in_hand rh ++ k.down.sent)) (says_done None (SendDoes act)) w in
      or_from (has_done (in_hand rh ++ (k.down.sent ++ ms))) false
      (has_done-append (in_hand rh) (k.down.sent ++ ms)
      ∙ go (neither (has_done (in_hand rh)) (has_done k.down.sent) (sym (has_done-append (in_hand rh) k.down.sent) ∙ b.0)) (same ∙ (written_says act ∙ b.1))) refl where
        go : (has_done (in_hand rh) ≡ false) × (has_done k.down.sent ≡ false) → has_done ms ≡ false
            → (has_done (in_hand rh) || has_done (k.down.sent ++ ms)) ≡ false
        go x y =
            or_from (has_done (in_hand rh)) (has_done (k.down.sent ++ ms)) x.0
            (has_done-append k.down.sent ms ∙ or_from (has_done k.down.sent) (has_done ms) x.1 y)

  writes_word : (act : SendAct) (ms : List Message) (taken newest : Option Link) → has_done ms ≡ has_done (written_by act)
      → NoWord (pair (SendDoes act) taken newest) → NoWord (send_writes (pair (SendDoes act) taken newest) ms (top_by newest taken))
  writes_word act ms taken (Some k) same w =
      holds_input (SendDoes act) (wrote_or_lost (not (is_cut k.down) && not (recv_stops rh))) taken (Some k)
      (Some record k { down = with_sent k.down ms }) w
  writes_word act ms None None same w = w
  writes_word act ms (Some k) None same w = says act ms (wrote_or_lost (not (is_cut k.down) && not (recv_stops rh))) k same w

  loses_word : (act : SendAct) (ms : List Message) (unwritten : Bool) (taken newest : Option Link) → has_done ms ≡ has_done (written_by act)
      → NoWord (pair (SendDoes act) taken newest) → NoWord (send_loses (pair (SendDoes act) taken newest) (top_by newest taken) ms unwritten)
  loses_word act ms unwritten taken (Some k) same w =
      holds_input (SendDoes act) (inputs.SourceLost unwritten) taken (Some k) (Some record k { down = with_sent k.down ms }) w
  loses_word act ms unwritten None None same w = w
  loses_word act ms unwritten (Some k) None same w = says act ms (inputs.SourceLost unwritten) k same w

  block_done : (h : Header) (k : ℕ) → has_done (take (suc k) (written_by (acts.SendBlock h))) ≡ false
  block_done h k = no_done (take k (pieces_of h.length)) (Each-take IsPiece k (pieces_of h.length) (are_pieces h.length (pieces_in h.length)))

  sends_word : (h : Header) (lost : Option ℕ) (taken newest : Option Link) → NoWord (pair (SendDoes (acts.SendBlock h)) taken newest)
      → NoWord (send_sends (pair (SendDoes (acts.SendBlock h)) taken newest) h lost)
  sends_word h None taken newest w = writes_word (acts.SendBlock h) (written_by (acts.SendBlock h)) taken newest refl w
  sends_word h (Some zero) taken newest w =
      if_has NoWord (nat_le (pieces_in h.length) 0)
      (send_writes (pair (SendDoes (acts.SendBlock h)) taken newest) (written_by (acts.SendBlock h)) (top_by newest taken))
      (send_loses (pair (SendDoes (acts.SendBlock h)) taken newest) (top_by newest taken) [] true)
      (writes_word (acts.SendBlock h) (written_by (acts.SendBlock h)) taken newest refl w)
      (loses_word (acts.SendBlock h) [] true taken newest (sym (written_says (acts.SendBlock h))) w)
  sends_word h (Some (suc k)) taken newest w =
      if_has NoWord (nat_le (pieces_in h.length) (suc k))
      (send_writes (pair (SendDoes (acts.SendBlock h)) taken newest) (written_by (acts.SendBlock h)) (top_by newest taken))
      (send_loses (pair (SendDoes (acts.SendBlock h)) taken newest) (top_by newest taken) (take (suc (suc k)) (written_by (acts.SendBlock h))) false)
      (writes_word (acts.SendBlock h) (written_by (acts.SendBlock h)) taken newest refl w)
      (loses_word (acts.SendBlock h) (take (suc (suc k)) (written_by (acts.SendBlock h))) false taken newest (block_done h (suc k) ∙ sym (written_says (acts.SendBlock h))) w)

  reads_word : (taken newest : Option Link) → NoWord (pair (SendDoes acts.Read) taken newest)
      → NoWord (send_reads (pair (SendDoes acts.Read) taken newest) (top_by newest taken))
  reads_word taken (Some k) w = go (front size_up k.up) where
    go : (o : Option (Frame × Way Frame)) → NoWord (send_reads_by (pair (SendDoes acts.Read) taken (Some k)) k o)
    go (Some x) = holds_input (SendDoes acts.Read) (inputs.Got x.0) taken (Some k) (Some record k { up = x.1 }) w
    go None =
        if_has NoWord (is_cut k.up || recv_stops rh) (pair (SendHas inputs.Lost) taken (Some k)) (pair (SendDoes acts.Read) taken (Some k))
        (holds_input (SendDoes acts.Read) inputs.Lost taken (Some k) (Some k) w) w
  reads_word None None w = w
  reads_word (Some k) None w = go (front size_up k.up) where
    go : (o : Option (Frame × Way Frame)) → NoWord (send_reads_by (pair (SendDoes acts.Read) (Some k) None) k o)
    go (Some x) = w
    go None =
        if_has NoWord (is_cut k.up || recv_stops rh) (pair (SendHas inputs.Lost) (Some k) None) (pair (SendDoes acts.Read) (Some k) None)
        (holds_input (SendDoes acts.Read) inputs.Lost (Some k) None None w) w

  dials_word : (act : SendAct) (taken newest : Option Link) (n : ℕ) (stopped : Bool) → NoWord (pair (SendDoes act) taken newest)
      → NoWord (send_dials (pair (SendDoes act) taken newest) n stopped)
  dials_word act taken newest (suc n) stopped w = holds_input (SendDoes act) inputs.NoLink taken newest newest w
  dials_word act taken newest zero true w = holds_input (SendDoes act) inputs.NoLink taken newest newest w
  dials_word act taken newest zero false w = holds_input (SendDoes act) inputs.Linked taken newest (Some new_link) w

  does_word : (lost : Option ℕ) (act : SendAct) (taken newest : Option Link) → NoWord (pair (SendDoes act) taken newest)
      → NoWord (send_does (pair (SendDoes act) taken newest) lost act)
  does_word lost (acts.Dial conn) taken newest w = dials_word (acts.Dial conn) taken newest denies (recv_stops rh) w
  does_word lost (acts.Write frame) taken newest w = writes_word (acts.Write frame) (Framed frame ∷ []) taken newest refl w
  does_word lost (acts.SendBlock h) taken newest w = sends_word h lost taken newest w
  does_word lost acts.Read taken newest w = reads_word taken newest w
  does_word lost acts.Stop taken newest w = w

-- whatever it does
pub send_does_word : (p : Pair) (lost : Option ℕ) (act : SendAct) → p.send ≡ SendDoes act → NoWord p → NoWord (send_does p lost act)
send_does_word p lost act is w =
    subst (λ (h : SendHold). NoWord (send_does (record p { send = h }) lost act)) (sym is)
    (does_word p.recv p.between p.denies p.refusals lost act p.taken p.newest (subst (λ (h : SendHold). NoWord (record p { send = h })) is w))

-- an input is handed in, and the act is no last word
pub takes_word : (p : Pair) (input : SendIn) (b : Bool) (act : SendAct) → ((newest : Option Link) → says_done newest (SendDoes act) ≡ false) → NoWord p
    → NoWord (send_takes p input b act)
takes_word p input b act none w =
    or_from (has_done (in_hand p.recv ++ down_sent (noted_taken input b p.newest p.taken))) (says_done (noted_newest input b p.newest) (SendDoes act))
    (ap (λ (ds : List Message). has_done (in_hand p.recv ++ ds)) (down_turned input b p.newest p.taken) ∙ (neither (has_done (in_hand p.recv ++ down_sent p.taken)) (says_done p.newest p.send) w).0)
    (none (noted_newest input b p.newest))

-- a cut leaves what was written
cut_word : (sh : SendHold) (rh : RecvHold) (taken : Option Link) (between : List Link) (newest : Option Link) (denies refusals d u : ℕ)
    → has_word
    (cuts_by record { send = sh; recv = rh; taken = taken; between = between; newest = newest; denies = denies; refusals = refusals } d u (top_by newest taken)) ≡ has_word record { send = sh; recv = rh; taken = taken; between = between; newest = newest; denies = denies; refusals = refusals }
cut_word sh rh taken between (Some k) denies refusals d u = refl
cut_word sh rh None between None denies refusals d u = refl
cut_word sh rh (Some k) between None denies refusals d u = refl

pub cuts_word : (p : Pair) (d u : ℕ) → NoWord p → NoWord (cuts_by p d u (top p))
cuts_word p d u w = cut_word p.send p.recv p.taken p.between p.newest p.denies p.refusals d u ∙ w

-- ---- an act of the receiver's lane

-- what is in its hand is stepped
pub steps_word : (p : Pair) (h : RecvHold) → in_hand h ≡ [] → NoWord p → NoWord (record p { recv = h })
steps_word p h none w =
    let b = neither (has_done (in_hand p.recv ++ down_sent p.taken)) (says_done p.newest p.send) w in
    or_from (has_done (in_hand h ++ down_sent p.taken)) (says_done p.newest p.send)
    (ap (λ (ds : List Message). has_done (ds ++ down_sent p.taken)) none ∙ (neither (has_done (in_hand p.recv)) (has_done (down_sent p.taken)) (sym (has_done-append (in_hand p.recv) (down_sent p.taken)) ∙ b.0)).1) b.1

wrote_hand : (b : Bool) → in_hand (RecvHas (recv_wrote_or_lost b)) ≡ []
wrote_hand true = refl
wrote_hand false = refl

pub recv_writes_word : (p : Pair) (f : Frame) (o : Option Link) → p.taken ≡ o → NoWord p → NoWord (recv_writes p f o)
recv_writes_word p f None is w = w
recv_writes_word p f (Some k) is w =
    let x = steps_word p (RecvHas (recv_wrote_or_lost b)) (wrote_hand b) w in
    ap (λ (o : Option Link). has_done (in_hand (RecvHas (recv_wrote_or_lost b)) ++ down_sent o) || says_done p.newest p.send) (sym is) ∙ x where
      b : Bool
      b = not (is_cut k.up) && not (send_left p.newest p.send)

nothing_word : (p : Pair) (k : Link) → NoWord p → NoWord (recv_nothing p k)
nothing_word p k w =
    if_has NoWord (is_cut k.down || send_left p.newest p.send) (record p { recv = RecvHas recv_inputs.Lost }) p
    (steps_word p (RecvHas recv_inputs.Lost) refl w) w

pub recv_reads_word : (p : Pair) (o : Option Link) → p.taken ≡ o → in_hand p.recv ≡ [] → NoWord p → NoWord (recv_reads p o)
recv_reads_word p None is none w = w
recv_reads_word p (Some k) is none w = go (front size_down k.down) refl where
  at : (has_done k.down.sent || says_done p.newest p.send) ≡ false
  at = ap (λ (o : Option Link). has_done (down_sent o) || says_done p.newest p.send) (sym is) ∙ (ap (λ (ds : List Message). has_done (ds ++ down_sent p.taken) || says_done p.newest p.send) (sym none) ∙ w)

  go : (o : Option (Message × Way Message)) → front size_down k.down ≡ o → NoWord (recv_reads_by p k o)
  go (Some (Framed f, rest)) e =
      ap (λ (ds : List Message). has_done ds || says_done p.newest p.send) (sym (front_head size_down k.down.sent k.down.room (Framed f) rest e)) ∙ at
  go (Some (Piece n, rest)) e = w
  go None e = nothing_word p k w

pub recv_takes_word : (p : Pair) (o : Option Link) → p.taken ≡ o → in_hand p.recv ≡ [] → NoWord p → NoWord (recv_takes p o)
recv_takes_word p None is none w = w
recv_takes_word p (Some k) is none w = go (front size_down k.down) refl where
  at : (has_done k.down.sent || says_done p.newest p.send) ≡ false
  at = ap (λ (o : Option Link). has_done (down_sent o) || says_done p.newest p.send) (sym is) ∙ (ap (λ (ds : List Message). has_done (ds ++ down_sent p.taken) || says_done p.newest p.send) (sym none) ∙ w)

  go : (o : Option (Message × Way Message)) → front size_down k.down ≡ o → NoWord (recv_takes_by p k o)
  go (Some (Piece n, rest)) e =
      ap (λ (ds : List Message). has_done ds || says_done p.newest p.send) (sym (front_head size_down k.down.sent k.down.room (Piece n) rest e)) ∙ at
  go (Some (Framed f, rest)) e = w
  go None e = nothing_word p k w

-- ---- a connection that was just taken

-- nobody says that word before the sender has said what it is
open_follows : (ds : List Message) (q : Phase) → moved down ds Open ≡ Some q → has_done ds ≡ false
open_follows [] q e = refl
open_follows (Framed (frames.Settings x) ∷ []) q e = refl
open_follows (Framed (frames.Settings x) ∷ d ∷ ds) q e = cc
open_follows (d ∷ ds) q e = cc

abort_done : (m : Message) → is_abort_down m ≡ true → has_done (m ∷ []) ≡ false
abort_done (Framed (frames.Abort code)) e = refl
abort_done m e = cc

pub open_none : (ds : List Message) → Hears down is_calm is_abort_down Open ds → has_done ds ≡ false
open_none ds (inl a) = open_follows ds a.at a.moves
open_none ds (inr a) = ap has_done a.all ∙ (has_done-append a.before (a.last ∷ []) ∙ or_from (has_done a.before) (has_done (a.last ∷ [])) (open_follows a.before a.rests.at a.rests.moves) (abort_done a.last a.failure))
