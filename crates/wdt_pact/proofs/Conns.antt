-- The numbers of connections that are on their way between two ends, as the acts of both leave them.
use Rattle.std.proofs.Common.{◌≡◌, ℕ, zero, suc, ◌+◌, ◌<◌, ◌≤◌, ◌||◌, ◌&&◌, not, nat_le, Bool, true, false, List, [], ◌∷◌, ◌++◌, length, take, option_map, Option, Some, None, subst, sym, ap, ◌∙◌, refl, arith, append_assoc, append-nil}
use Rattle.std.proofs.lemmas.Option.{same_Some}
use Rattle.wdt_units.specs.declared.blocks.Header.{Header}
use Rattle.wdt_codec.specs.declared.frames.Frame.{Frame}
use Rattle.wdt_codec.specs.declared.frames.Frame.TheVariants as frames
use Rattle.wdt_sender_fsm.specs.declared.acts.SendAct.{SendAct}
use Rattle.wdt_sender_fsm.specs.declared.acts.SendAct.TheVariants as acts
use Rattle.wdt_sender_fsm.specs.declared.inputs.SendIn.{SendIn}
use Rattle.wdt_sender_fsm.specs.declared.inputs.SendIn.TheVariants as inputs
use Rattle.wdt_sender_fsm.specs.Phases.{Message, Framed, Piece, pieces_in, pieces_of, written_by}
use Rattle.wdt_receiver_fsm.specs.declared.acts.RecvAct.{RecvAct}
use Rattle.wdt_receiver_fsm.specs.declared.acts.RecvAct.TheVariants as recv_acts
use Rattle.wdt_receiver_fsm.specs.declared.inputs.RecvIn.TheVariants as recv_inputs
use Rattle.wdt_pact.specs.Each.{Each}
use Rattle.wdt_pact.specs.Links.{Link, Way, cut_link, front, is_cut, note_greeted, size_down, size_up, with_sent}
use Rattle.wdt_pact.specs.Lists.{in_hand}
use Rattle.wdt_pact.specs.Meeting.{Climbs, conn_by, conns_along, conns_in, conns_of, conns_on, conns_said}
use Rattle.wdt_pact.specs.Pairs.{Pair, RecvHold, RecvDoes, RecvHas, SendHold, SendDoes, SendHas, cuts_by, noted_below, noted_newest, noted_taken, put_newest, put_taken, recv_accepts, recv_accepts_by, recv_does, recv_nothing, recv_reads, recv_reads_by, recv_stops, recv_takes, recv_takes_by, recv_writes, recv_wrote_or_lost}
use Rattle.wdt_pact.specs.Pairs.{send_dials, send_does, send_left, send_loses, send_reads, send_reads_by, send_sends, send_stops, send_takes, send_writes, top, top_by, waits, with_top}
use Rattle.wdt_pact.proofs.Below.{if_has}
use Rattle.wdt_pact.proofs.Lists.{Each-take, IsPiece, are_pieces}
use Rattle.wdt_pact.proofs.Reading.{front_head}

-- ---- rising numbers

pub lower_climbs : (low mid : ℕ) (ns : List ℕ) (high : ℕ) → low ≤ mid → Climbs mid ns high → Climbs low ns high
lower_climbs low mid [] high le c = omega (arith, le, c)
lower_climbs low mid (n ∷ ns) high le c = (omega (arith, le, c.0), c.1)

pub drop_climbs : (xs ys : List ℕ) (low high : ℕ) → Climbs low (xs ++ ys) high → Climbs low ys high
drop_climbs [] ys low high c = c
drop_climbs (x ∷ xs) ys low high c = lower_climbs low x ys high (omega (arith, c.0)) (drop_climbs xs ys x high c.1)

pub raise_climbs : (low : ℕ) (ns : List ℕ) (high more : ℕ) → high ≤ more → Climbs low ns high → Climbs low ns more
raise_climbs low [] high more le c = omega (arith, le, c)
raise_climbs low (n ∷ ns) high more le c = (c.0, raise_climbs n ns high more le c.1)

-- the next number behind all
pub next_climbs : (low : ℕ) (ns : List ℕ) (high : ℕ) → Climbs low ns high → Climbs low (ns ++ (high + 1) ∷ []) (high + 1)
next_climbs low [] high c = (omega (arith, c), omega arith)
next_climbs low (n ∷ ns) high c = (c.0, next_climbs n ns high c.1)

pub same_climbs : (low high : ℕ) (ns ms : List ℕ) → ms ≡ ns → Climbs low ns high → Climbs low ms high
same_climbs low high ns ms is c = subst (λ (xs : List ℕ). Climbs low xs high) (sym is) c

-- ---- the numbers among messages

conn_by-append : (f : Frame) (ns : List ℕ) → conn_by f ns ≡ conn_by f [] ++ ns
conn_by-append (frames.Settings s) ns = refl
conn_by-append f ns = refl

conns_in-append : (xs ys : List Message) → conns_in (xs ++ ys) ≡ conns_in xs ++ conns_in ys
conns_in-append [] ys = refl
conns_in-append (Framed (frames.Settings s) ∷ xs) ys = ap (λ (ns : List ℕ). s.conn.0 ∷ ns) (conns_in-append xs ys)
conns_in-append (Framed f ∷ xs) ys = conns_in-append xs ys
conns_in-append (Piece n ∷ xs) ys = conns_in-append xs ys

conns_along-append : (ks js : List Link) → conns_along (ks ++ js) ≡ conns_along ks ++ conns_along js
conns_along-append [] js = refl
conns_along-append (k ∷ ks) js = ap (λ (ns : List ℕ). conns_in k.down.sent ++ ns) (conns_along-append ks js) ∙ sym (append_assoc (conns_in k.down.sent) (conns_along ks) (conns_along js))

no_conns : (ms : List Message) → Each IsPiece ms → conns_in ms ≡ []
no_conns [] e = refl
no_conns (Piece n ∷ ms) e = no_conns ms e.1
no_conns (Framed f ∷ ms) e = absurd e.0

-- ---- what the sender's lane does

-- the numbers on the sender's connection, where so many of those that it was to tell are told
module _ (hand : List ℕ) (bs : List Link) (said new ms : List ℕ) where
  abbrev line : Option Link → Option Link → List ℕ → List ℕ
  line taken newest tail = hand ++ (conns_on taken ++ (conns_along bs ++ (conns_on newest ++ tail)))

  told : (k j : Link) → conns_in j.down.sent ≡ conns_in k.down.sent ++ ms → said ≡ ms ++ new → conns_in j.down.sent ++ new ≡ conns_in k.down.sent ++ said
  told k j down split = ap (λ (ns : List ℕ). ns ++ new) down ∙ (append_assoc (conns_in k.down.sent) ms new ∙ ap (λ (ns : List ℕ). conns_in k.down.sent ++ ns) (sym split))

  pub top_line : (newest taken : Option Link) (k j : Link) → top_by newest taken ≡ Some k → (newest ≡ None → bs ≡ []) → conns_in j.down.sent ≡ conns_in k.down.sent ++ ms → said ≡ ms ++ new
      → line (put_taken newest taken j) (put_newest newest j) new ≡ line taken newest said
  top_line None None k j is order down split = cc
  top_line None (Some i) k j is order down split =
      let e : i ≡ k = same_Some i k is in
      let none : conns_along bs ≡ [] = ap conns_along (order refl) in
      ap (λ (ns : List ℕ). hand ++ ns)
      (ap (λ (ns : List ℕ). conns_in j.down.sent ++ (ns ++ new)) none
      ∙ (told k j down split
      ∙ (ap (λ (x : Link). conns_in x.down.sent ++ said) (sym e)
      ∙ sym (ap (λ (ns : List ℕ). conns_in i.down.sent ++ (ns ++ said)) none))))
  top_line (Some t) taken k j is order down split =
      let e : t ≡ k = same_Some t k is in
      ap (λ (ns : List ℕ). hand ++ (conns_on taken ++ (conns_along bs ++ ns))) (told k j down split ∙ ap (λ (x : Link). conns_in x.down.sent ++ said) (sym e))

-- all numbers of a lane are as they were
abbrev Same : Pair → Pair → Type 0
Same p q = conns_of q ≡ conns_of p

-- where none waits, none is between
abbrev InOrder : Pair → Type 0
InOrder p = p.newest ≡ None → p.between ≡ []

writes_conns : (p : Pair) (ms : List Message) (o : Option Link) → top p ≡ o → InOrder p → conns_said p.send ≡ conns_in ms → Same p (send_writes p ms o)
writes_conns p ms None is order said = refl
writes_conns p ms (Some k) is order said =
    top_line (conns_in (in_hand p.recv)) p.between (conns_said p.send) [] (conns_in ms) p.newest p.taken k (record k { down = with_sent k.down ms }) is order (conns_in-append k.down.sent ms)
    (said ∙ sym (append-nil (conns_in ms)))

loses_conns : (p : Pair) (o : Option Link) (ms : List Message) (unwritten : Bool) → top p ≡ o → InOrder p → conns_said p.send ≡ conns_in ms → Same p (send_loses p o ms unwritten)
loses_conns p None ms unwritten is order said = refl
loses_conns p (Some k) ms unwritten is order said =
    top_line (conns_in (in_hand p.recv)) p.between (conns_said p.send) [] (conns_in ms) p.newest p.taken k (record k { down = with_sent k.down ms }) is order (conns_in-append k.down.sent ms)
    (said ∙ sym (append-nil (conns_in ms)))

block_none : (h : Header) → conns_in (written_by (acts.SendBlock h)) ≡ []
block_none h = no_conns (pieces_of h.length) (are_pieces h.length (pieces_in h.length))

part_none : (h : Header) (k : ℕ) → conns_in (take (suc (suc k)) (written_by (acts.SendBlock h))) ≡ []
part_none h k = no_conns (take (suc k) (pieces_of h.length)) (Each-take IsPiece (suc k) (pieces_of h.length) (are_pieces h.length (pieces_in h.length)))

sends_conns : (p : Pair) (h : Header) (lost : Option ℕ) → InOrder p → conns_said p.send ≡ [] → Same p (send_sends p h lost)
sends_conns p h None order said = writes_conns p (written_by (acts.SendBlock h)) (top p) refl order (said ∙ sym (block_none h))
sends_conns p h (Some zero) order said =
    if_has (Same p) (nat_le (pieces_in h.length) 0) (send_writes p (written_by (acts.SendBlock h)) (top p)) (send_loses p (top p) [] true)
    (writes_conns p (written_by (acts.SendBlock h)) (top p) refl order (said ∙ sym (block_none h))) (loses_conns p (top p) [] true refl order said)
sends_conns p h (Some (suc k)) order said =
    if_has (Same p) (nat_le (pieces_in h.length) (suc k)) (send_writes p (written_by (acts.SendBlock h)) (top p)) (send_loses p (top p) (take (suc (suc k)) (written_by (acts.SendBlock h))) false)
    (writes_conns p (written_by (acts.SendBlock h)) (top p) refl order (said ∙ sym (block_none h)))
    (loses_conns p (top p) (take (suc (suc k)) (written_by (acts.SendBlock h))) false refl order (said ∙ sym (part_none h k)))

reads_conns : (p : Pair) (o : Option Link) → top p ≡ o → InOrder p → conns_said p.send ≡ [] → Same p (send_reads p o)
reads_conns p None is order said = refl
reads_conns p (Some k) is order said = go (front size_up k.up) where
  quiet : (h : SendHold) → conns_said h ≡ [] → Same p (record p { send = h })
  quiet h none = ap (λ (ns : List ℕ). conns_in (in_hand p.recv) ++ (conns_on p.taken ++ (conns_along p.between ++ (conns_on p.newest ++ ns)))) (none ∙ sym said)

  go : (x : Option (Frame × Way Frame)) → Same p (send_reads_by p k x)
  go (Some x) =
      top_line (conns_in (in_hand p.recv)) p.between (conns_said p.send) [] [] p.newest p.taken k (record k { up = x.1 }) is order (sym (append-nil (conns_in k.down.sent))) said
  go None = if_has (Same p) (is_cut k.up || recv_stops p.recv) (record p { send = SendHas inputs.Lost }) p (quiet (SendHas inputs.Lost) refl) refl

dials_conns : (p : Pair) (n : ℕ) (stopped : Bool) → conns_said p.send ≡ [] → Same p (send_dials p n stopped)
dials_conns p (suc n) stopped said = ap (λ (ns : List ℕ). conns_in (in_hand p.recv) ++ (conns_on p.taken ++ (conns_along p.between ++ (conns_on p.newest ++ ns)))) (sym said)
dials_conns p zero true said = ap (λ (ns : List ℕ). conns_in (in_hand p.recv) ++ (conns_on p.taken ++ (conns_along p.between ++ (conns_on p.newest ++ ns)))) (sym said)
dials_conns p zero false said =
    ap (λ (ns : List ℕ). conns_in (in_hand p.recv) ++ (conns_on p.taken ++ ns))
    (append-nil (conns_along (p.between ++ waits p.newest))
    ∙ (conns_along-append p.between (waits p.newest)
    ∙ ap (λ (ns : List ℕ). conns_along p.between ++ ns) (waited p.newest ∙ ap (λ (ns : List ℕ). conns_on p.newest ++ ns) (sym said)))) where
      waited : (o : Option Link) → conns_along (waits o) ≡ conns_on o ++ []
      waited None = refl
      waited (Some k) = refl

pub send_does_conns : (p : Pair) (lost : Option ℕ) (act : SendAct) → p.send ≡ SendDoes act → InOrder p → Same p (send_does p lost act)
send_does_conns p lost (acts.Dial conn) is order = dials_conns p p.denies (recv_stops p.recv) (ap conns_said is)
send_does_conns p lost (acts.Write f) is order = writes_conns p (Framed f ∷ []) (top p) refl order (ap conns_said is)
send_does_conns p lost (acts.SendBlock h) is order = sends_conns p h lost order (ap conns_said is)
send_does_conns p lost acts.Read is order = reads_conns p (top p) refl order (ap conns_said is)
send_does_conns p lost acts.Stop is order = refl

-- a cut leaves them
pub cut_conns : (p : Pair) (d u : ℕ) (o : Option Link) → top p ≡ o → InOrder p → Same p (cuts_by p d u o)
cut_conns p d u None is order = refl
cut_conns p d u (Some k) is order =
    top_line (conns_in (in_hand p.recv)) p.between (conns_said p.send) (conns_said p.send) [] p.newest p.taken k (cut_link d u k) is order (sym (append-nil (conns_in k.down.sent))) refl

-- ---- what the sender's end gives its lane

noted_on : (b : Bool) (o : Option Link) → conns_on (option_map (note_greeted b) o) ≡ conns_on o
noted_on b None = refl
noted_on b (Some k) = refl

noted_taken_on : (input : SendIn) (b : Bool) (newest taken : Option Link) → conns_on (noted_taken input b newest taken) ≡ conns_on taken
noted_taken_on (inputs.Got f) b None taken = noted_on b taken
noted_taken_on (inputs.Got f) b (Some t) taken = refl
noted_taken_on input b newest taken = refl

noted_newest_on : (input : SendIn) (b : Bool) (newest : Option Link) → conns_on (noted_newest input b newest) ≡ conns_on newest
noted_newest_on (inputs.Got f) b newest = noted_on b newest
noted_newest_on input b newest = refl

-- the tail of a line, told behind it
line_end : (a b c d ms : List ℕ) → a ++ (b ++ (c ++ (d ++ ms))) ≡ (a ++ (b ++ (c ++ (d ++ [])))) ++ ms
line_end a b c d ms =
    ap (λ (x : List ℕ). a ++ (b ++ (c ++ (x ++ ms)))) (sym (append-nil d))
    ∙ (ap (λ (x : List ℕ). a ++ (b ++ x)) (sym (append_assoc c (d ++ []) ms))
    ∙ (ap (λ (x : List ℕ). a ++ x) (sym (append_assoc b (c ++ (d ++ [])) ms))
    ∙ sym (append_assoc a (b ++ (c ++ (d ++ []))) ms)))

pub send_takes_conns : (p : Pair) (input : SendIn) (b : Bool) (act : SendAct) → p.send ≡ SendHas input → conns_of (send_takes p input b act) ≡ conns_of p ++ conns_said (SendDoes act)
send_takes_conns p input b act holds =
    ap (λ (ns : List ℕ). conns_in (in_hand p.recv) ++ (ns ++ (conns_along p.between ++ (conns_on (noted_newest input b p.newest) ++ conns_said (SendDoes act))))) (noted_taken_on input b p.newest p.taken)
    ∙ (ap (λ (ns : List ℕ). conns_in (in_hand p.recv) ++ (conns_on p.taken ++ (conns_along p.between ++ (ns ++ conns_said (SendDoes act))))) (noted_newest_on input b p.newest)
    ∙ (line_end (conns_in (in_hand p.recv)) (conns_on p.taken) (conns_along p.between) (conns_on p.newest) (conns_said (SendDoes act))
    ∙ ap (λ (h : SendHold). (conns_in (in_hand p.recv) ++ (conns_on p.taken ++ (conns_along p.between ++ (conns_on p.newest ++ conns_said h)))) ++ conns_said (SendDoes act)) (sym holds)))

-- ---- what the receiver's lane does

-- the numbers behind what the receiver's lane has read
abbrev pub conns_behind : Pair → List ℕ
conns_behind p = conns_on p.taken ++ (conns_along p.between ++ (conns_on p.newest ++ conns_said p.send))

module _ (low high : ℕ) where
  abbrev Rises : Pair → Type 0
  Rises p = Climbs low (conns_of p) high

  idle_hand : (p : Pair) (act : RecvAct) → p.recv ≡ RecvDoes act → conns_of p ≡ conns_behind p
  idle_hand p act is = ap (λ (h : RecvHold). conns_in (in_hand h) ++ conns_behind p) is

  empty_hand : (b : Bool) → conns_in (in_hand (RecvHas (recv_wrote_or_lost b))) ≡ []
  empty_hand true = refl
  empty_hand false = refl

  nothing_climbs : (p : Pair) (k : Link) → Climbs low (conns_behind p) high → Rises p → Rises (recv_nothing p k)
  nothing_climbs p k c whole = if_has Rises (is_cut k.down || send_left p.newest p.send) (record p { recv = RecvHas recv_inputs.Lost }) p c whole

  reads_climbs : (p : Pair) (o : Option Link) → p.taken ≡ o → Climbs low (conns_behind p) high → Rises p → Rises (recv_reads p o)
  reads_climbs p None is c whole = whole
  reads_climbs p (Some k) is c whole = go (front size_down k.down) refl where
    tail : List ℕ
    tail = conns_along p.between ++ (conns_on p.newest ++ conns_said p.send)

    go : (x : Option (Message × Way Message)) → front size_down k.down ≡ x → Rises (recv_reads_by p k x)
    go (Some (Framed f, rest)) e =
        same_climbs low high (conns_behind p) (conns_in (Framed f ∷ []) ++ (conns_in rest.sent ++ tail))
        (sym (append_assoc (conns_in (Framed f ∷ [])) (conns_in rest.sent) tail)
        ∙ (ap (λ (ns : List ℕ). ns ++ tail) (sym (conn_by-append f (conns_in rest.sent)) ∙ ap conns_in (sym (front_head size_down k.down.sent k.down.room (Framed f) rest e)))
        ∙ ap (λ (y : Option Link). conns_on y ++ tail) (sym is)))
        c
    go (Some (Piece n, rest)) e = whole
    go None e = nothing_climbs p k c whole

  takes_climbs : (p : Pair) (o : Option Link) → p.taken ≡ o → Climbs low (conns_behind p) high → Rises p → Rises (recv_takes p o)
  takes_climbs p None is c whole = whole
  takes_climbs p (Some k) is c whole = go (front size_down k.down) refl where
    tail : List ℕ
    tail = conns_along p.between ++ (conns_on p.newest ++ conns_said p.send)

    go : (x : Option (Message × Way Message)) → front size_down k.down ≡ x → Rises (recv_takes_by p k x)
    go (Some (Piece n, rest)) e =
        same_climbs low high (conns_behind p) (conns_in rest.sent ++ tail)
        (ap (λ (ms : List Message). conns_in ms ++ tail) (sym (front_head size_down k.down.sent k.down.room (Piece n) rest e)) ∙ ap (λ (y : Option Link). conns_on y ++ tail) (sym is))
        c
    go (Some (Framed f, rest)) e = whole
    go None e = nothing_climbs p k c whole

  writes_climbs : (p : Pair) (f : Frame) (o : Option Link) → p.taken ≡ o → Climbs low (conns_behind p) high → Rises p → Rises (recv_writes p f o)
  writes_climbs p f None is c whole = whole
  writes_climbs p f (Some k) is c whole =
      let tail : List ℕ = conns_along p.between ++ (conns_on p.newest ++ conns_said p.send) in
      same_climbs low high (conns_behind p) (conns_of (recv_writes p f (Some k)))
      (ap (λ (ns : List ℕ). ns ++ (conns_in k.down.sent ++ tail)) (empty_hand (not (is_cut k.up) && not (send_left p.newest p.send))) ∙ ap (λ (y : Option Link). conns_on y ++ tail) (sym is)) c

  accepts_climbs : (p : Pair) (bs : List Link) (o : Option Link) → p.between ≡ bs → p.newest ≡ o → Climbs low (conns_behind p) high → Rises p → Rises (recv_accepts_by p bs o)
  accepts_climbs p (k ∷ ks) o between newest c whole =
      let tail : List ℕ = conns_on p.newest ++ conns_said p.send in
      same_climbs low high (conns_along p.between ++ tail) (conns_in k.down.sent ++ (conns_along ks ++ tail))
      (sym (append_assoc (conns_in k.down.sent) (conns_along ks) tail) ∙ ap (λ (xs : List Link). conns_along xs ++ tail) (sym between))
      (drop_climbs (conns_on p.taken) (conns_along p.between ++ tail) low high c)
  accepts_climbs p [] (Some k) between newest c whole =
      let none : conns_along p.between ≡ [] = ap conns_along between in
      same_climbs low high (conns_on p.newest ++ conns_said p.send) (conns_in k.down.sent ++ (conns_along p.between ++ conns_said p.send))
      (ap (λ (ns : List ℕ). conns_in k.down.sent ++ (ns ++ conns_said p.send)) none ∙ ap (λ (y : Option Link). conns_on y ++ conns_said p.send) (sym newest))
      (drop_climbs (conns_along p.between) (conns_on p.newest ++ conns_said p.send) low high (drop_climbs (conns_on p.taken) (conns_along p.between ++ (conns_on p.newest ++ conns_said p.send)) low high c))
  accepts_climbs p [] None between newest c whole = if_has Rises (send_stops p.send) (record p { recv = RecvHas recv_inputs.NoLink }) p c whole

  tries_climbs : (p : Pair) (n : ℕ) → Climbs low (conns_behind p) high → Rises p → Rises (recv_accepts p n)
  tries_climbs p (suc n) c whole = c
  tries_climbs p zero c whole = accepts_climbs p p.between p.newest refl refl c whole

  pub recv_does_climbs : (p : Pair) (act : RecvAct) → p.recv ≡ RecvDoes act → Rises p → Rises (recv_does p act)
  recv_does_climbs p act is c = go act (subst (λ (ns : List ℕ). Climbs low ns high) (idle_hand p act is) c) where
    go : (a : RecvAct) → Climbs low (conns_behind p) high → Rises (recv_does p a)
    go recv_acts.Accept b = tries_climbs p p.refusals b c
    go (recv_acts.Write f) b = writes_climbs p f p.taken refl b c
    go recv_acts.Read b = reads_climbs p p.taken refl b c
    go (recv_acts.TakePiece n) b = takes_climbs p p.taken refl b c
    go recv_acts.Park b = c
    go recv_acts.Stop b = c
