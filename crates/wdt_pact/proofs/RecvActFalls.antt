-- An act of the receiver's lane leaves less to do at its lane, where the lane can move, and else nothing changes.
use Rattle.std.proofs.Common.{◌≡◌, ◌⊎◌, inl, inr, ℕ, zero, suc, ◌+◌, ◌-◌, ◌<◌, ◌≤◌, ◌||◌, ◌&&◌, not, nat_lt, Bool, true, false, if◌then◌else◌, List, [], ◌∷◌, ◌++◌, is_some, sum_by, Option, Some, None, subst, sym, ap, ◌∙◌, refl, arith}
use Rattle.std.proofs.lemmas.Bool.{both_ways, lt-ltb}
use Rattle.std.proofs.lemmas.List.Sums.{sum_by-cons}
use Rattle.std.proofs.lemmas.Option.{same_Some}
use Rattle.wdt_codec.specs.declared.frames.Frame.{Frame}
use Rattle.wdt_codec.specs.declared.frames.Frame.TheVariants as frames
use Rattle.wdt_codec.specs.declared.frames.Mark.{Mark}
use Rattle.wdt_sender_fsm.specs.declared.states.SendState.{SendState}
use Rattle.wdt_sender_fsm.specs.Phases.{Phase, Open, Met, Listing, Told, Sending, Mid, Asked, Bye, Message, Framed, Piece, down, is_abort, told, up}
use Rattle.wdt_receiver_fsm.specs.declared.acts.RecvAct.{RecvAct}
use Rattle.wdt_receiver_fsm.specs.declared.acts.RecvAct.TheVariants as acts
use Rattle.wdt_receiver_fsm.specs.declared.inputs.RecvIn.{RecvIn}
use Rattle.wdt_receiver_fsm.specs.declared.inputs.RecvIn.TheVariants as inputs
use Rattle.wdt_receiver_fsm.specs.declared.states.RecvLane.{RecvLane}
use Rattle.wdt_receiver_fsm.specs.declared.states.RecvState.{RecvState}
use Rattle.wdt_receiver_fsm.specs.declared.states.RecvState.TheVariants as states
use Rattle.wdt_receiver_fsm.specs.Phases.{FitsLane, Leads, LeadsOn, asked_by, phase_by, phase_written, sized_by}
use Rattle.wdt_receiver_fsm.specs.ReceiverHistory.{RecvPast}
use Rattle.wdt_receiver_fsm.specs.Rows.{is_reading}
use Rattle.wdt_pact.specs.Belongs.{RecvBelongs}
use Rattle.wdt_pact.specs.Links.{Link, Way, front, is_cut, size_down, with_sent}
use Rattle.wdt_pact.specs.Measure.{cost_down, cost_up, flight, flight_by, lane_low, recv_rank}
use Rattle.wdt_pact.specs.Pairs.{Pair, RecvDoes, RecvHas, RecvHold, RecvTook, SendHold, recv_accepts, recv_accepts_by, recv_does, recv_nothing, recv_reads, recv_reads_by, recv_takes, recv_takes_by, recv_writes, recv_wrote_or_lost, send_left, send_stops}
use Rattle.wdt_pact.specs.Progress.{down_gives, has_some, recv_moves}
use Rattle.wdt_pact.specs.Stances.{AgreeOn, Aborts, OnLink, Rests, Silent, Stance, Talks, is_abort_down, is_any, is_calm, recv_aborts, send_there, stand}
use Rattle.wdt_pact.proofs.Below.{hears, moved-first, one_talker, turned_talker}
use Rattle.wdt_pact.proofs.Falls.{front_weighs}
use Rattle.wdt_pact.proofs.Flights.{up_flight, up_weighs}
use Rattle.wdt_pact.proofs.Links.{hears_one, turned_on}
use Rattle.wdt_pact.proofs.Reading.{front_head}

-- ---- what is at the front

-- a piece that is heard has its move
piece_moves : (ss : Stance) (q : Phase) (n : ℕ) (ds : List Message) (us : List Frame) → OnLink ss (Talks q) (Piece n ∷ ds) us → (x : Phase) × (down q (Piece n) ≡ Some x)
piece_moves ss q n ds us a =
    let b = turned_on down up is_abort_down is_abort is_calm is_any one_talker ss (Talks q) (Piece n ∷ ds) us a in
    let h = hears_one up down is_abort is_abort_down is_any is_calm (turned_talker down up one_talker) q ss us ds (Piece n) b refl in
    (h.0, h.1)

-- in the middle of a block whatever is heard has its move
mid_moves : (ss : Stance) (left : ℕ) (m : Message) (ds : List Message) (us : List Frame) → OnLink ss (Talks (Mid left)) (m ∷ ds) us → (x : Phase) × (down (Mid left) m ≡ Some x)
mid_moves (Talks t) left m ds us a = let h = hears down up t (Mid left) ds us m a in (h.0, h.1)
mid_moves Aborts left m ds us a = let f = moved-first down (Mid left) a.at m ds a.moves in (f.0, f.1)
mid_moves Silent left m ds us (inl a) = let f = moved-first down (Mid left) a.at m ds a.moves in (f.0, f.1)
mid_moves Silent left m ds us (inr a) = go a.before a.all a.rests where
  go : (before : List Message) → m ∷ ds ≡ before ++ a.last ∷ [] → Rests down is_calm (Mid left) before → (x : Phase) × (down (Mid left) m ≡ Some x)
  go [] is rests = absurd (both_ways (is_calm rests.at) (ap is_calm (sym (same_Some (Mid left) rests.at rests.moves))) rests.calm_at)
  go (b ∷ bs) is rests =
      let same : m ≡ b = cc in
      let f = moved-first down (Mid left) rests.at b bs rests.moves in
      (f.0, subst (λ (y : Message). down (Mid left) y ≡ Some f.0) (sym same) f.1)

-- a lane that reads a frame hears no piece
sized_not : (b : Bool) (n : ℕ) (x : Phase) → down (sized_by b) (Piece n) ≡ Some x → ⊥
sized_not true n x e = cc
sized_not false n x e = cc

no_piece : (lane : RecvLane) (idle acked : Bool) (st : RecvState) (there : Stance) (n : ℕ) (ds : List Message) (us : List Frame) → is_reading st ≡ true
    → OnLink there (stand (recv_aborts st) (phase_by lane idle acked st)) (Piece n ∷ ds) us → ⊥
no_piece lane idle acked states.ReadSettings there n ds us reads a = let x = piece_moves there Open n ds us a in let e = x.1 in cc
no_piece lane idle acked states.ReadNextCmd there n ds us reads a = let x = piece_moves there (sized_by lane.is_sized) n ds us a in sized_not lane.is_sized n x.0 x.1
no_piece lane idle acked states.ReadAck there n ds us reads a = let x = piece_moves there Bye n ds us a in let e = x.1 in cc
no_piece lane idle acked st there n ds us reads a = cc

-- and one that takes a block hears no frame
no_frame : (lane : RecvLane) (idle acked : Bool) (there : Stance) (f : Frame) (ds : List Message) (us : List Frame) → OnLink there (stand (recv_aborts states.TakeBlock) (phase_by lane idle acked states.TakeBlock)) (Framed f ∷ ds) us → ⊥
no_frame lane idle acked there f ds us a = let x = mid_moves there lane.left (Framed f) ds us a in let e = x.1 in cc

-- ---- ranks

lost_rank : (st : RecvState) → is_reading st ≡ true → recv_rank st (RecvHas inputs.Lost) < recv_rank st (RecvDoes acts.Read)
lost_rank states.ReadSettings e = omega arith
lost_rank states.ReadNextCmd e = omega arith
lost_rank states.ReadAck e = omega arith
lost_rank st e = cc

got_rank : (st : RecvState) (f : Frame) → is_reading st ≡ true → recv_rank st (RecvHas (inputs.Got f)) ≡ recv_rank st (RecvDoes acts.Read) + 2
got_rank states.ReadSettings f e = refl
got_rank states.ReadNextCmd f e = refl
got_rank states.ReadAck f e = refl
got_rank st f e = cc

up_most : (f : Frame) → cost_up f ≤ 25
up_most (frames.ErrMarks ms) = omega arith
up_most f = omega arith

abort_cost : (f : Frame) → is_abort f ≡ true → cost_up f ≡ 3
abort_cost (frames.Abort code) e = refl
abort_cost f e = cc

-- what tells of closed lanes leads on to blocks
marks_lead : (q to : Phase) (ms : List Mark) → up q (frames.ErrMarks ms) ≡ Some to → to ≡ Sending
marks_lead Asked to ms e = sym (same_Some Sending to e)
marks_lead q to ms e = cc

told_not : (ask : Bool) → Some (told ask) ≡ Some Sending → ⊥
told_not true e = cc
told_not false e = cc

sends_in : (ask : Bool) (st : RecvState) → phase_written ask st ≡ Some Sending → st ≡ states.SendGlobalCheckpoint
sends_in ask states.SendGlobalCheckpoint e = refl
sends_in ask states.SendLocalCheckpoint e = absurd (told_not ask e)
sends_in ask st e = cc

-- so it is written in one state alone
marks_in : (lane : RecvLane) (past : RecvPast) (f : Frame) → LeadsOn lane past f → (cost_up f ≤ 3) ⊎ (lane.state ≡ states.SendGlobalCheckpoint)
marks_in lane past (frames.ErrMarks ms) a = inr (sends_in lane.ask lane.state (a.after ∙ ap (λ (q : Phase). Some q) (marks_lead a.from a.to ms a.moves)))
marks_in lane past f a = inl (omega arith)

-- a write leaves less
wrote_rank : (ask : Bool) (st : RecvState) (to : Phase) (f : Frame) → phase_written ask st ≡ Some to → (cost_up f ≤ 3) ⊎ (st ≡ states.SendGlobalCheckpoint) → (b : Bool)
    → recv_rank st (RecvHas (recv_wrote_or_lost b)) + cost_up f < recv_rank st (RecvDoes (acts.Write f))
wrote_rank ask states.SendLocalCheckpoint to f e (inl few) true = omega (arith, few)
wrote_rank ask states.SendLocalCheckpoint to f e (inl few) false = omega (arith, few)
wrote_rank ask states.SendFileChunks to f e (inl few) true = omega (arith, few)
wrote_rank ask states.SendFileChunks to f e (inl few) false = omega (arith, few)
wrote_rank ask states.SendWait to f e (inl few) true = omega (arith, few)
wrote_rank ask states.SendWait to f e (inl few) false = omega (arith, few)
wrote_rank ask states.SendDone to f e (inl few) true = omega (arith, few)
wrote_rank ask states.SendDone to f e (inl few) false = omega (arith, few)
wrote_rank ask states.SendGlobalCheckpoint to f e c true = omega (arith, up_most f)
wrote_rank ask states.SendGlobalCheckpoint to f e c false = omega (arith, up_most f)
wrote_rank ask states.SendLocalCheckpoint to f e (inr x) b = cc
wrote_rank ask states.SendFileChunks to f e (inr x) b = cc
wrote_rank ask states.SendWait to f e (inr x) b = cc
wrote_rank ask states.SendDone to f e (inr x) b = cc
wrote_rank ask st to f e c b = cc

frame_rank : (lane : RecvLane) (past : RecvPast) (f : Frame) → FitsLane lane past (acts.Write f) → (b : Bool) → recv_rank lane.state (RecvHas (recv_wrote_or_lost b)) + cost_up f < recv_rank lane.state (RecvDoes (acts.Write f))
frame_rank lane past f (inl a) b = subst (λ (st : RecvState). recv_rank st (RecvHas (recv_wrote_or_lost b)) + cost_up f < recv_rank st (RecvDoes (acts.Write f))) (sym a.1) (go b (abort_cost f a.0)) where
  go : (c : Bool) → cost_up f ≡ 3 → recv_rank states.SendAbort (RecvHas (recv_wrote_or_lost c)) + cost_up f < recv_rank states.SendAbort (RecvDoes (acts.Write f))
  go true e = omega (arith, e)
  go false e = omega (arith, e)
frame_rank lane past f (inr a) b = wrote_rank lane.ask lane.state a.to f a.after (marks_in lane past f a) b

-- ---- an act

module _ (ss : SendState) (st : RecvState) (h : SendHold) (taken : Option Link) (between : List Link) (newest : Option Link) (denies refusals : ℕ) where
  abbrev at : RecvAct → Pair
  at act = record { send = h; recv = RecvDoes act; taken = taken; between = between; newest = newest; denies = denies; refusals = refusals }

  abbrev Less : RecvAct → Pair → Type 0
  Less act p = lane_low ss st p < lane_low ss st (at act)

  -- a connection is taken, or none could be
  accept_by_less : (ks : List Link) (o : Option Link) → between ≡ ks → newest ≡ o → st ≡ states.Listen → (has_some ks || (is_some o || send_stops h)) ≡ true → Less acts.Accept (recv_accepts_by (at acts.Accept) ks o)
  accept_by_less (k ∷ ks) o few last here moves =
      subst (λ (x : RecvState). lane_low ss x (recv_accepts_by (at acts.Accept) (k ∷ ks) o) < lane_low ss x (at acts.Accept)) (sym here)
      (let a = ap (sum_by flight) few in omega (arith, a, sum_by-cons flight k ks))
  accept_by_less [] (Some k) few last here moves =
      subst (λ (x : RecvState). lane_low ss x (recv_accepts_by (at acts.Accept) [] (Some k)) < lane_low ss x (at acts.Accept)) (sym here) (let a = ap flight_by last in omega (arith, a))
  accept_by_less [] None few last here moves =
      subst (λ (b : Bool). Less acts.Accept (if b then record (at acts.Accept) { recv = RecvHas inputs.NoLink } else at acts.Accept)) (sym moves)
      (subst (λ (x : RecvState). lane_low ss x (record (at acts.Accept) { recv = RecvHas inputs.NoLink }) < lane_low ss x (at acts.Accept)) (sym here) (omega arith))

  accept_less : (n : ℕ) → st ≡ states.Listen → (nat_lt 0 n || (has_some between || (is_some newest || send_stops h))) ≡ true → Less acts.Accept (recv_accepts (at acts.Accept) n)
  accept_less (suc n) here moves = subst (λ (x : RecvState). lane_low ss x (recv_accepts (at acts.Accept) (suc n)) < lane_low ss x (at acts.Accept)) (sym here) (omega arith)
  accept_less zero here moves = accept_by_less between newest refl refl here moves

  accept_by_still : (ks : List Link) (o : Option Link) → (has_some ks || (is_some o || send_stops h)) ≡ false → recv_accepts_by (at acts.Accept) ks o ≡ at acts.Accept
  accept_by_still (k ∷ ks) o moves = cc
  accept_by_still [] (Some k) moves = cc
  accept_by_still [] None moves = ap (λ (b : Bool). if b then record (at acts.Accept) { recv = RecvHas inputs.NoLink } else at acts.Accept) moves

  accept_still : (n : ℕ) → (nat_lt 0 n || (has_some between || (is_some newest || send_stops h))) ≡ false → recv_accepts (at acts.Accept) n ≡ at acts.Accept
  accept_still (suc n) moves =
      absurd
      (both_ways (nat_lt 0 (suc n) || (has_some between || (is_some newest || send_stops h))) moves
      (ap (λ (b : Bool). b || (has_some between || (is_some newest || send_stops h))) (lt-ltb 0 (suc n) (omega arith))))
  accept_still zero moves = accept_by_still between newest moves

  -- a frame is written
  write_less : (o : Option Link) (f : Frame) → is_some o ≡ true → taken ≡ o → ((b : Bool) → recv_rank st (RecvHas (recv_wrote_or_lost b)) + cost_up f < recv_rank st (RecvDoes (acts.Write f)))
      → Less (acts.Write f) (recv_writes (at (acts.Write f)) f o)
  write_less None f some is falls = cc
  write_less (Some k) f some is falls =
      let a = up_flight k (f ∷ []) in
      let b : flight_by taken ≡ flight k = ap flight_by is in
      let c = falls (not (is_cut k.up) && not (send_left newest h)) in
      omega (arith, a, b, c, up_weighs f)

  -- nothing is there that can be taken whole
  nothing_less : (act : RecvAct) (k : Link) → recv_rank st (RecvHas inputs.Lost) < recv_rank st (RecvDoes act) → (is_cut k.down || send_left newest h) ≡ true → Less act (recv_nothing (at act) k)
  nothing_less act k falls e = subst (λ (b : Bool). Less act (if b then record (at act) { recv = RecvHas inputs.Lost } else at act)) (sym e) (omega (arith, falls))

  nothing_still : (act : RecvAct) (k : Link) → (is_cut k.down || send_left newest h) ≡ false → recv_nothing (at act) k ≡ at act
  nothing_still act k e = ap (λ (b : Bool). if b then record (at act) { recv = RecvHas inputs.Lost } else at act) e

  -- something is taken from the front
  front_less : (act : RecvAct) (k : Link) (m : Message) (rest : Way Message) (held : RecvHold) → taken ≡ Some k → front size_down k.down ≡ Some (m, rest) → recv_rank st held ≡ recv_rank st (RecvDoes act) + 2
      → Less act (record (at act) { taken = Some record k { down = rest }; recv = held })
  front_less act k m rest held is comes more =
      let a = front_weighs cost_down size_down k.down.sent k.down.room m rest comes in
      let b : flight_by taken ≡ flight k = ap flight_by is in
      omega (arith, a, b, more)

  -- a frame is read
  read_less : (o : Option Link) → is_reading st ≡ true → taken ≡ o → down_gives newest o h ≡ true
      → ((k : Link) (n : ℕ) (ds : List Message) → o ≡ Some k → k.down.sent ≡ Piece n ∷ ds → ⊥) → Less acts.Read (recv_reads (at acts.Read) o)
  read_less None reads is gives none = cc
  read_less (Some k) reads is gives none = go (front size_down k.down) refl gives where
    go : (x : Option (Message × Way Message)) → front size_down k.down ≡ x → (is_some x || (is_cut k.down || send_left newest h)) ≡ true → Less acts.Read (recv_reads_by (at acts.Read) k x)
    go (Some (Framed f, rest)) comes e = front_less acts.Read k (Framed f) rest (RecvHas (inputs.Got f)) is comes (got_rank st f reads)
    go (Some (Piece n, rest)) comes e = absurd (none k n rest.sent refl (front_head size_down k.down.sent k.down.room (Piece n) rest comes))
    go None comes e = nothing_less acts.Read k (lost_rank st reads) e

  read_still : (o : Option Link) → down_gives newest o h ≡ false → recv_reads (at acts.Read) o ≡ at acts.Read
  read_still None gives = refl
  read_still (Some k) gives = go (front size_down k.down) gives where
    go : (x : Option (Message × Way Message)) → (is_some x || (is_cut k.down || send_left newest h)) ≡ false → recv_reads_by (at acts.Read) k x ≡ at acts.Read
    go (Some x) e = cc
    go None e = nothing_still acts.Read k e

  -- a piece is taken
  take_less : (n : ℕ) (o : Option Link) → st ≡ states.TakeBlock → taken ≡ o → down_gives newest o h ≡ true
      → ((k : Link) (f : Frame) (ds : List Message) → o ≡ Some k → k.down.sent ≡ Framed f ∷ ds → ⊥) → Less (acts.TakePiece n) (recv_takes (at (acts.TakePiece n)) o)
  take_less n None here is gives none = cc
  take_less n (Some k) here is gives none = go (front size_down k.down) refl gives where
    took : (m : ℕ) → recv_rank st (RecvTook m) ≡ recv_rank st (RecvDoes (acts.TakePiece n)) + 2
    took m = subst (λ (x : RecvState). recv_rank x (RecvTook m) ≡ recv_rank x (RecvDoes (acts.TakePiece n)) + 2) (sym here) refl

    lost : recv_rank st (RecvHas inputs.Lost) < recv_rank st (RecvDoes (acts.TakePiece n))
    lost = subst (λ (x : RecvState). recv_rank x (RecvHas inputs.Lost) < recv_rank x (RecvDoes (acts.TakePiece n))) (sym here) (omega arith)

    go : (x : Option (Message × Way Message)) → front size_down k.down ≡ x → (is_some x || (is_cut k.down || send_left newest h)) ≡ true → Less (acts.TakePiece n) (recv_takes_by (at (acts.TakePiece n)) k x)
    go (Some (Piece m, rest)) comes e = front_less (acts.TakePiece n) k (Piece m) rest (RecvTook m) is comes (took m)
    go (Some (Framed f, rest)) comes e = absurd (none k f rest.sent refl (front_head size_down k.down.sent k.down.room (Framed f) rest comes))
    go None comes e = nothing_less (acts.TakePiece n) k lost e

  take_still : (n : ℕ) (o : Option Link) → down_gives newest o h ≡ false → recv_takes (at (acts.TakePiece n)) o ≡ at (acts.TakePiece n)
  take_still n None gives = refl
  take_still n (Some k) gives = go (front size_down k.down) gives where
    go : (x : Option (Message × Way Message)) → (is_some x || (is_cut k.down || send_left newest h)) ≡ false → recv_takes_by (at (acts.TakePiece n)) k x ≡ at (acts.TakePiece n)
    go (Some x) e = cc
    go None e = nothing_still (acts.TakePiece n) k e

-- what the ends' stances say of the taken connection
abbrev Taken : RecvLane → RecvPast → Stance → Option Link → Type 0
Taken lane past there taken = AgreeOn there (stand (recv_aborts lane.state) (phase_by lane past.is_idle past.is_acked lane.state)) taken

says_some : (lane : RecvLane) (past : RecvPast) (f : Frame) (there : Stance) (taken : Option Link) → FitsLane lane past (acts.Write f)
    → (stand (recv_aborts lane.state) (phase_by lane past.is_idle past.is_acked lane.state) ≡ Silent → ⊥) → Taken lane past there taken → is_some taken ≡ true
says_some lane past f there None fits says a = absurd (says a.1)
says_some lane past f there (Some k) fits says a = refl

no_piece_at : (lane : RecvLane) (past : RecvPast) (there : Stance) (taken : Option Link) (k : Link) (n : ℕ) (ds : List Message) → is_reading lane.state ≡ true → Taken lane past there taken → taken ≡ Some k → k.down.sent ≡ Piece n ∷ ds → ⊥
no_piece_at lane past there None k n ds reads a is comes = cc
no_piece_at lane past there (Some j) k n ds reads a is comes =
    no_piece lane past.is_idle past.is_acked lane.state there n ds j.up.sent reads
    (subst (λ (xs : List Message). OnLink there (stand (recv_aborts lane.state) (phase_by lane past.is_idle past.is_acked lane.state)) xs j.up.sent) (ap (λ (x : Link). x.down.sent) (same_Some j k is) ∙ comes) a)

no_frame_at : (lane : RecvLane) (past : RecvPast) (there : Stance) (taken : Option Link) (k : Link) (f : Frame) (ds : List Message) → lane.state ≡ states.TakeBlock → Taken lane past there taken → taken ≡ Some k → k.down.sent ≡ Framed f ∷ ds → ⊥
no_frame_at lane past there None k f ds here a is comes = cc
no_frame_at lane past there (Some j) k f ds here a is comes =
    no_frame lane past.is_idle past.is_acked there f ds j.up.sent
    (subst (λ (x : RecvState). OnLink there (stand (recv_aborts x) (phase_by lane past.is_idle past.is_acked x)) (Framed f ∷ ds) j.up.sent) here
    (subst (λ (xs : List Message). OnLink there (stand (recv_aborts lane.state) (phase_by lane past.is_idle past.is_acked lane.state)) xs j.up.sent) (ap (λ (x : Link). x.down.sent) (same_Some j k is) ∙ comes) a))

pub act_less : (lane : RecvLane) (past : RecvPast) (there : Stance) (ss : SendState) (act : RecvAct) (h : SendHold) (taken : Option Link) (between : List Link) (newest : Option Link) (denies refusals : ℕ)
    → FitsLane lane past act → Taken lane past there taken → ((f : Frame) → act ≡ acts.Write f → stand (recv_aborts lane.state) (phase_by lane past.is_idle past.is_acked lane.state) ≡ Silent → ⊥)
    → recv_moves (at ss lane.state h taken between newest denies refusals act) ≡ true
    → lane_low ss lane.state (recv_does (at ss lane.state h taken between newest denies refusals act) act) < lane_low ss lane.state (at ss lane.state h taken between newest denies refusals act)
act_less lane past there ss acts.Accept h taken between newest denies refusals fits a says moves = accept_less ss lane.state h taken between newest denies refusals refusals fits moves
act_less lane past there ss (acts.Write f) h taken between newest denies refusals fits a says moves =
    write_less ss lane.state h taken between newest denies refusals taken f (says_some lane past f there taken fits (says f refl) a) refl (frame_rank lane past f fits)
act_less lane past there ss acts.Read h taken between newest denies refusals fits a says moves =
    read_less ss lane.state h taken between newest denies refusals taken fits refl moves (λ k n ds is comes. no_piece_at lane past there taken k n ds fits a is comes)
act_less lane past there ss (acts.TakePiece n) h taken between newest denies refusals fits a says moves =
    take_less ss lane.state h taken between newest denies refusals n taken fits.at refl moves (λ k f ds is comes. no_frame_at lane past there taken k f ds fits.at a is comes)
act_less lane past there ss acts.Park h taken between newest denies refusals fits a says moves = cc
act_less lane past there ss acts.Stop h taken between newest denies refusals fits a says moves = cc

pub act_still : (ss : SendState) (st : RecvState) (act : RecvAct) (h : SendHold) (taken : Option Link) (between : List Link) (newest : Option Link) (denies refusals : ℕ)
    → recv_moves (at ss st h taken between newest denies refusals act) ≡ false → recv_does (at ss st h taken between newest denies refusals act) act ≡ at ss st h taken between newest denies refusals act
act_still ss st acts.Accept h taken between newest denies refusals moves = accept_still ss st h taken between newest denies refusals refusals moves
act_still ss st (acts.Write f) h taken between newest denies refusals moves = cc
act_still ss st acts.Read h taken between newest denies refusals moves = read_still ss st h taken between newest denies refusals taken moves
act_still ss st (acts.TakePiece n) h taken between newest denies refusals moves = take_still ss st h taken between newest denies refusals n taken moves
act_still ss st acts.Park h taken between newest denies refusals moves = refl
act_still ss st acts.Stop h taken between newest denies refusals moves = refl
