-- An act of the sender's lane leaves less to do at its lane, where the lane can move, and else nothing changes.
use Rattle.std.proofs.Common.{◌≡◌, ◌⊎◌, inl, inr, ℕ, zero, suc, ◌+◌, ◌-◌, ◌*◌, ◌<◌, ◌≤◌, ◌||◌, ◌&&◌, not, nat_le, Bool, true, false, if◌then◌else◌, List, [], ◌∷◌, ◌++◌, length, take, is_some, sum_by, Option, Some, None, subst, sym, ap, ◌∙◌, refl, arith}
use Rattle.std.proofs.lemmas.Bool.{both_ways}
use Rattle.std.proofs.lemmas.Option.{same_Some}
use Rattle.wdt_units.specs.declared.blocks.Header.{Header}
use Rattle.wdt_units.specs.declared.numbers.Conn.{Conn}
use Rattle.wdt_codec.specs.declared.frames.Frame.{Frame}
use Rattle.wdt_codec.specs.declared.frames.Frame.TheVariants as frames
use Rattle.wdt_sender_fsm.specs.declared.acts.SendAct.{SendAct}
use Rattle.wdt_sender_fsm.specs.declared.acts.SendAct.TheVariants as acts
use Rattle.wdt_sender_fsm.specs.declared.inputs.SendIn.{SendIn}
use Rattle.wdt_sender_fsm.specs.declared.inputs.SendIn.TheVariants as inputs
use Rattle.wdt_sender_fsm.specs.declared.states.SendLane.{SendLane}
use Rattle.wdt_sender_fsm.specs.declared.states.SendState.{SendState}
use Rattle.wdt_sender_fsm.specs.declared.states.SendState.TheVariants as states
use Rattle.wdt_sender_fsm.specs.Phases.{Message, Framed, phase_by, pieces_in, written_by}
use Rattle.wdt_sender_fsm.specs.Rows.{is_reading}
use Rattle.wdt_receiver_fsm.specs.declared.states.RecvState.{RecvState}
use Rattle.wdt_pact.specs.Belongs.{SendBelongs, SendFrameIn}
use Rattle.wdt_pact.specs.Links.{Link, Way, front, is_cut, size_up, with_sent}
use Rattle.wdt_pact.specs.Measure.{cost_down, cost_up, flight, flight_by, got_rank, lane_low, send_rank}
use Rattle.wdt_pact.specs.Pairs.{Pair, RecvHold, SendDoes, SendHas, put_newest, put_taken, recv_stops, send_dials, send_does, send_loses, send_reads, send_reads_by, send_sends, send_writes, top_by, with_top, wrote_or_lost}
use Rattle.wdt_pact.specs.Progress.{send_moves, up_gives}
use Rattle.wdt_pact.specs.Stances.{Agrees, Silent, Stance, send_aborts, send_there, stand}
use Rattle.wdt_pact.proofs.Falls.{front_weighs}
use Rattle.wdt_pact.proofs.Flights.{block_weighs, down_flight, flights_more, frame_weighs, taken_weighs}

-- ---- ranks

got_cost : (f : Frame) → got_rank f + 1 ≡ cost_up f
got_cost (frames.ErrMarks ms) = refl
got_cost f = refl

frame_rank : (lane : SendLane) (st : SendState) (f : Frame) → SendFrameIn lane st f → (b : Bool) → send_rank st (SendHas (wrote_or_lost b)) + 3 < send_rank st (SendDoes (acts.Write f))
frame_rank lane states.SendSettings (frames.Settings s) e true = omega arith
frame_rank lane states.SendSettings (frames.Settings s) e false = omega arith
frame_rank lane states.SendSize (frames.Size files bytes) e true = omega arith
frame_rank lane states.SendSize (frames.Size files bytes) e false = omega arith
frame_rank lane states.SendDone frames.Done e true = omega arith
frame_rank lane states.SendDone frames.Done e false = omega arith
frame_rank lane states.AnswerDone frames.Done e true = omega arith
frame_rank lane states.AnswerDone frames.Done e false = omega arith
frame_rank lane states.SendAbort (frames.Abort code) e true = omega arith
frame_rank lane states.SendAbort (frames.Abort code) e false = omega arith
frame_rank lane st f e b = absurd e

block_rank : (h : Header) (b : Bool) → send_rank states.SendBlocks (SendHas (wrote_or_lost b)) + (3 + 3 * pieces_in h.length) < send_rank states.SendBlocks (SendDoes (acts.SendBlock h))
block_rank h true = omega arith
block_rank h false = omega arith

got_rank_in : (st : SendState) (f : Frame) → is_reading st ≡ true → send_rank st (SendHas (inputs.Got f)) ≡ send_rank st (SendDoes acts.Read) + got_rank f
got_rank_in states.ReadLocalCheckpoint f e = refl
got_rank_in states.ReadFileChunks f e = refl
got_rank_in states.ReadReceiverCmd f e = refl
got_rank_in st f e = cc

lost_rank_in : (st : SendState) → is_reading st ≡ true → send_rank st (SendHas inputs.Lost) < send_rank st (SendDoes acts.Read)
lost_rank_in states.ReadLocalCheckpoint e = omega arith
lost_rank_in states.ReadFileChunks e = omega arith
lost_rank_in states.ReadReceiverCmd e = omega arith
lost_rank_in st e = cc

-- ---- the sender's connection stands otherwise

pub top_flights : (newest taken : Option Link) (k j : Link) (w : ℕ) → top_by newest taken ≡ Some k → flight j ≤ flight k + w
    → flight_by (put_taken newest taken j) + flight_by (put_newest newest j) ≤ flight_by taken + flight_by newest + w
top_flights None taken k j w is less = let a : flight_by taken ≡ flight k = ap flight_by is in omega (arith, a, less)
top_flights (Some t) taken k j w is less = let a : flight t ≡ flight k = ap flight (same_Some t k is) in omega (arith, a, less)

top_fewer : (newest taken : Option Link) (k j : Link) (w : ℕ) → top_by newest taken ≡ Some k → flight j + w ≡ flight k
    → flight_by (put_taken newest taken j) + flight_by (put_newest newest j) + w ≡ flight_by taken + flight_by newest
top_fewer None taken k j w is less = let a : flight_by taken ≡ flight k = ap flight_by is in omega (arith, a, less)
top_fewer (Some t) taken k j w is less = let a : flight t ≡ flight k = ap flight (same_Some t k is) in omega (arith, a, less)

module _ (st : SendState) (rs : RecvState) (r : RecvHold) (taken : Option Link) (between : List Link) (newest : Option Link) (denies refusals : ℕ) where
  abbrev at : SendAct → Pair
  at act = record { send = SendDoes act; recv = r; taken = taken; between = between; newest = newest; denies = denies; refusals = refusals }

  abbrev Less : SendAct → Pair → Type 0
  Less act p = lane_low st rs p < lane_low st rs (at act)

  -- something is written
  writes_less : (act : SendAct) (k : Link) (ms : List Message) (w : ℕ) (i : SendIn) → top_by newest taken ≡ Some k → sum_by cost_down ms ≤ w → send_rank st (SendHas i) + w < send_rank st (SendDoes act)
      → Less act (record (with_top (at act) record k { down = with_sent k.down ms }) { send = SendHas i })
  writes_less act k ms w i is light falls =
      let a = down_flight k ms in
      let b = top_flights newest taken k record k { down = with_sent k.down ms } w is (omega (arith, a, light)) in
      omega (arith, b, falls)

  -- a frame is read
  reads_less : (k : Link) (f : Frame) (rest : Way Frame) → is_reading st ≡ true → top_by newest taken ≡ Some k → front size_up k.up ≡ Some (f, rest)
      → Less acts.Read (record (with_top (at acts.Read) record k { up = rest }) { send = SendHas (inputs.Got f) })
  reads_less k f rest reads is comes =
      let a = front_weighs cost_up size_up k.up.sent k.up.room f rest comes in
      let b = top_fewer newest taken k record k { up = rest } (cost_up f) is (omega (arith, a)) in
      omega (arith, b, got_rank_in st f reads, got_cost f)

  lost_less : is_reading st ≡ true → Less acts.Read (record (at acts.Read) { send = SendHas inputs.Lost })
  lost_less reads = let a = lost_rank_in st reads in omega (arith, a)

  read_less : (o : Option Link) → is_reading st ≡ true → top_by newest taken ≡ o → up_gives o r ≡ true → Less acts.Read (send_reads (at acts.Read) o)
  read_less None reads is gives = cc
  read_less (Some k) reads is gives = go (front size_up k.up) refl gives where
    go : (x : Option (Frame × Way Frame)) → front size_up k.up ≡ x → (is_some x || (is_cut k.up || recv_stops r)) ≡ true → Less acts.Read (send_reads_by (at acts.Read) k x)
    go (Some x) comes e = reads_less k x.0 x.1 reads is comes
    go None comes e = subst (λ (b : Bool). Less acts.Read (if b then record (at acts.Read) { send = SendHas inputs.Lost } else at acts.Read)) (sym e) (lost_less reads)

  read_still : (o : Option Link) → up_gives o r ≡ false → send_reads (at acts.Read) o ≡ at acts.Read
  read_still None gives = refl
  read_still (Some k) gives = go (front size_up k.up) gives where
    go : (x : Option (Frame × Way Frame)) → (is_some x || (is_cut k.up || recv_stops r)) ≡ false → send_reads_by (at acts.Read) k x ≡ at acts.Read
    go (Some x) e = cc
    go None e = ap (λ (b : Bool). if b then record (at acts.Read) { send = SendHas inputs.Lost } else at acts.Read) e

  write_less : (o : Option Link) (act : SendAct) (ms : List Message) (w : ℕ) → is_some o ≡ true → top_by newest taken ≡ o → sum_by cost_down ms ≤ w
      → ((b : Bool) → send_rank st (SendHas (wrote_or_lost b)) + w < send_rank st (SendDoes act)) → Less act (send_writes (at act) ms o)
  write_less None act ms w some is light falls = cc
  write_less (Some k) act ms w some is light falls = writes_less act k ms w (wrote_or_lost (not (is_cut k.down) && not (recv_stops r))) is light (falls (not (is_cut k.down) && not (recv_stops r)))

  lose_less : (o : Option Link) (act : SendAct) (ms : List Message) (w : ℕ) (unwritten : Bool) → is_some o ≡ true → top_by newest taken ≡ o → sum_by cost_down ms ≤ w
      → send_rank st (SendHas (inputs.SourceLost unwritten)) + w < send_rank st (SendDoes act) → Less act (send_loses (at act) o ms unwritten)
  lose_less None act ms w unwritten some is light falls = cc
  lose_less (Some k) act ms w unwritten some is light falls = writes_less act k ms w (inputs.SourceLost unwritten) is light falls

  -- a try to make a connection comes to something
  dial_less : (conn : Conn) (tries : ℕ) (stopped : Bool) → st ≡ states.Connect → Less (acts.Dial conn) (send_dials (at (acts.Dial conn)) tries stopped)
  dial_less conn (suc n) stopped here = subst (λ (x : SendState). lane_low x rs (send_dials (at (acts.Dial conn)) (suc n) stopped) < lane_low x rs (at (acts.Dial conn))) (sym here) (omega arith)
  dial_less conn zero true here = subst (λ (x : SendState). lane_low x rs (send_dials (at (acts.Dial conn)) zero true) < lane_low x rs (at (acts.Dial conn))) (sym here) (omega arith)
  dial_less conn zero false here =
      subst (λ (x : SendState). lane_low x rs (send_dials (at (acts.Dial conn)) zero false) < lane_low x rs (at (acts.Dial conn))) (sym here) (omega (arith, flights_more between newest))

-- a block is written, whole or in part
module _ (rs : RecvState) (r : RecvHold) (taken : Option Link) (between : List Link) (newest : Option Link) (denies refusals : ℕ) (h : Header) (some : is_some (top_by newest taken) ≡ true) where
  abbrev full : ℕ
  full = 3 + 3 * pieces_in h.length

  abbrev with_block : Pair
  with_block = at states.SendBlocks rs r taken between newest denies refusals (acts.SendBlock h)

  whole : lane_low states.SendBlocks rs (send_writes with_block (written_by (acts.SendBlock h)) (top_by newest taken)) < lane_low states.SendBlocks rs with_block
  whole = write_less states.SendBlocks rs r taken between newest denies refusals (top_by newest taken) (acts.SendBlock h) (written_by (acts.SendBlock h)) full some refl (omega (arith, block_weighs h)) (block_rank h)

  part : (ms : List Message) (unwritten : Bool) → sum_by cost_down ms ≤ full → lane_low states.SendBlocks rs (send_loses with_block (top_by newest taken) ms unwritten) < lane_low states.SendBlocks rs with_block
  part ms unwritten light =
      lose_less states.SendBlocks rs r taken between newest denies refusals (top_by newest taken) (acts.SendBlock h) ms full unwritten some refl light (omega arith)

  pub block_less : (lost : Option ℕ) → lane_low states.SendBlocks rs (send_sends with_block h lost) < lane_low states.SendBlocks rs with_block
  block_less None = whole
  block_less (Some zero) = go (nat_le (pieces_in h.length) 0) where
    go : (b : Bool) → lane_low states.SendBlocks rs (if b then send_writes with_block (written_by (acts.SendBlock h)) (top_by newest taken) else send_loses with_block (top_by newest taken) [] true) < lane_low states.SendBlocks rs with_block
    go true = whole
    go false = part [] true (omega arith)
  block_less (Some (suc k)) = go (nat_le (pieces_in h.length) (suc k)) where
    go : (b : Bool)
        → lane_low states.SendBlocks rs (if b then send_writes with_block (written_by (acts.SendBlock h)) (top_by newest taken) else send_loses with_block (top_by newest taken) (take (suc (suc k)) (written_by (acts.SendBlock h))) false) < lane_low states.SendBlocks rs with_block
    go true = whole
    go false = part (take (suc (suc k)) (written_by (acts.SendBlock h))) false (omega (arith, taken_weighs (suc (suc k)) (written_by (acts.SendBlock h)), block_weighs h))

-- ---- an act

-- an end that has a word to say has a connection
has_top : (ss rr : Stance) (taken : Option Link) (between : List Link) (newest : Option Link) → Agrees ss rr taken between newest → (ss ≡ Silent → ⊥) → is_some (top_by newest taken) ≡ true
has_top ss rr taken between (Some t) a says = refl
has_top ss rr (Some k) between None a says = refl
has_top ss rr None between None a says = absurd (says a.on_taken.0)

-- what is written isn't silence
frame_says : (lane : SendLane) (acked : Bool) (st : SendState) (f : Frame) → SendFrameIn lane st f → stand (send_aborts st) (phase_by lane.ask acked st) ≡ Silent → ⊥
frame_says lane acked states.SendSettings (frames.Settings s) e silent = cc
frame_says lane acked states.SendSize (frames.Size files bytes) e silent = cc
frame_says lane acked states.SendDone frames.Done e silent = cc
frame_says lane acked states.AnswerDone frames.Done e silent = cc
frame_says lane acked states.SendAbort (frames.Abort code) e silent = cc
frame_says lane acked st f e silent = absurd e

block_says : (lane : SendLane) (acked : Bool) (st : SendState) → st ≡ states.SendBlocks → stand (send_aborts st) (phase_by lane.ask acked st) ≡ Silent → ⊥
block_says lane acked states.SendBlocks here silent = cc
block_says lane acked st here silent = cc

pub act_less : (lane : SendLane) (acked : Bool) (rr : Stance) (rs : RecvState) (act : SendAct) (r : RecvHold) (taken : Option Link) (between : List Link) (newest : Option Link) (denies refusals : ℕ) (lost : Option ℕ)
    → SendBelongs (SendDoes act) lane → Agrees (stand (send_aborts lane.state) (phase_by lane.ask acked lane.state)) rr taken between newest
    → send_moves (at lane.state rs r taken between newest denies refusals act) ≡ true
    → lane_low lane.state rs (send_does (at lane.state rs r taken between newest denies refusals act) lost act) < lane_low lane.state rs (at lane.state rs r taken between newest denies refusals act)
act_less lane acked rr rs (acts.Dial conn) r taken between newest denies refusals lost b a moves = dial_less lane.state rs r taken between newest denies refusals conn denies (recv_stops r) b
act_less lane acked rr rs (acts.Write f) r taken between newest denies refusals lost b a moves =
    write_less lane.state rs r taken between newest denies refusals (top_by newest taken) (acts.Write f) (Framed f ∷ []) 3
    (has_top (stand (send_aborts lane.state) (phase_by lane.ask acked lane.state)) rr taken between newest a (frame_says lane acked lane.state f b)) refl (omega (arith, frame_weighs f)) (frame_rank lane lane.state f b)
act_less lane acked rr rs (acts.SendBlock h) r taken between newest denies refusals lost b a moves =
    subst (λ (x : SendState). lane_low x rs (send_sends (at x rs r taken between newest denies refusals (acts.SendBlock h)) h lost) < lane_low x rs (at x rs r taken between newest denies refusals (acts.SendBlock h))) (sym b)
    (block_less rs r taken between newest denies refusals h (has_top (stand (send_aborts lane.state) (phase_by lane.ask acked lane.state)) rr taken between newest a (block_says lane acked lane.state b)) lost)
act_less lane acked rr rs acts.Read r taken between newest denies refusals lost b a moves = read_less lane.state rs r taken between newest denies refusals (top_by newest taken) b refl moves
act_less lane acked rr rs acts.Stop r taken between newest denies refusals lost b a moves = cc

pub act_still : (st : SendState) (rs : RecvState) (act : SendAct) (r : RecvHold) (taken : Option Link) (between : List Link) (newest : Option Link) (denies refusals : ℕ) (lost : Option ℕ)
    → send_moves (at st rs r taken between newest denies refusals act) ≡ false → send_does (at st rs r taken between newest denies refusals act) lost act ≡ at st rs r taken between newest denies refusals act
act_still st rs acts.Read r taken between newest denies refusals lost moves = read_still st rs r taken between newest denies refusals (top_by newest taken) moves
act_still st rs acts.Stop r taken between newest denies refusals lost moves = refl
act_still st rs act r taken between newest denies refusals lost moves = cc
