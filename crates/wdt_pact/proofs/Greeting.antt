-- A sender's lane is told its count.
use Rattle.std.proofs.Common.{◌≡◌, ◌≢◌, ℕ, ◌<◌, ◌≤◌, List, [], ◌∷◌, ◌++◌, length, map, Bool, true, false, Option, Some, None, is_some, subst, sym, ap, ◌∙◌, refl, arith, eq-eqb}
use Rattle.std.proofs.lemmas.Bool.{both_ways, le-leb, ne_eqb}
use Rattle.std.proofs.lemmas.List.{length-map}
use Rattle.wdt_units.specs.declared.blocks.Header.{Header}
use Rattle.wdt_codec.specs.declared.frames.Frame.{Frame}
use Rattle.wdt_codec.specs.declared.frames.Frame.TheVariants as frames
use Rattle.wdt_codec.specs.declared.frames.Mark.{Mark}
use Rattle.wdt_sender_fsm.specs.declared.acts.SendAct.{SendAct}
use Rattle.wdt_sender_fsm.specs.declared.acts.SendAct.TheVariants as acts
use Rattle.wdt_sender_fsm.specs.declared.inputs.SendIn.TheVariants as inputs
use Rattle.wdt_sender_fsm.specs.declared.states.SendState.{SendState}
use Rattle.wdt_sender_fsm.specs.declared.states.SendState.TheVariants as states
use Rattle.wdt_sender_fsm.specs.Phases.{Message, Listing, Told}
use Rattle.wdt_sender_fsm.specs.SenderHistory.{LanePast, past_after}
use Rattle.wdt_claims.specs.LaneWords.{Claims, cut_to}
use Rattle.wdt_sender_fsm.specs.declared.events.SendEvent.{SendEvent}
use Rattle.wdt_sender_fsm.specs.declared.events.SendEvent.TheVariants as events
use Rattle.wdt_sender_fsm.specs.declared.states.SendLane.{SendLane}
use Rattle.wdt_sender_fsm.specs.Faults.{count_fault}
use Rattle.wdt_sender_fsm.specs.PlainSender.{PlainSender, lane_at, state_at, past_at, is_closed, size_of_tree, noted, with_lane}
use Rattle.wdt_sender_fsm.specs.Rules.{is_failure}
use Rattle.wdt_sender_fsm.specs.Sender.{FitsIn}
use Rattle.wdt_sender_fsm.specs.Turn.{greeted_by, send_turn}
use Rattle.wdt_pact.proofs.Promised.{SenderKeeps}
use Rattle.wdt_pact.proofs.Rows.{entry_keeps, fares_in, row_at, stands_in}
use Rattle.wdt_pact.specs.Links.{Link}
use Rattle.wdt_pact.specs.Pairs.{SendHas, RecvHold, Pair, send_takes}
use Rattle.wdt_pact.specs.World.{number, PlainWorld, pair_at, send_steps}
use Rattle.wdt_pact.specs.Stances.{Stance, Talks, Aborts, Silent, recv_stance}
use Rattle.wdt_pact.specs.Lists.{Splits-cut, Splits-same, cut_heads, cut_heads-map, in_hand, ListsBy, UnsentBy, AskedBy, RestBy, flying, flying_by}
use Rattle.wdt_pact.specs.Conversation.{Common, Sending, Receiving, Converses, Conversation, sent_header, common, sending, receiving}
use Rattle.wdt_pact.proofs.Links.{waits_not}
use Rattle.wdt_pact.proofs.Lists.{landed_few}

rest_none : (rs : Stance) (IsRest : List Header → Type 0) → IsRest [] → RestBy rs IsRest []
rest_none (Talks q) IsRest x = x
rest_none Aborts IsRest x = tt
rest_none Silent IsRest x = tt

lists_greet : (rs : Stance) (k : Link) (b : Bool) (kept landed : List Header) (begun : Option Header) (hand : List Message) (IsRest : List Header → Type 0) (n : ℕ) → k.greeted ≡ false → b ≡ true → n ≡ length landed → ListsBy rs (Some k) kept landed begun hand IsRest → ListsBy rs (Some record k { greeted = b }) (cut_heads n kept) landed begun hand (λ rest. rest ≡ [])
lists_greet rs k b kept landed begun hand IsRest n fresh told is x =
    let none : flying_by rs begun hand k.down.sent ≡ [] = x.dead fresh in
    record {
      rest = [];
      same = Splits-same (cut_heads n kept) landed [] (flying_by rs begun hand k.down.sent ++ []) (Splits-cut kept landed (flying_by rs begun hand k.down.sent ++ x.rest) n is x.same) (ap (λ (xs : List Header). xs ++ []) (sym none));
      live = λ e. rest_none rs (λ rest. rest ≡ []) refl;
      dead = λ e. none;
    }

asked_greet : (rs : Stance) (k : Link) (b held : Bool) (kept landed : List Header) (begun : Option Header) (hand : List Message) (IsRest : List Header → Type 0) (n : ℕ) → k.greeted ≡ false → n ≡ length landed → held ≡ false → ListsBy rs (Some k) kept landed begun hand IsRest
    → AskedBy rs (Some record k { greeted = b }) (cut_heads n kept) landed begun hand held
asked_greet (Talks q) k b held kept landed begun hand IsRest n fresh is none x = λ e.
    (Splits-same (cut_heads n kept) landed [] (flying begun hand k.down.sent) (Splits-cut kept landed (flying begun hand k.down.sent ++ x.rest) n is x.same) (sym (x.dead fresh)), none)
asked_greet Aborts k b held kept landed begun hand IsRest n fresh is none x = tt
asked_greet Silent k b held kept landed begun hand IsRest n fresh is none x = tt

abbrev state_by : Bool → SendState
state_by true = states.ReadFileChunks
state_by false = states.SendSize

abbrev act_by : Bool → Frame → SendAct
act_by true f = acts.Read
act_by false f = acts.Write f

abbrev held : Mark → RecvHold → Option Link → List Link → Option Link → ℕ → ℕ → Pair
held m hold taken between newest denies refusals = record { send = SendHas (inputs.Got (frames.Greeting m)); recv = hold; taken = taken; between = between; newest = newest; denies = denies; refusals = refusals }

abbrev reading : Bool → LanePast → List Header → Sending
reading ask past kept = record { lane = record { state = states.ReadLocalCheckpoint; ask = ask }; past = past; kept = kept }

closed_not : {P : Type 0} (o : Option ℕ) → o ≡ None → is_some o ≡ true → P
closed_not o opens e = absurd (both_ways (is_some o) (ap is_some opens) e)

-- the lane's part
pub greets_here : (g : Common) (l : ℕ) (ask : Bool) (past after : LanePast) (kept : List Header) (r : Receiving) (m : Mark) (hold : RecvHold) (taken : Option Link) (between : List Link) (newest : Option Link) (denies refusals : ℕ) (f : Frame)
    → past.is_greeted ≡ false → after.is_greeted ≡ true → after.claims.sure ≡ m.count → after.claims.held ≡ false → after.claims.closed ≡ None
    → Converses g l (reading ask past kept) r (held m hold taken between newest denies refusals)
    → Converses g l record { lane = record { state = state_by ask; ask = ask }; past = after; kept = cut_heads m.count kept } r (send_takes (held m hold taken between newest denies refusals) (inputs.Got (frames.Greeting m)) after.is_greeted (act_by ask f))
greets_here g l true past after kept r m hold None between None denies refusals f was told sure held_not opens c = let x = c.agrees.on_taken.0 in cc
greets_here g l false past after kept r m hold None between None denies refusals f was told sure held_not opens c = let x = c.agrees.on_taken.0 in cc
greets_here g l true past after kept r m hold taken between (Some t) denies refusals f was told sure held_not opens c = waits_not Listing t.down.sent t.up.sent c.agrees.on_newest refl
greets_here g l false past after kept r m hold taken between (Some t) denies refusals f was told sure held_not opens c = waits_not Told t.down.sent t.up.sent c.agrees.on_newest refl
greets_here g l true past after kept r m hold (Some k) between None denies refusals f was told sure held_not opens c =
    let is : m.count ≡ length r.landed = c.upward.0.1 in
    record {
      agrees = record { on_taken = c.agrees.on_taken; waiting = c.agrees.waiting; on_newest = tt };
      lists = lists_greet (recv_stance r.lane r.past.is_idle r.past.is_acked hold) k after.is_greeted kept r.landed r.begun (in_hand hold) (UnsentBy None states.ReadLocalCheckpoint (SendHas (inputs.Got (frames.Greeting m)))) m.count (c.notes ∙ was) told is c.lists;
      sure = omega (arith, sure, is);
      upward = c.upward.1;
      fits = c.fits.1;
      notes = refl;
      closed = λ e. closed_not after.claims.closed opens e;
      asked = asked_greet (recv_stance r.lane r.past.is_idle r.past.is_acked hold) k after.is_greeted after.claims.held kept r.landed r.begun (in_hand hold) (UnsentBy None states.ReadLocalCheckpoint (SendHas (inputs.Got (frames.Greeting m)))) m.count (c.notes ∙ was) is held_not c.lists;
      finished = λ e. let f = c.finished e in record { same = Splits-cut kept r.landed [] m.count is f.same; holds = held_not };
      pieces = c.pieces;
      waits = c.waits;
      idle = λ e. let x = (c.idle e).late refl in cc;
      shut = c.shut;
      heard_up = tt;
      heard_down = c.heard_down;
    }
greets_here g l false past after kept r m hold (Some k) between None denies refusals f was told sure held_not opens c =
    let is : m.count ≡ length r.landed = c.upward.0.1 in
    record {
      agrees = record { on_taken = c.agrees.on_taken; waiting = c.agrees.waiting; on_newest = tt };
      lists = lists_greet (recv_stance r.lane r.past.is_idle r.past.is_acked hold) k after.is_greeted kept r.landed r.begun (in_hand hold) (UnsentBy None states.ReadLocalCheckpoint (SendHas (inputs.Got (frames.Greeting m)))) m.count (c.notes ∙ was) told is c.lists;
      sure = omega (arith, sure, is);
      upward = c.upward.1;
      fits = c.fits.1;
      notes = refl;
      closed = λ e. closed_not after.claims.closed opens e;
      asked = asked_greet (recv_stance r.lane r.past.is_idle r.past.is_acked hold) k after.is_greeted after.claims.held kept r.landed r.begun (in_hand hold) (UnsentBy None states.ReadLocalCheckpoint (SendHas (inputs.Got (frames.Greeting m)))) m.count (c.notes ∙ was) is held_not c.lists;
      finished = λ e. let f = c.finished e in record { same = Splits-cut kept r.landed [] m.count is f.same; holds = held_not };
      pieces = c.pieces;
      waits = c.waits;
      idle = λ e. let x = (c.idle e).late refl in cc;
      shut = c.shut;
      heard_up = tt;
      heard_down = c.heard_down;
    }

-- what it is told is so
told_here : (g : Common) (l : ℕ) (ask : Bool) (past : LanePast) (kept : List Header) (r : Receiving) (m : Mark) (hold : RecvHold) (taken : Option Link) (between : List Link) (newest : Option Link) (denies refusals : ℕ)
    → Converses g l (reading ask past kept) r (held m hold taken between newest denies refusals) → (m.lane.0 ≡ l) × (m.count ≡ length r.landed)
told_here g l ask past kept r m hold None between None denies refusals c = let x = c.agrees.on_taken.0 in cc
told_here g l ask past kept r m hold (Some k) between None denies refusals c = c.upward.0
told_here g l ask past kept r m hold taken between (Some t) denies refusals c = c.upward.0

-- ---- the step

-- a right count has no fault
right_count : (s : Claims) (n : ℕ) → s.closed ≡ None → s.sure ≤ n → n ≤ length s.kept → count_fault s n ≡ None
right_count s n opens low high = rw (opens, le-leb s.sure n low, le-leb n (length s.kept) high) refl

-- what the turn is
turn_is : (s : PlainSender) (l : ℕ) (m : Mark) → state_at s l ≡ states.ReadLocalCheckpoint → is_closed s l ≡ false → is_failure s.answer ≡ false → m.lane.0 ≡ l → count_fault (past_at s l).claims m.count ≡ None
    → send_turn s (number l) (inputs.Got (frames.Greeting m)) ≡ greeted_by (noted s (events.Greet (number l) m.count ∷ [])) (number l) (lane_at s l).ask
unfolding send_turn
turn_is s l m here opens sound own right = rw (here, opens, sound, eq-eqb m.lane.0 l own, right) refl

-- a turn that ends so
ended_by : (s : PlainSender) (l : ℕ) (e : SendEvent) (ask : Bool) → greeted_by (noted s (e ∷ [])) (number l) ask ≡ (act_by ask (size_of_tree s), with_lane (noted s (e ∷ [])) (number l) record { state = state_by ask; ask = (lane_at s l).ask })
ended_by s l e true = refl
ended_by s l e false = refl

quiet_greet : (k l n : ℕ) (p : LanePast) → k ≢ l → past_after k p (events.Greet (number l) n) ≡ p
quiet_greet k l n p ne = rw (ne_eqb l k (λ e. ne (sym e))) refl

greeted_there : (l n : ℕ) (p : LanePast) → (past_after l p (events.Greet (number l) n)).is_greeted ≡ true
greeted_there l n p = rw (eq-eqb l l refl) refl

claims_there : (l n : ℕ) (p : LanePast) → (past_after l p (events.Greet (number l) n)).claims ≡ cut_to n 0 p.claims
claims_there l n p = rw (eq-eqb l l refl) refl

pub greeting_keeps : SenderKeeps → (w : PlainWorld) (l : ℕ) (lost : Option ℕ) (m : Mark) → Conversation w → l < length w.pairs → state_at w.sender l ≡ states.ReadLocalCheckpoint → (past_at w.sender l).claims.closed ≡ None → is_failure w.sender.answer ≡ false
    → (pair_at w l).send ≡ SendHas (inputs.Got (frames.Greeting m)) → FitsIn (inputs.Got (frames.Greeting m)) → Conversation (send_steps w l lost)
greeting_keeps keeps w l lost m c within here opens sound holds fits =
    entry_keeps keeps w l lost states.ReadLocalCheckpoint (inputs.Got (frames.Greeting m)) e (act_by ask (size_of_tree w.sender)) new c within here holds fits is
    (λ k p ne. quiet_greet k l m.count p ne)
    (λ lane. subst (λ (xs : List Header). Converses (common w.receiver) l record { lane = new; past = after; kept = xs } (receiving w.receiver l) (send_takes (record p { send = SendHas (inputs.Got (frames.Greeting m)) }) (inputs.Got (frames.Greeting m)) after.is_greeted (act_by ask (size_of_tree w.sender)))) (sym own)
    (greets_here (common w.receiver) l ask past after kept (receiving w.receiver l) m p.recv p.taken p.between p.newest p.denies p.refusals (size_of_tree w.sender)
    (fares_in w l states.ReadLocalCheckpoint c within here opens).greeted
    (greeted_there l m.count past) (ap (λ (x : Claims). x.sure) claims) (ap (λ (x : Claims). x.held) claims) (ap (λ (x : Claims). x.closed) claims ∙ opens) lane)) where
      p : Pair
      p = pair_at w l

      ask : Bool
      ask = (lane_at w.sender l).ask

      past : LanePast
      past = past_at w.sender l

      kept : List Header
      kept = (sending w.sender l).kept

      e : SendEvent
      e = events.Greet (number l) m.count

      new : SendLane
      new = record { state = state_by ask; ask = ask }

      after : LanePast
      after = past_after l past e

      claims : after.claims ≡ cut_to m.count 0 past.claims
      claims = claims_there l m.count past

      at : Converses (common w.receiver) l (stands_in w.sender l states.ReadLocalCheckpoint) (receiving w.receiver l) (record p { send = SendHas (inputs.Got (frames.Greeting m)) })
      at = row_at w l states.ReadLocalCheckpoint (inputs.Got (frames.Greeting m)) c within here holds

      told : (m.lane.0 ≡ l) × (m.count ≡ length (receiving w.receiver l).landed)
      told = told_here (common w.receiver) l ask past kept (receiving w.receiver l) m p.recv p.taken p.between p.newest p.denies p.refusals at

      claimed : length (receiving w.receiver l).landed ≤ length past.claims.kept
      claimed = subst (λ (n : ℕ). length (receiving w.receiver l).landed ≤ n) (length-map past.claims.kept (sent_header w.sender.manifest)) (landed_few _ _ _ _ _ _ _ at.lists)

      is : send_turn w.sender (number l) (inputs.Got (frames.Greeting m)) ≡ (act_by ask (size_of_tree w.sender), with_lane (noted w.sender (e ∷ [])) (number l) new)
      is =
          turn_is w.sender l m here (ap is_some opens) sound told.0
          (right_count past.claims m.count opens (omega (arith, at.sure, told.1)) (omega (arith, told.1, claimed)))
          ∙ ended_by w.sender l e ask

      own : map (sent_header w.sender.manifest) after.claims.kept ≡ cut_heads m.count kept
      own = ap (λ (x : Claims). map (sent_header w.sender.manifest) x.kept) claims ∙ cut_heads-map (sent_header w.sender.manifest) m.count past.claims.kept
