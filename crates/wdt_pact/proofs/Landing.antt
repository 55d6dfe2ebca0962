-- A receiver's lane begins a block, and lands it.
use Rattle.std.proofs.Common.{◌≡◌, ◌≢◌, ℕ, suc, ◌-◌, ◌<◌, min, Bool, true, false, List, [], ◌∷◌, ◌++◌, length, map, option_map, Option, Some, None, subst, sym, ap, ◌∙◌, refl, arith, eq-eqb, length-append}
use Rattle.std.proofs.lemmas.Bool.{both_ways, ne_eqb}
use Rattle.std.proofs.lemmas.List.{length-replicate, length-set, map-append}
use Rattle.wdt_units.specs.declared.blocks.Block.{Block}
use Rattle.wdt_units.specs.declared.blocks.Header.{Header}
use Rattle.wdt_codec.specs.declared.frames.Frame.TheVariants as frames
use Rattle.wdt_sender_fsm.specs.Phases.{Phase, Sending as SendingPhase, Mid, Framed, piece_from, piece_most, with_left}
use Rattle.wdt_sender_fsm.specs.Rules.{is_failure}
use Rattle.wdt_receiver_fsm.specs.declared.acts.RecvAct.TheVariants as recv_acts
use Rattle.wdt_receiver_fsm.specs.declared.events.RecvEvent.{RecvEvent}
use Rattle.wdt_receiver_fsm.specs.declared.events.RecvEvent.TheVariants as recv_events
use Rattle.wdt_receiver_fsm.specs.declared.inputs.RecvIn.TheVariants as recv_inputs
use Rattle.wdt_receiver_fsm.specs.declared.states.RecvLane.{RecvLane}
use Rattle.wdt_receiver_fsm.specs.declared.states.RecvState.{RecvState}
use Rattle.wdt_receiver_fsm.specs.declared.states.RecvState.TheVariants as recv_states
use Rattle.wdt_receiver_fsm.specs.Logging.{all_logged, all_logged_by, flush_by}
use Rattle.wdt_receiver_fsm.specs.Outcomes.{landed_by}
use Rattle.wdt_receiver_fsm.specs.Phases.{sized_by}
use Rattle.wdt_receiver_fsm.specs.Plan.{Plan}
use Rattle.wdt_receiver_fsm.specs.PlainReceiver.{PlainReceiver, goes, is_batch_full, lane_at, lane_or_ended, past_at, state_at}
use Rattle.wdt_receiver_fsm.specs.Receiver.{Fares}
use Rattle.wdt_receiver_fsm.specs.ReceiverHistory.{RecvPast, end_of, past_from}
use Rattle.wdt_receiver_fsm.specs.Rows.{Piece, piece_row}
use Rattle.wdt_receiver_fsm.specs.Turn.{Bytes, Step, logs_by, piece_by, piece_plan, reads}
use Rattle.wdt_pact.specs.Links.{Link}
use Rattle.wdt_pact.specs.Pairs.{SendHold, RecvDoes, RecvHas, RecvTook, Pair}
use Rattle.wdt_pact.specs.World.{PlainWorld, ended, number, pair_at, recv_steps, recv_turn, some_bytes}
use Rattle.wdt_pact.specs.Stances.{Stance, Talks, Agrees, send_stance, stand}
use Rattle.wdt_pact.specs.Lists.{Splits-land, Splits-same, ListsBy, AskedBy, UnsentBy, blocks_in, flying}
use Rattle.wdt_pact.specs.Conversation.{Common, IsNamed, Sending, Receiving, Converses, Conversation, common, known_header, receiving_of, sending}
use Rattle.wdt_pact.proofs.Below.{get_set, set_other}
use Rattle.wdt_pact.proofs.Grows.{row_turn}
use Rattle.wdt_pact.proofs.Promised.{ReceiverKeeps}
use Rattle.wdt_pact.proofs.Lists.{Each-append}
use Rattle.wdt_pact.proofs.RecvRows.{Behind, recv_entry_keeps, recv_fares}
use Rattle.wdt_pact.proofs.Tellings.{tells_landed}

with_some : (n : ℕ) → with_left (suc n) ≡ Mid (suc n)
with_some n = rw (ne_eqb (suc n) 0 (λ e. omega (arith, e))) refl

-- ---- a block with bytes begins: the lane's part

abbrev commanding : RecvLane → RecvPast → List Header → Option Header → Receiving
commanding lane past landed begun = record { lane = record lane { state = recv_states.ReadNextCmd; is_sized = true }; past = past; landed = landed; begun = begun }

abbrev got : SendHold → Header → Link → List Link → Option Link → ℕ → ℕ → Pair
got s h k between newest denies refusals = record { send = s; recv = RecvHas (recv_inputs.Got (frames.Block h)); taken = Some k; between = between; newest = newest; denies = denies; refusals = refusals }

pub begins_here : (g : Common) (l : ℕ) (s : Sending) (lane : RecvLane) (past after : RecvPast) (landed : List Header) (begun : Option Header) (h : Header) (b : Block) (n : ℕ) (hold : SendHold) (k : Link) (between : List Link) (newest : Option Link) (denies refusals : ℕ)
    → begun ≡ None → past.is_idle ≡ false → past.is_closed ≡ false → (g.finish ≡ true → ⊥)
    → h.length ≡ suc n → after ≡ record past { begun = Some b }
    → Converses g l s (commanding lane past landed begun) (got hold h k between newest denies refusals)
    → Converses g l s record { lane = record lane { state = recv_states.TakeBlock; is_sized = true; left = suc n }; past = after; landed = landed; begun = Some h } (record (got hold h k between newest denies refusals) { recv = RecvDoes (recv_acts.TakePiece (min (suc n) piece_most)) })
begins_here g l s lane past after landed begun h b n hold k between newest denies refusals none busy opens unfinished some is c =
    let phase : with_left h.length ≡ Mid (suc n) = ap with_left some ∙ with_some n in
    let fly : flying begun (Framed (frames.Block h) ∷ []) k.down.sent ≡ flying (Some h) [] k.down.sent = ap (λ (o : Option Header). flying o (Framed (frames.Block h) ∷ []) k.down.sent) none in
    subst (λ (x : RecvPast). Converses g l s record { lane = record lane { state = recv_states.TakeBlock; is_sized = true; left = suc n }; past = x; landed = landed; begun = Some h } (record (got hold h k between newest denies refusals) { recv = RecvDoes (recv_acts.TakePiece (min (suc n) piece_most)) })) (sym is)
    record {
      agrees = subst (λ (p : Phase). Agrees (send_stance s.lane s.past.is_acked hold) (Talks p) (Some k) between newest) phase c.agrees;
      lists =
          record {
            rest = c.lists.rest;
            same = Splits-same s.kept landed (flying begun (Framed (frames.Block h) ∷ []) k.down.sent ++ c.lists.rest) (flying (Some h) [] k.down.sent ++ c.lists.rest) c.lists.same (ap (λ (hs : List Header). hs ++ c.lists.rest) fly);
            live = c.lists.live;
            dead = λ e. sym fly ∙ c.lists.dead e;
          };
      sure = c.sure;
      upward = c.upward;
      fits = c.fits;
      notes = c.notes;
      closed = λ e. let x = c.closed e in record { there = x.there; same = x.same };
      asked = λ e. let x = c.asked e in (Splits-same s.kept landed (flying begun (Framed (frames.Block h) ∷ []) k.down.sent) (flying (Some h) [] k.down.sent) x.0 fly, x.1);
      finished = λ e. absurd (unfinished e);
      pieces = refl;
      waits = c.waits;
      idle = λ e. absurd (both_ways past.is_idle busy e);
      shut = λ e. absurd (both_ways past.is_closed opens e);
      heard_up = c.heard_up;
      heard_down = tt;
    }

-- ---- it lands: the lane's part

abbrev taking : RecvLane → RecvPast → List Header → Option Header → Receiving
taking lane past landed begun = record { lane = record lane { state = recv_states.TakeBlock }; past = past; landed = landed; begun = begun }

abbrev took : SendHold → ℕ → Option Link → List Link → Option Link → ℕ → ℕ → Pair
took s n taken between newest denies refusals = record { send = s; recv = RecvTook n; taken = taken; between = between; newest = newest; denies = denies; refusals = refusals }

lists_land : (k : Link) (kept landed : List Header) (h : Header) (IsRest : List Header → Type 0) → ListsBy (Talks SendingPhase) (Some k) kept landed (Some h) [] IsRest → ListsBy (Talks SendingPhase) (Some k) kept (landed ++ h ∷ []) None [] IsRest
lists_land k kept landed h IsRest x =
    record {
      rest = x.rest;
      same = Splits-land kept landed (blocks_in k.down.sent ++ x.rest) h x.same;
      live = x.live;
      dead = λ e. let y = x.dead e in cc;
    }

stance_is : (lane : RecvLane) (n : ℕ) → n ≡ min lane.left piece_most → lane.left - n ≡ 0 → piece_from lane.left n ≡ Some SendingPhase
stance_is lane n is none = rw (eq-eqb n (min lane.left piece_most) is, none) refl

pub lands_here : (g : Common) (l : ℕ) (s : Sending) (lane : RecvLane) (past after : RecvPast) (landed : List Header) (begun : Option Header) (h : Header) (b : Block) (n : ℕ) (hold : SendHold) (taken : Option Link) (between : List Link) (newest : Option Link) (denies refusals : ℕ)
    → past.is_idle ≡ false → past.is_closed ≡ false → (g.finish ≡ true → ⊥) → lane.is_sized ≡ true
    → lane.left - n ≡ 0 → begun ≡ Some h → after ≡ record past { landed = past.landed ++ b ∷ []; begun = None }
    → Converses g l s (taking lane past landed begun) (took hold n taken between newest denies refusals)
    → Converses g l s record { lane = record lane { state = recv_states.ReadNextCmd; left = 0 }; past = after; landed = landed ++ h ∷ []; begun = None } (record (took hold n taken between newest denies refusals) { recv = RecvDoes recv_acts.Read })
lands_here g l s lane past after landed begun h b n hold None between newest denies refusals busy opens unfinished sized last is_begun is c =
    let st = stance_is lane n c.pieces last in
    let x = c.agrees.on_taken.1 in cc
lands_here g l s lane past after landed begun h b n hold (Some k) between newest denies refusals busy opens unfinished sized last is_begun is c =
    let st : stand false (piece_from lane.left n) ≡ Talks SendingPhase = ap (stand false) (stance_is lane n c.pieces last) in
    let ag = subst (λ (x : Stance). Agrees (send_stance s.lane s.past.is_acked hold) x (Some k) between newest) st c.agrees in
    let li = subst (λ (o : Option Header). ListsBy (Talks SendingPhase) (Some k) s.kept landed o [] (UnsentBy newest s.lane.state hold)) is_begun (subst (λ (x : Stance). ListsBy x (Some k) s.kept landed begun [] (UnsentBy newest s.lane.state hold)) st c.lists) in
    let aq = subst (λ (o : Option Header). AskedBy (Talks SendingPhase) (Some k) s.kept landed o [] s.past.claims.held) is_begun (subst (λ (x : Stance). AskedBy x (Some k) s.kept landed begun [] s.past.claims.held) st c.asked) in
    let on : Talks (sized_by lane.is_sized) ≡ Talks SendingPhase = ap (λ (x : Bool). Talks (sized_by x)) sized in
    subst (λ (x : RecvPast). Converses g l s record { lane = record lane { state = recv_states.ReadNextCmd; left = 0 }; past = x; landed = landed ++ h ∷ []; begun = None } (record (took hold n (Some k) between newest denies refusals) { recv = RecvDoes recv_acts.Read })) (sym is)
    record {
      agrees = subst (λ (x : Stance). Agrees (send_stance s.lane s.past.is_acked hold) x (Some k) between newest) (sym on) ag;
      lists = subst (λ (x : Stance). ListsBy x (Some k) s.kept (landed ++ h ∷ []) None [] (UnsentBy newest s.lane.state hold)) (sym on) (lists_land k s.kept landed h (UnsentBy newest s.lane.state hold) li);
      sure = omega (arith, c.sure, length-append landed (h ∷ []));
      upward = tells_landed g l landed (landed ++ h ∷ []) s.lane s.past.is_acked hold (send_stance s.lane s.past.is_acked hold) k newest refl ag.on_taken ag.on_newest c.upward;
      fits = c.fits;
      notes = c.notes;
      closed = λ e. absurd (both_ways past.is_closed opens (c.closed e).there);
      asked = subst (λ (x : Stance). AskedBy x (Some k) s.kept (landed ++ h ∷ []) None [] s.past.claims.held) (sym on) (λ e. let x = aq e in (Splits-land s.kept landed (blocks_in k.down.sent) h x.0, x.1));
      finished = λ e. absurd (unfinished e);
      pieces = tt;
      waits = c.waits;
      idle = λ e. absurd (both_ways past.is_idle busy e);
      shut = λ e. absurd (both_ways past.is_closed opens e);
      heard_up = c.heard_up;
      heard_down = tt;
    }

-- ---- it lands: the step

quiet_land : (k l : ℕ) (p : RecvPast) → k ≢ l → past_from k p (recv_events.Land (number l) ∷ []) ≡ p
quiet_land k l p ne = rw (ne_eqb l k (λ e. ne (sym e))) refl

land_there : (l : ℕ) (p : RecvPast) (b : Block) → p.begun ≡ Some b → past_from l p (recv_events.Land (number l) ∷ []) ≡ record p { landed = p.landed ++ b ∷ []; begun = None }
land_there l p b begun = rw (eq-eqb l l refl, begun) refl

-- the flush makes no difference to what is said here
ended_flush : {S : Type 0} (r : PlainReceiver) (bs : List Block) (broken : S) (next : PlainReceiver → Plan S) → ended (flush_by r bs broken next) None ≡ ended (next (all_logged_by r bs)) None
ended_flush r [] broken next = refl
ended_flush r (b ∷ bs) broken next = refl

-- what stands behind a landed block
abbrev pub logged_if : Bool → PlainReceiver → PlainReceiver
logged_if true r = all_logged r
logged_if false r = r

logs_end : (b : Bool) (r : PlainReceiver) (l n : ℕ) → ended (logs_by r (number l) (Piece (some_bytes n)) b) None ≡ reads (goes (logged_if b r) l recv_states.ReadNextCmd)
logs_end true r l n = ended_flush r r.unlogged _ _
logs_end false r l n = refl

pub behind_logged : (r t : PlainReceiver) (l : ℕ) (lane : RecvLane) (es : List RecvEvent) (bs : List Block) → Behind r t l lane es → Behind r (all_logged_by t bs) l lane es
behind_logged r t l lane es [] b = b
behind_logged r t l lane es (x ∷ xs) b = record { opening = b.opening; known = b.known; history = b.history; lanes = b.lanes; own = b.own; others = b.others }

pub behind_if : (c : Bool) (r t : PlainReceiver) (l : ℕ) (lane : RecvLane) (es : List RecvEvent) → Behind r t l lane es → Behind r (logged_if c t) l lane es
behind_if true r t l lane es b = behind_logged r t l lane es t.unlogged b
behind_if false r t l lane es b = b

pub behind_goes : (r t : PlainReceiver) (l : ℕ) (lane : RecvLane) (es : List RecvEvent) (st : RecvState) → l < length r.lanes → Behind r t l lane es → Behind r (goes t l st) l (record lane { state = st }) es
behind_goes r t l lane es st within b =
    record {
      opening = b.opening;
      known = b.known;
      history = b.history;
      lanes = length-set t.lanes l (record (lane_at t l) { state = st }) ∙ b.lanes;
      own = ap lane_or_ended (get_set t.lanes l (record (lane_at t l) { state = st }) (subst (λ (n : ℕ). l < n) (sym b.lanes) within)) ∙ ap (λ (x : RecvLane). record x { state = st }) b.own;
      others = λ j ne. ap lane_or_ended (set_other t.lanes l j (record (lane_at t l) { state = st }) ne) ∙ b.others j ne;
    }

landed_behind : (r : PlainReceiver) (l : ℕ) (b : Block) → l < length r.lanes → Behind r (landed_by r (number l) b) l (record (lane_at r l) { left = 0 }) (recv_events.Land (number l) ∷ [])
landed_behind r l b within =
    record {
      opening = refl;
      known = refl;
      history = refl;
      lanes = length-set r.lanes l (record (lane_at r l) { left = 0 });
      own = ap lane_or_ended (get_set r.lanes l (record (lane_at r l) { left = 0 }) within);
      others = λ j ne. ap lane_or_ended (set_other r.lanes l j (record (lane_at r l) { left = 0 }) ne);
    }

lands_turn : (r : PlainReceiver) (l n : ℕ) (b : Block) → state_at r l ≡ recv_states.TakeBlock → is_failure r.answer ≡ false → (past_at r l).begun ≡ Some b → (lane_at r l).left - n ≡ 0
    → recv_turn r l (Bytes (some_bytes n)) None ≡ reads (goes (logged_if (is_batch_full (landed_by r (number l) b)) (landed_by r (number l) b)) l recv_states.ReadNextCmd)
lands_turn r l n b here sound begun last =
    ap (λ (x : Plan Step). ended x None) (row_turn r l (Bytes (some_bytes n)) (Piece (some_bytes n)) (ap (λ (x : RecvState). piece_row x (some_bytes n)) here) refl refl sound
    ∙ ap (piece_plan r (number l) (some_bytes n)) begun)
    ∙ (ap (λ (k : ℕ). ended (piece_by r (number l) b (Piece (some_bytes n)) k) None) (ap (λ (k : ℕ). (lane_at r l).left - k) (length-some n) ∙ last)
    ∙ logs_end (is_batch_full (landed_by r (number l) b)) (landed_by r (number l) b) l n) where
      length-some : (k : ℕ) → length (some_bytes k) ≡ k
      length-some k = length-replicate k 0

pub land_keeps : ReceiverKeeps → (w : PlainWorld) (l n : ℕ) → Conversation w → l < length w.pairs → state_at w.receiver l ≡ recv_states.TakeBlock → is_failure w.receiver.answer ≡ false → (pair_at w l).recv ≡ RecvTook n → (lane_at w.receiver l).left - n ≡ 0
    → (b : Block) → (past_at w.receiver l).begun ≡ Some b → Conversation (recv_steps w l None)
land_keeps keeps w l n c within here sound holds last b begun =
    recv_entry_keeps keeps w l None recv_states.TakeBlock (RecvTook n) (Bytes (some_bytes n)) (recv_events.Land (number l) ∷ []) recv_acts.Read after new c within here holds refl
    (lands_turn w.receiver l n b here sound begun last)
    (behind_goes w.receiver _ l (record lane { left = 0 }) (recv_events.Land (number l) ∷ []) recv_states.ReadNextCmd below
    (behind_if (is_batch_full (landed_by w.receiver (number l) b)) w.receiver (landed_by w.receiver (number l) b) l (record lane { left = 0 }) (recv_events.Land (number l) ∷ []) (landed_behind w.receiver l b below)))
    refl fares.0.goes_on.closed (λ k p ne. quiet_land k l p ne)
    (subst (IsNamed w.receiver.known) (sym there) record { landed = Each-append _ past.landed (b ∷ []) (c.named l within).landed ((c.named l within).begun b begun, tt); begun = λ x e. cc })
    (λ at. subst (λ (x : Receiving). Converses (common w.receiver) l (sending w.sender l) x (record p { recv = RecvDoes recv_acts.Read })) (sym own)
    (lands_here (common w.receiver) l (sending w.sender l) lane past (past_from l past (recv_events.Land (number l) ∷ [])) (map (known_header w.receiver.known) past.landed) (option_map (known_header w.receiver.known) past.begun) (known_header w.receiver.known b) b n
    p.send p.taken p.between p.newest p.denies p.refusals fares.0.idle fares.0.goes_on.closed (λ e. both_ways (common w.receiver).finish fares.0.finish e) fares.2 last (ap (option_map (known_header w.receiver.known)) begun) there at)) where
      p : Pair
      p = pair_at w l

      lane : RecvLane
      lane = lane_at w.receiver l

      past : RecvPast
      past = past_at w.receiver l

      new : RecvLane
      new = record lane { state = recv_states.ReadNextCmd; left = 0 }

      after : PlainReceiver
      after = goes (logged_if (is_batch_full (landed_by w.receiver (number l) b)) (landed_by w.receiver (number l) b)) l recv_states.ReadNextCmd

      below : l < length w.receiver.lanes
      below = subst (λ (i : ℕ). l < i) (sym c.recv_lanes) within

      fares : Fares (is_failure w.receiver.answer) recv_states.TakeBlock lane past (end_of w.receiver.history)
      fares = recv_fares w l recv_states.TakeBlock c within here

      there : past_from l past (recv_events.Land (number l) ∷ []) ≡ record past { landed = past.landed ++ b ∷ []; begun = None }
      there = land_there l past b begun

      own : receiving_of w.receiver.known new (past_from l past (recv_events.Land (number l) ∷ [])) ≡ record { lane = new; past = past_from l past (recv_events.Land (number l) ∷ []); landed = map (known_header w.receiver.known) past.landed ++ known_header w.receiver.known b ∷ []; begun = None }
      own =
          ap (λ (q : RecvPast). record { lane = new; past = past_from l past (recv_events.Land (number l) ∷ []); landed = map (known_header w.receiver.known) q.landed; begun = option_map (known_header w.receiver.known) q.begun }) there
          ∙ ap (λ (hs : List Header). record { lane = new; past = past_from l past (recv_events.Land (number l) ∷ []); landed = hs; begun = None }) (map-append (known_header w.receiver.known) past.landed (b ∷ []))
