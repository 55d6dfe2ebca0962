-- The receiver's lane begins a block; an empty one lands at once.
use Rattle.std.proofs.Common.{◌≡◌, ℕ, zero, suc, ◌<◌, min, Bool, true, false, List, [], ◌∷◌, ◌++◌, length, map, option_map, is_some, Option, Some, None, subst, sym, ap, ◌∙◌, refl, eq-eqb}
use Rattle.std.proofs.lemmas.Bool.{both_ways}
use Rattle.std.proofs.lemmas.List.{map-append}
use Rattle.wdt_units.specs.declared.blocks.Block.{Block}
use Rattle.wdt_units.specs.declared.blocks.Header.{Header}
use Rattle.wdt_codec.specs.declared.frames.Frame.TheVariants as frames
use Rattle.wdt_logfmt.specs.Beginning.{KnownFile, block_of, is_new, known_at, size_fault}
use Rattle.wdt_logfmt.proofs.ForCallers.{known_stays}
use Rattle.wdt_sender_fsm.specs.Phases.{Phase, Sending as SendingPhase, piece_most, with_left}
use Rattle.wdt_sender_fsm.specs.Rules.{is_failure}
use Rattle.wdt_receiver_fsm.specs.declared.acts.RecvAct.TheVariants as recv_acts
use Rattle.wdt_receiver_fsm.specs.declared.events.RecvEvent.TheVariants as recv_events
use Rattle.wdt_receiver_fsm.specs.declared.inputs.RecvIn.TheVariants as recv_inputs
use Rattle.wdt_receiver_fsm.specs.declared.states.RecvLane.{RecvLane}
use Rattle.wdt_receiver_fsm.specs.declared.states.RecvState.{RecvState}
use Rattle.wdt_receiver_fsm.specs.declared.states.RecvState.TheVariants as recv_states
use Rattle.wdt_receiver_fsm.specs.Plan.{EndsIn}
use Rattle.wdt_receiver_fsm.specs.PlainReceiver.{PlainReceiver, is_ended, lane_at, noted, past_at, state_at}
use Rattle.wdt_receiver_fsm.specs.Receiver.{Fares}
use Rattle.wdt_receiver_fsm.specs.ReceiverHistory.{RecvPast, end_of}
use Rattle.wdt_receiver_fsm.specs.Touches.{Keeps}
use Rattle.wdt_receiver_fsm.specs.Turn.{Given, Step, begins, begins_by, block_fault_at, file_of_header, knows, lands, turn_plan}
use Rattle.wdt_pact.specs.Links.{Link}
use Rattle.wdt_pact.specs.Pairs.{SendHold, RecvHold, RecvDoes, RecvHas, RecvTook, Pair}
use Rattle.wdt_pact.specs.World.{PlainWorld, number, pair_at, recv_turned}
use Rattle.wdt_pact.specs.Stances.{Talks, Agrees, send_stance}
use Rattle.wdt_pact.specs.Conversation.{Common, Conversation, Converses, Receiving, Sending, common, known_header, receiving_of, sending}
use Rattle.wdt_pact.proofs.Grows.{converses_on}
use Rattle.wdt_pact.proofs.Landing.{begins_here, lands_here}
use Rattle.wdt_pact.proofs.Lists.{Each-append}
use Rattle.wdt_pact.proofs.RecvBlocks.{Begun, begun_known, begun_new, unfaulted}
use Rattle.wdt_pact.proofs.RecvOwn.{Own, named_keeps, own_goes, own_noted, own_put, own_self, side_keeps}
use Rattle.wdt_pact.proofs.RecvRows.{recv_fares, recv_row_at}
use Rattle.wdt_pact.proofs.RecvSteps.{own_keeps}

-- ---- the lane's part

module _ (g : Common) (l : ℕ) (s : Sending) (lane : RecvLane) (past : RecvPast) (landed : List Header) (h : Header) (b : Block) (hold : SendHold) (between : List Link) (newest : Option Link) (denies refusals : ℕ) (busy : past.is_idle ≡ false) (opens : past.is_closed ≡ false) (unfinished : g.finish ≡ true → ⊥) where
  abbrev at : RecvHold → Option Link → Pair
  at rh taken = record { send = hold; recv = rh; taken = taken; between = between; newest = newest; denies = denies; refusals = refusals }

  abbrev side : RecvState → ℕ → RecvPast → List Header → Option Header → Receiving
  side st left later ls begun = record { lane = record lane { state = st; is_sized = true; left = left }; past = later; landed = ls; begun = begun }

  -- a block with bytes begins
  pub fills_here : (taken : Option Link) (n : ℕ) → h.length ≡ suc n → Converses g l s (side recv_states.ReadNextCmd lane.left past landed None) (at (RecvHas (recv_inputs.Got (frames.Block h))) taken)
      → Converses g l s (side recv_states.TakeBlock (suc n) (record past { begun = Some b }) landed (Some h)) (at (RecvDoes (recv_acts.TakePiece (min (suc n) piece_most))) taken)
  fills_here None n some c = let x = c.agrees.on_taken.1 in cc
  fills_here (Some k) n some c = begins_here g l s lane past (record past { begun = Some b }) landed None h b n hold k between newest denies refusals refl busy opens unfinished some refl c

  -- an empty one is as one whose last piece is taken
  empty_taken : (k : Link) → h.length ≡ 0 → Converses g l s (side recv_states.ReadNextCmd lane.left past landed None) (at (RecvHas (recv_inputs.Got (frames.Block h))) (Some k))
      → Converses g l s (side recv_states.TakeBlock 0 (record past { begun = Some b }) landed (Some h)) (at (RecvTook 0) (Some k))
  empty_taken k none c =
      let phase : with_left h.length ≡ SendingPhase = ap with_left none in
      record {
        agrees = subst (λ (p : Phase). Agrees (send_stance s.lane s.past.is_acked hold) (Talks p) (Some k) between newest) phase c.agrees;
        lists = record { rest = c.lists.rest; same = c.lists.same; live = c.lists.live; dead = c.lists.dead };
        sure = c.sure;
        upward = c.upward;
        fits = c.fits;
        notes = c.notes;
        closed = λ e. let x = c.closed e in record { there = x.there; same = x.same };
        asked = c.asked;
        finished = λ e. absurd (unfinished e);
        pieces = refl;
        waits = c.waits;
        idle = λ e. absurd (both_ways past.is_idle busy e);
        shut = λ e. absurd (both_ways past.is_closed opens e);
        heard_up = c.heard_up;
        heard_down = tt;
      }

  -- so it lands
  pub empty_here : (taken : Option Link) → h.length ≡ 0 → Converses g l s (side recv_states.ReadNextCmd lane.left past landed None) (at (RecvHas (recv_inputs.Got (frames.Block h))) taken)
      → Converses g l s (side recv_states.ReadNextCmd 0 (record past { landed = past.landed ++ b ∷ []; begun = None }) (landed ++ h ∷ []) None) (at (RecvDoes recv_acts.Read) taken)
  empty_here None none c = let x = c.agrees.on_taken.1 in cc
  empty_here (Some k) none c =
      lands_here g l s (record lane { is_sized = true; left = 0 }) (record past { begun = Some b }) (record past { landed = past.landed ++ b ∷ []; begun = None }) landed (Some h) h b 0 hold (Some k) between newest denies refusals busy opens unfinished refl refl refl refl (empty_taken k none c)

-- ---- the step

module _ (w : PlainWorld) (l : ℕ) (c : Conversation w) (within : l < length w.pairs) (h : Header) (here : state_at w.receiver l ≡ recv_states.ReadNextCmd) (sized : (lane_at w.receiver l).is_sized ≡ true) (holds : (pair_at w l).recv ≡ RecvHas (recv_inputs.Got (frames.Block h))) where
  abbrev Ends : Step → Type 0
  Ends step = EndsIn (Unit {0}) (turn_plan w.receiver (number l) (Given (recv_inputs.Got (frames.Block h)))) step

  abbrev lane : RecvLane
  lane = lane_at w.receiver l

  abbrev past : RecvPast
  past = past_at w.receiver l

  small : l < length w.receiver.lanes
  small = subst (λ (n : ℕ). l < n) (sym c.recv_lanes) within

  fares : Fares (is_failure w.receiver.answer) recv_states.ReadNextCmd (lane_at w.receiver l) (past_at w.receiver l) (end_of w.receiver.history)
  fares = recv_fares w l recv_states.ReadNextCmd c within here

  before : Converses (common w.receiver) l (sending w.sender l) record { lane = record lane { state = recv_states.ReadNextCmd; is_sized = true }; past = past; landed = map (known_header w.receiver.known) past.landed; begun = None } (record (pair_at w l) { recv = RecvHas (recv_inputs.Got (frames.Block h)) })
  before =
      subst (λ (o : Option Block). Converses (common w.receiver) l (sending w.sender l) record { lane = record lane { state = recv_states.ReadNextCmd; is_sized = true }; past = past; landed = map (known_header w.receiver.known) past.landed; begun = option_map (known_header w.receiver.known) o } (record (pair_at w l) { recv = RecvHas (recv_inputs.Got (frames.Block h)) })) fares.1
      (subst (λ (x : Bool). Converses (common w.receiver) l (sending w.sender l) record { lane = record lane { state = recv_states.ReadNextCmd; is_sized = x }; past = past; landed = map (known_header w.receiver.known) past.landed; begun = option_map (known_header w.receiver.known) past.begun } (record (pair_at w l) { recv = RecvHas (recv_inputs.Got (frames.Block h)) })) sized
      (recv_row_at w l recv_states.ReadNextCmd (RecvHas (recv_inputs.Got (frames.Block h))) c within here holds))

  -- where its file is known now, the block begins
  begins_on : (t : PlainReceiver) (known : List (Option KnownFile)) (b : Block) → b.length ≡ h.length → Own w.receiver t l known lane past → Keeps w.receiver.known known → Begun known b h
      → (n : ℕ) → b.length ≡ n → Ends (begins_by t (number l) b n) → Conversation (recv_turned w l (begins_by t (number l) b n))
  begins_on t known b long own keeps begun (suc n) is ends =
      own_keeps w l (Given (recv_inputs.Got (frames.Block h))) (begins_by t (number l) b (suc n)) known (record lane { state = recv_states.TakeBlock; left = suc n }) (record past { begun = Some b }) c within ends (ap is_ended here)
      (subst (λ (x : RecvLane). Own w.receiver (begins_by t (number l) b (suc n)).1 l known x (record past { begun = Some b })) (ap (λ (x : RecvLane). record x { state = recv_states.TakeBlock; left = suc n }) own.lane)
      (own_put w.receiver (noted t (recv_events.Begin (number l) b ∷ [])) l known lane (record past { begun = Some b }) (record (lane_at t l) { state = recv_states.TakeBlock; left = suc n }) small
      (own_noted w.receiver t l known lane past (recv_events.Begin (number l) b ∷ []) (record past { begun = Some b }) (rw (eq-eqb l l refl) refl) refl own)))
      record { landed = (named_keeps w.receiver.known known past keeps (c.named l within)).landed; begun = λ x e. subst (λ (o : Block). is_some (known_at known o.file) ≡ true) (same_block b x e) begun.named }
      (λ grows.
      subst (λ (x : Receiving). Converses (common (begins_by t (number l) b (suc n)).1) l (sending w.sender l) x (record (pair_at w l) { recv = RecvDoes (recv_acts.TakePiece (min (suc n) piece_most)) })) (sym same)
      (converses_on (common w.receiver) (common (begins_by t (number l) b (suc n)).1) l (sending w.sender l) _ _ grows
      (subst (λ (x : Bool). Converses (common w.receiver) l (sending w.sender l) record { lane = record lane { state = recv_states.TakeBlock; is_sized = x; left = suc n }; past = record past { begun = Some b }; landed = map (known_header w.receiver.known) past.landed; begun = Some h } (record (pair_at w l) { recv = RecvDoes (recv_acts.TakePiece (min (suc n) piece_most)) })) (sym sized)
      (fills_here (common w.receiver) l (sending w.sender l) lane past (map (known_header w.receiver.known) past.landed) h b (pair_at w l).send (pair_at w l).between (pair_at w l).newest (pair_at w l).denies (pair_at w l).refusals fares.0.idle fares.0.goes_on.closed (λ e. both_ways (common w.receiver).finish fares.0.finish e) (pair_at w l).taken n (sym long ∙ is) before)))) where
        same_block : (x y : Block) → Some x ≡ Some y → x ≡ y
        same_block x y e = cc

        same : receiving_of known (record lane { state = recv_states.TakeBlock; left = suc n }) (record past { begun = Some b }) ≡ record { lane = record lane { state = recv_states.TakeBlock; left = suc n }; past = record past { begun = Some b }; landed = map (known_header w.receiver.known) past.landed; begun = Some h }
        same =
            ap (λ (y : Receiving). record { lane = record lane { state = recv_states.TakeBlock; left = suc n }; past = record past { begun = Some b }; landed = y.landed; begun = Some (known_header known b) }) (side_keeps w.receiver.known known lane past keeps (c.named l within))
            ∙ ap (λ (x : Header). record { lane = record lane { state = recv_states.TakeBlock; left = suc n }; past = record past { begun = Some b }; landed = map (known_header w.receiver.known) past.landed; begun = Some x }) begun.header
  begins_on t known b long own keeps begun zero is ends =
      own_keeps w l (Given (recv_inputs.Got (frames.Block h))) (begins_by t (number l) b zero) known (record lane { state = recv_states.ReadNextCmd }) (record past { landed = past.landed ++ b ∷ []; begun = None }) c within ends (ap is_ended here)
      (own_goes w.receiver (lands (noted t (recv_events.Begin (number l) b ∷ [])) (number l) b) l known lane (record past { landed = past.landed ++ b ∷ []; begun = None }) recv_states.ReadNextCmd small
      (unlogged_own (noted (noted t (recv_events.Begin (number l) b ∷ [])) (recv_events.Land (number l) ∷ [])) (record past { landed = past.landed ++ b ∷ []; begun = None }) (t.unlogged ++ b ∷ [])
      (own_noted w.receiver (noted t (recv_events.Begin (number l) b ∷ [])) l known lane (record past { begun = Some b }) (recv_events.Land (number l) ∷ []) (record past { landed = past.landed ++ b ∷ []; begun = None }) (rw (eq-eqb l l refl) refl) refl
      (own_noted w.receiver t l known lane past (recv_events.Begin (number l) b ∷ []) (record past { begun = Some b }) (rw (eq-eqb l l refl) refl) refl own))))
      record { landed = Each-append _ past.landed (b ∷ []) (named_keeps w.receiver.known known past keeps (c.named l within)).landed (begun.named, tt); begun = λ x e. cc }
      (λ grows.
      subst (λ (x : Receiving). Converses (common (begins_by t (number l) b zero).1) l (sending w.sender l) x (record (pair_at w l) { recv = RecvDoes recv_acts.Read })) (sym same)
      (converses_on (common w.receiver) (common (begins_by t (number l) b zero).1) l (sending w.sender l) _ _ grows
      (subst (λ (x : Bool). Converses (common w.receiver) l (sending w.sender l) record { lane = record lane { state = recv_states.ReadNextCmd; is_sized = x }; past = record past { landed = past.landed ++ b ∷ []; begun = None }; landed = map (known_header w.receiver.known) past.landed ++ h ∷ []; begun = None } (record (pair_at w l) { recv = RecvDoes recv_acts.Read })) (sym sized)
      (read_left (empty_here (common w.receiver) l (sending w.sender l) lane past (map (known_header w.receiver.known) past.landed) h b (pair_at w l).send (pair_at w l).between (pair_at w l).newest (pair_at w l).denies (pair_at w l).refusals fares.0.idle fares.0.goes_on.closed (λ e. both_ways (common w.receiver).finish fares.0.finish e) (pair_at w l).taken (sym long ∙ is) before))))) where
        unlogged_own : (u : PlainReceiver) (q : RecvPast) (bs : List Block) → Own w.receiver u l known lane q → Own w.receiver (record u { unlogged = bs }) l known lane q
        unlogged_own u q bs o = record { many = o.many; known = o.known; lane = o.lane; past = o.past; finish = o.finish }

        same : receiving_of known (record lane { state = recv_states.ReadNextCmd }) (record past { landed = past.landed ++ b ∷ []; begun = None }) ≡ record { lane = record lane { state = recv_states.ReadNextCmd }; past = record past { landed = past.landed ++ b ∷ []; begun = None }; landed = map (known_header w.receiver.known) past.landed ++ h ∷ []; begun = None }
        same =
            ap (λ (hs : List Header). record { lane = record lane { state = recv_states.ReadNextCmd }; past = record past { landed = past.landed ++ b ∷ []; begun = None }; landed = hs; begun = None }) (map-append (known_header known) past.landed (b ∷ []))
            ∙ (ap (λ (y : Receiving). record { lane = record lane { state = recv_states.ReadNextCmd }; past = record past { landed = past.landed ++ b ∷ []; begun = None }; landed = y.landed ++ known_header known b ∷ []; begun = None }) (side_keeps w.receiver.known known lane past keeps (c.named l within))
            ∙ ap (λ (x : Header). record { lane = record lane { state = recv_states.ReadNextCmd }; past = record past { landed = past.landed ++ b ∷ []; begun = None }; landed = map (known_header w.receiver.known) past.landed ++ x ∷ []; begun = None }) begun.header)

        -- how many bytes are left makes no difference to a lane that takes no block
        read_left : {later : RecvPast} {hs : List Header} → Converses (common w.receiver) l (sending w.sender l) record { lane = record lane { state = recv_states.ReadNextCmd; is_sized = true; left = 0 }; past = later; landed = hs; begun = None } (record (pair_at w l) { recv = RecvDoes recv_acts.Read })
            → Converses (common w.receiver) l (sending w.sender l) record { lane = record lane { state = recv_states.ReadNextCmd; is_sized = true }; past = later; landed = hs; begun = None } (record (pair_at w l) { recv = RecvDoes recv_acts.Read })
        read_left x =
            record { agrees = x.agrees; lists = x.lists; sure = x.sure; upward = x.upward; fits = x.fits; notes = x.notes; closed = x.closed; asked = x.asked; finished = x.finished; pieces = x.pieces; waits = x.waits; idle = x.idle; shut = x.shut; heard_up = x.heard_up; heard_down = x.heard_down }

  -- the block may begin
  sound_block : block_fault_at w.receiver (number l) h ≡ None → size_fault w.receiver.known h ≡ None
  sound_block e = unfaulted w.receiver.known _ _ _ h e

  pub begins_known : block_fault_at w.receiver (number l) h ≡ None → is_new w.receiver.known h ≡ false → Ends (begins w.receiver (number l) (block_of w.receiver.known h)) → Conversation (recv_turned w l (begins w.receiver (number l) (block_of w.receiver.known h)))
  begins_known sound old ends =
      begins_on w.receiver w.receiver.known (block_of w.receiver.known h) refl (own_self w.receiver l) (λ n file is. is) (begun_known w.receiver.known h old (sound_block sound)) h.length refl ends

  pub begins_new : is_new w.receiver.known h ≡ true → Ends (begins (knows w.receiver h) (number l) (block_of w.receiver.known h)) → Conversation (recv_turned w l (begins (knows w.receiver h) (number l) (block_of w.receiver.known h)))
  begins_new new ends =
      begins_on (knows w.receiver h) (knows w.receiver h).known (block_of w.receiver.known h) refl
      record { many = refl; known = refl; lane = refl; past = refl; finish = refl } (λ n file is. known_stays w.receiver.known (file_of_header h) n (ap is_some is) ∙ is) (begun_new w.receiver.known h new) h.length refl ends
