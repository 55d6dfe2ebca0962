-- The steps of the receiver's lane behind which it stands where it stood on its connection: it reads on, writes what it
-- tells of itself, waits, and concludes.
use Rattle.std.proofs.Common.{◌≡◌, inl, inr, ℕ, ◌+◌, ◌<◌, Bool, true, false, List, [], ◌∷◌, ◌++◌, length, map, option_map, is_some, Option, subst, sym, ap, ◌∙◌, refl, eq-eqb}
use Rattle.std.proofs.lemmas.List.{length-map}
use Rattle.wdt_units.specs.declared.blocks.Block.{Block}
use Rattle.wdt_units.specs.declared.blocks.Header.{Header}
use Rattle.wdt_units.specs.Have.{HaveFile}
use Rattle.wdt_codec.specs.Chunks.{FitsChunks}
use Rattle.wdt_codec.specs.Frames.{Fits}
use Rattle.wdt_codec.specs.declared.frames.Frame.TheVariants as frames
use Rattle.wdt_codec.specs.declared.frames.Settings.{Settings}
use Rattle.wdt_logfmt.specs.Beginning.{KnownFile, known_at}
use Rattle.wdt_logfmt.specs.View.{NamedFile}
use Rattle.wdt_sender_fsm.specs.Rules.{is_failure}
use Rattle.wdt_sender_fsm.specs.Phases.{Message, told}
use Rattle.wdt_receiver_fsm.specs.declared.acts.RecvAct.{RecvAct}
use Rattle.wdt_receiver_fsm.specs.declared.acts.RecvAct.TheVariants as recv_acts
use Rattle.wdt_receiver_fsm.specs.declared.events.RecvEvent.{RecvEvent}
use Rattle.wdt_receiver_fsm.specs.declared.events.RecvEvent.TheVariants as recv_events
use Rattle.wdt_receiver_fsm.specs.declared.inputs.RecvIn.TheVariants as recv_inputs
use Rattle.wdt_receiver_fsm.specs.declared.states.RecvLane.{RecvLane}
use Rattle.wdt_receiver_fsm.specs.declared.states.RecvState.{RecvState}
use Rattle.wdt_receiver_fsm.specs.declared.states.RecvState.TheVariants as recv_states
use Rattle.wdt_receiver_fsm.specs.Phases as recv
use Rattle.wdt_receiver_fsm.specs.Plan.{EndsIn}
use Rattle.wdt_receiver_fsm.specs.PlainReceiver.{PlainReceiver, goes, has_finish, have_now, is_ended, lane_at, mark_of, noted, past_at, state_at, with_lane}
use Rattle.wdt_receiver_fsm.specs.Receiver.{Fares}
use Rattle.wdt_receiver_fsm.specs.ReceiverHistory.{RecvPast, end_of, past_of}
use Rattle.wdt_receiver_fsm.specs.Acts.{IsActOf}
use Rattle.wdt_receiver_fsm.specs.Touches.{Touches}
use Rattle.wdt_receiver_fsm.specs.Turn.{Given, Put, Step, greets_by, leaves, links, lists_by, meets, met_by, next_take, reads, sized_by, turn_plan}
use Rattle.wdt_receiver_fsm.specs.Writes.{CanTell, FitsAct, FitsPut}
use Rattle.wdt_receiver_fsm.proofs.ForCallers.{act_written, codes_keep, turn_acts, turn_keeps, turn_touches}
use Rattle.wdt_pact.specs.Each.{Each}
use Rattle.wdt_pact.specs.Pairs.{RecvHold, RecvDoes, RecvHas, recv_gets}
use Rattle.wdt_pact.specs.World.{PlainWorld, number, pair_at, recv_turned}
use Rattle.wdt_pact.specs.Stances.{Talks, recv_stance}
use Rattle.wdt_pact.specs.Lists.{blocks_in, has_done, in_hand}
use Rattle.wdt_pact.specs.Conversation.{Conversation, Converses, Grows, IsNamed, IsNoMarks, Pieces, Tells, common, known_header, receiving_of, sending, to_say}
use Rattle.wdt_pact.proofs.RecvMoves.{stays_on}
use Rattle.wdt_pact.proofs.RecvOwn.{Own, own_goes, own_noted, own_put, own_self, own_side, turned_keeps}
use Rattle.wdt_pact.proofs.RecvRows.{have_stays, recv_fares, recv_row_at}

-- ---- what a step is given to write

act_fits_act : (act : RecvAct) → FitsAct act → Each Fits (to_say (RecvDoes act))
act_fits_act (recv_acts.Write f) e = (e.0, tt)
act_fits_act act e = tt

-- it lies in the grammar's ranges
pub said_fits : (w : PlainWorld) (l : ℕ) (put : Put) (step : Step) → Conversation w → l < length w.pairs → CanTell w.receiver → FitsPut put → EndsIn (Unit {0}) (turn_plan w.receiver (number l) put) step → Each Fits (to_say (RecvDoes step.0))
said_fits w l put step c within tells fits ends = act_fits_act step.0 (go (turn_acts w.receiver (number l) put step c.receiver.few below ends)) where
  below : l < length w.receiver.lanes
  below = subst (λ (n : ℕ). l < n) (sym c.recv_lanes) within

  touches : Touches w.receiver (number l) step.1
  touches = turn_touches w.receiver (number l) put step ends

  go : IsActOf w.receiver (number l) step → FitsAct step.0
  go (inl e) =
      subst FitsAct (sym e)
      (act_written step.1 (number l) (turn_keeps w.receiver (number l) put step c.receiver below ends) (subst (λ (n : ℕ). l < n) (sym touches.lanes) below)
      record {
        have = subst (λ (h : List HaveFile). FitsChunks h) (sym (ap (λ (o : List NamedFile). have_now o step.1.history) touches.opening ∙ have_stays w.receiver.opening step.1.history w.receiver.history)) tells.have;
        code = codes_keep w.receiver (number l) put step fits tells.code ends;
      })
  go (inr e) = subst (λ (x : Step). FitsAct x.0) (sym e) tt

-- how many of a lane's blocks have landed
pub mark_tells : (g : List RecvEvent) (l : ℕ) (f : Block → Header) → ((mark_of g l).lane.0 ≡ l) × ((mark_of g l).count ≡ length (map f (past_of g l).landed))
unfolding mark_of
mark_tells g l f = (refl, sym (length-map (past_of g l).landed f))

-- ---- a step whose lane knows no more files

pub own_keeps : (w : PlainWorld) (l : ℕ) (put : Put) (step : Step) (known : List (Option KnownFile)) (lane : RecvLane) (past : RecvPast) → Conversation w → l < length w.pairs → EndsIn (Unit {0}) (turn_plan w.receiver (number l) put) step → is_ended (state_at w.receiver l) ≡ false
    → Own w.receiver step.1 l known lane past → IsNamed known past
    → (Grows (common w.receiver) (common step.1) → Converses (common step.1) l (sending w.sender l) (receiving_of known lane past) (recv_gets (pair_at w l) step.0))
    → Conversation (recv_turned w l step)
own_keeps w l put step known lane past c within ends goes_on own named part =
    turned_keeps w l put step (receiving_of known lane past) c within ends goes_on own.finish
    (subst (λ (k : List (Option KnownFile)). IsNamed k (past_at step.1 l)) (sym own.known) (subst (IsNamed known) (sym own.past) named))
    (own_side w.receiver step.1 l known lane past own) part

-- ---- the steps

module _ (w : PlainWorld) (l : ℕ) (c : Conversation w) (within : l < length w.pairs) (tells : CanTell w.receiver) where
  abbrev r : PlainReceiver
  r = w.receiver

  abbrev lane : RecvLane
  lane = lane_at w.receiver l

  abbrev past : RecvPast
  past = past_at w.receiver l

  abbrev landed : List Header
  landed = map (known_header w.receiver.known) (past_at w.receiver l).landed

  abbrev begun : Option Header
  begun = option_map (known_header w.receiver.known) (past_at w.receiver l).begun

  abbrev Ends : Put → Step → Type 0
  Ends put step = EndsIn (Unit {0}) (turn_plan w.receiver (number l) put) step

  below : l < length w.receiver.lanes
  below = subst (λ (n : ℕ). l < n) (sym c.recv_lanes) within

  -- the lane stands in this state
  lane_is : (st : RecvState) → state_at w.receiver l ≡ st → lane_at w.receiver l ≡ record (lane_at w.receiver l) { state = st }
  lane_is st here = ap (λ (x : RecvState). record (lane_at w.receiver l) { state = x }) here

  -- a step that leaves the lane's phase, its blocks and whether it is closed
  pub still_keeps : (put : Put) (step : Step) (st : RecvState) (held : RecvHold) (after : RecvLane) (later : RecvPast)
      → FitsPut put → Ends put step → state_at w.receiver l ≡ st → (pair_at w l).recv ≡ held → is_ended st ≡ false
      → Own w.receiver step.1 l w.receiver.known after later
      → later.landed ≡ past.landed → later.begun ≡ past.begun
      → to_say held ≡ [] → recv_stance after later.is_idle later.is_acked (RecvDoes step.0) ≡ recv_stance (record lane { state = st }) past.is_idle past.is_acked held
      → ((ds : List Message) → blocks_in (in_hand held ++ ds) ≡ blocks_in ds) → ((ds : List Message) → has_done ds ≡ true → has_done (in_hand held ++ ds) ≡ true)
      → (Grows (common w.receiver) (common step.1) → Each (Tells (common step.1) l landed) (to_say (RecvDoes step.0)))
      → Pieces after.left (RecvDoes step.0) → (later.is_idle ≡ true → past.is_idle ≡ true) → Each IsNoMarks (to_say (RecvDoes step.0)) → later.is_closed ≡ past.is_closed
      → Conversation (recv_turned w l step)
  still_keeps put step st held after later fits ends here holds lives own land begin mute stands none done told pieces idle quiet closed =
      own_keeps w l put step w.receiver.known after later c within ends (ap is_ended here ∙ lives) own
      record {
        landed = subst (λ (bs : List Block). Each (λ (b : Block). is_some (known_at w.receiver.known b.file) ≡ true) bs) (sym land) (c.named l within).landed;
        begun = λ b e. (c.named l within).begun b (sym begin ∙ e);
      }
      (λ grows.
      subst (λ (bs : List Block). Converses (common step.1) l (sending w.sender l) record { lane = after; past = later; landed = map (known_header w.receiver.known) bs; begun = option_map (known_header w.receiver.known) later.begun } (recv_gets (pair_at w l) step.0)) (sym land)
      (subst (λ (o : Option Block). Converses (common step.1) l (sending w.sender l) record { lane = after; past = later; landed = landed; begun = option_map (known_header w.receiver.known) o } (recv_gets (pair_at w l) step.0)) (sym begin)
      (stays_on (common w.receiver) (common step.1) l grows (sending w.sender l) landed (pair_at w l).send (pair_at w l).taken (pair_at w l).between (pair_at w l).newest (pair_at w l).denies (pair_at w l).refusals held step.0
      (record lane { state = st }) after past later begun mute stands none done (told grows) (said_fits w l put step c within tells fits ends) pieces idle quiet closed
      (recv_row_at w l st held c within here holds))))

  no_hand : (ds : List Message) → has_done ds ≡ true → has_done ds ≡ true
  no_hand ds e = e

  -- a connection stands
  pub linked_keeps : Ends (Given recv_inputs.Linked) (links w.receiver (number l)) → state_at w.receiver l ≡ recv_states.Listen → (pair_at w l).recv ≡ RecvHas recv_inputs.Linked → Conversation (recv_turned w l (links w.receiver (number l)))
  linked_keeps ends here holds =
      still_keeps (Given recv_inputs.Linked) (links w.receiver (number l)) recv_states.Listen (RecvHas recv_inputs.Linked) after later tt ends here holds refl
      (own_put w.receiver (noted w.receiver (recv_events.Take (number l) (next_take w.receiver (number l)) ∷ [])) l w.receiver.known lane later after below
      (own_noted w.receiver w.receiver l w.receiver.known lane past (recv_events.Take (number l) (next_take w.receiver (number l)) ∷ []) later (rw (eq-eqb l l refl) refl) refl (own_self w.receiver l)))
      refl refl refl refl (λ ds. refl) (λ ds e. e) (λ grows. tt) tt (λ e. e) tt refl where
        after : RecvLane
        after = record lane { state = recv_states.ReadSettings; is_sized = false; has_waited = false }

        later : RecvPast
        later = record past { takes = past.takes + 1; is_up = true; told = [] }

  -- the first settings may be noted
  own_met : (s : Settings) (b : Bool) → Own w.receiver (met_by w.receiver (number l) s b) l w.receiver.known lane past
  own_met s true = own_self w.receiver l
  own_met s false = own_noted w.receiver w.receiver l w.receiver.known lane past (recv_events.Met (number l) s ∷ []) past refl refl (own_self w.receiver l)

  -- what the sender says of itself is read, and answered
  pub greeted_keeps : (s : Settings) (come : Bool) → has_finish w.receiver ≡ come → Fits (frames.Settings s) → Ends (Given (recv_inputs.Got (frames.Settings s))) (greets_by (meets w.receiver (number l) s) (number l) s come)
      → state_at w.receiver l ≡ recv_states.ReadSettings → (pair_at w l).recv ≡ RecvHas (recv_inputs.Got (frames.Settings s)) → Conversation (recv_turned w l (greets_by (meets w.receiver (number l) s) (number l) s come))
  greeted_keeps s true come fits ends here holds =
      still_keeps (Given (recv_inputs.Got (frames.Settings s))) (greets_by m (number l) s true) recv_states.ReadSettings (RecvHas (recv_inputs.Got (frames.Settings s))) after past fits ends here holds refl
      (subst (λ (x : RecvLane). Own w.receiver (greets_by m (number l) s true).1 l w.receiver.known x past) (ap (λ (x : RecvLane). record x { state = recv_states.SendDone; ask = s.ask; conn = s.conn.0 }) met.lane)
      (own_put w.receiver m l w.receiver.known lane past (record (lane_at m l) { state = recv_states.SendDone; ask = s.ask; conn = s.conn.0 }) below met))
      refl refl refl (ap (λ (b : Bool). Talks (recv.asked_by b s.ask)) fares.0.idle) (λ ds. refl) (λ ds e. e) (λ grows. (grows.finish ∙ come, tt)) tt (λ e. e) (tt, tt) refl where
        m : PlainReceiver
        m = meets w.receiver (number l) s

        met : Own w.receiver (meets w.receiver (number l) s) l w.receiver.known lane past
        met = own_met s (is_some (end_of w.receiver.history).met)

        after : RecvLane
        after = record lane { state = recv_states.SendDone; ask = s.ask; conn = s.conn.0 }

        fares : Fares (is_failure w.receiver.answer) recv_states.ReadSettings lane past (end_of w.receiver.history)
        fares = recv_fares w l recv_states.ReadSettings c within here
  greeted_keeps s false come fits ends here holds =
      still_keeps (Given (recv_inputs.Got (frames.Settings s))) (greets_by m (number l) s false) recv_states.ReadSettings (RecvHas (recv_inputs.Got (frames.Settings s))) after past fits ends here holds refl
      (subst (λ (x : RecvLane). Own w.receiver (greets_by m (number l) s false).1 l w.receiver.known x past) (ap (λ (x : RecvLane). record x { state = recv_states.SendLocalCheckpoint; ask = s.ask; conn = s.conn.0 }) met.lane)
      (own_put w.receiver m l w.receiver.known lane past (record (lane_at m l) { state = recv_states.SendLocalCheckpoint; ask = s.ask; conn = s.conn.0 }) below met))
      refl refl refl refl (λ ds. refl) (λ ds e. e) (λ grows. ((told.0, told.1 ∙ ap (λ (p : RecvPast). length (map (known_header w.receiver.known) p.landed)) met.past), tt)) tt (λ e. e) (tt, tt) refl where
        m : PlainReceiver
        m = meets w.receiver (number l) s

        met : Own w.receiver (meets w.receiver (number l) s) l w.receiver.known lane past
        met = own_met s (is_some (end_of w.receiver.history).met)

        after : RecvLane
        after = record lane { state = recv_states.SendLocalCheckpoint; ask = s.ask; conn = s.conn.0 }

        told : ((mark_of m.history l).lane.0 ≡ l) × ((mark_of m.history l).count ≡ length (map (known_header w.receiver.known) (past_of m.history l).landed))
        told = mark_tells m.history l (known_header w.receiver.known)

  -- the count is written, and what the destination had is told
  pub listed_keeps : Ends (Given recv_inputs.Wrote) (lists_by w.receiver (number l) true) → state_at w.receiver l ≡ recv_states.SendLocalCheckpoint → (pair_at w l).recv ≡ RecvHas recv_inputs.Wrote → lane.ask ≡ true → Conversation (recv_turned w l (lists_by w.receiver (number l) true))
  listed_keeps ends here holds asks =
      still_keeps (Given recv_inputs.Wrote) (lists_by w.receiver (number l) true) recv_states.SendLocalCheckpoint (RecvHas recv_inputs.Wrote) (record lane { state = recv_states.SendFileChunks }) past tt ends here holds refl
      (own_goes w.receiver w.receiver l w.receiver.known lane past recv_states.SendFileChunks below (own_self w.receiver l))
      refl refl refl (ap (λ (b : Bool). Talks (told b)) (sym asks)) (λ ds. refl) (λ ds e. e) (λ grows. (sym grows.have, tt)) tt (λ e. e) (tt, tt) refl

  -- what was to be written is written, and the lane reads what comes next
  reads_next : (st : RecvState) → is_ended st ≡ false → Ends (Given recv_inputs.Wrote) (reads (goes w.receiver l recv_states.ReadNextCmd)) → state_at w.receiver l ≡ st → (pair_at w l).recv ≡ RecvHas recv_inputs.Wrote
      → Talks (recv.sized_by lane.is_sized) ≡ recv_stance (record lane { state = st }) past.is_idle past.is_acked (RecvHas recv_inputs.Wrote) → Conversation (recv_turned w l (reads (goes w.receiver l recv_states.ReadNextCmd)))
  reads_next st lives ends here holds stands =
      still_keeps (Given recv_inputs.Wrote) (reads (goes w.receiver l recv_states.ReadNextCmd)) st (RecvHas recv_inputs.Wrote) (record lane { state = recv_states.ReadNextCmd }) past tt ends here holds lives
      (own_goes w.receiver w.receiver l w.receiver.known lane past recv_states.ReadNextCmd below (own_self w.receiver l))
      refl refl refl stands (λ ds. refl) (λ ds e. e) (λ grows. tt) tt (λ e. e) tt refl

  -- the count, where the sender didn't ask more
  pub counted_keeps : Ends (Given recv_inputs.Wrote) (reads (goes w.receiver l recv_states.ReadNextCmd)) → state_at w.receiver l ≡ recv_states.SendLocalCheckpoint → (pair_at w l).recv ≡ RecvHas recv_inputs.Wrote → lane.ask ≡ false → Conversation (recv_turned w l (reads (goes w.receiver l recv_states.ReadNextCmd)))
  counted_keeps ends here holds asks =
      reads_next recv_states.SendLocalCheckpoint refl ends here holds
      (ap (λ (b : Bool). Talks (recv.sized_by b)) (recv_fares w l recv_states.SendLocalCheckpoint c within here).2 ∙ ap (λ (b : Bool). Talks (told b)) (sym asks))

  -- what the destination had
  pub chunks_keeps : Ends (Given recv_inputs.Wrote) (reads (goes w.receiver l recv_states.ReadNextCmd)) → state_at w.receiver l ≡ recv_states.SendFileChunks → (pair_at w l).recv ≡ RecvHas recv_inputs.Wrote → Conversation (recv_turned w l (reads (goes w.receiver l recv_states.ReadNextCmd)))
  chunks_keeps ends here holds =
      reads_next recv_states.SendFileChunks refl ends here holds (ap (λ (b : Bool). Talks (recv.sized_by b)) (recv_fares w l recv_states.SendFileChunks c within here).2)

  -- which lanes are closed
  pub marked_keeps : Ends (Given recv_inputs.Wrote) (reads (goes w.receiver l recv_states.ReadNextCmd)) → state_at w.receiver l ≡ recv_states.SendGlobalCheckpoint → (pair_at w l).recv ≡ RecvHas recv_inputs.Wrote → Conversation (recv_turned w l (reads (goes w.receiver l recv_states.ReadNextCmd)))
  marked_keeps ends here holds =
      reads_next recv_states.SendGlobalCheckpoint refl ends here holds (ap (λ (b : Bool). Talks (recv.sized_by b)) (recv_fares w l recv_states.SendGlobalCheckpoint c within here).2)

  -- the totals may be noted
  own_sized : (files bytes : ℕ) (b : Bool) → Own w.receiver (sized_by w.receiver (number l) files bytes b) l w.receiver.known lane past
  own_sized files bytes true = own_self w.receiver l
  own_sized files bytes false = own_noted w.receiver w.receiver l w.receiver.known lane past (recv_events.Sized (number l) files bytes ∷ []) past refl refl (own_self w.receiver l)

  -- what is sent in all is read
  pub sized_keeps : (files bytes : ℕ) (b : Bool) → Fits (frames.Size files bytes) → Ends (Given (recv_inputs.Got (frames.Size files bytes))) (reads (with_lane (sized_by w.receiver (number l) files bytes b) l record lane { is_sized = true }))
      → state_at w.receiver l ≡ recv_states.ReadNextCmd → (pair_at w l).recv ≡ RecvHas (recv_inputs.Got (frames.Size files bytes)) → lane.is_sized ≡ false → Conversation (recv_turned w l (reads (with_lane (sized_by w.receiver (number l) files bytes b) l record lane { is_sized = true })))
  sized_keeps files bytes b fits ends here holds first =
      still_keeps (Given (recv_inputs.Got (frames.Size files bytes))) (reads (with_lane (sized_by w.receiver (number l) files bytes b) l record lane { is_sized = true })) recv_states.ReadNextCmd (RecvHas (recv_inputs.Got (frames.Size files bytes))) (record lane { state = recv_states.ReadNextCmd; is_sized = true }) past fits ends here holds refl
      (subst (λ (x : RecvLane). Own w.receiver (with_lane (sized_by w.receiver (number l) files bytes b) l record lane { is_sized = true }) l w.receiver.known x past) (ap (λ (x : RecvState). record lane { state = x; is_sized = true }) here)
      (own_put w.receiver (sized_by w.receiver (number l) files bytes b) l w.receiver.known lane past (record lane { is_sized = true }) below (own_sized files bytes b)))
      refl refl refl (ap (λ (x : Bool). recv_stance (record lane { state = recv_states.ReadNextCmd; is_sized = x }) past.is_idle past.is_acked (RecvHas (recv_inputs.Got (frames.Size files bytes)))) (sym first)) (λ ds. refl) (λ ds e. e) (λ grows. tt) tt (λ e. e) tt refl

  -- the last word is written
  pub concluded_keeps : Ends (Given recv_inputs.Wrote) (reads (goes w.receiver l recv_states.ReadAck)) → state_at w.receiver l ≡ recv_states.SendDone → (pair_at w l).recv ≡ RecvHas recv_inputs.Wrote → Conversation (recv_turned w l (reads (goes w.receiver l recv_states.ReadAck)))
  concluded_keeps ends here holds =
      still_keeps (Given recv_inputs.Wrote) (reads (goes w.receiver l recv_states.ReadAck)) recv_states.SendDone (RecvHas recv_inputs.Wrote) (record lane { state = recv_states.ReadAck }) past tt ends here holds refl
      (own_goes w.receiver w.receiver l w.receiver.known lane past recv_states.ReadAck below (own_self w.receiver l))
      refl refl refl refl (λ ds. refl) (λ ds e. e) (λ grows. tt) tt (λ e. e) tt refl

  -- and answered
  pub acknowledged_keeps : Ends (Given (recv_inputs.Got frames.Done)) (leaves (noted w.receiver (recv_events.Acked (number l) ∷ [])) (number l)) → state_at w.receiver l ≡ recv_states.ReadAck → (pair_at w l).recv ≡ RecvHas (recv_inputs.Got frames.Done) → Conversation (recv_turned w l (leaves (noted w.receiver (recv_events.Acked (number l) ∷ [])) (number l)))
  acknowledged_keeps ends here holds =
      still_keeps (Given (recv_inputs.Got frames.Done)) (leaves (noted w.receiver (recv_events.Acked (number l) ∷ [])) (number l)) recv_states.ReadAck (RecvHas (recv_inputs.Got frames.Done)) (record lane { state = recv_states.Ended }) (record past { is_acked = true }) tt ends here holds refl
      (own_goes w.receiver (noted w.receiver (recv_events.Acked (number l) ∷ [])) l w.receiver.known lane (record past { is_acked = true }) recv_states.Ended below
      (own_noted w.receiver w.receiver l w.receiver.known lane past (recv_events.Acked (number l) ∷ []) (record past { is_acked = true }) (rw (eq-eqb l l refl) refl) refl (own_self w.receiver l)))
      refl refl refl refl (λ ds. refl) (λ ds e. refl) (λ grows. tt) tt (λ e. e) tt refl
