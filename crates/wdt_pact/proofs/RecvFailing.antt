-- The steps of the receiver's lane behind which it says nothing more on its connection, or is about to say that its end
-- has failed.
use Rattle.std.proofs.Common.{◌≡◌, ◌⊎◌, inl, inr, ℕ, ◌+◌, ◌<◌, ◌||◌, Bool, true, false, List, [], ◌∷◌, length, map, option_map, is_some, Option, Some, None, subst, sym, ap, ◌∙◌, refl, eq-eqb}
use Rattle.std.proofs.lemmas.Bool.{both_ways}
use Rattle.wdt_units.specs.declared.blocks.Block.{Block}
use Rattle.wdt_codec.specs.declared.frames.Frame.{Frame}
use Rattle.wdt_codec.specs.declared.frames.Frame.TheVariants as frames
use Rattle.wdt_logfmt.specs.Beginning.{known_at}
use Rattle.wdt_sender_fsm.specs.Phases.{Phase, Told, Sending as SendingPhase, Asked, Bye, Framed, is_abort, over_if, told}
use Rattle.wdt_sender_fsm.specs.Rules.{code_of, is_failure}
use Rattle.wdt_receiver_fsm.specs.declared.acts.RecvAct.TheVariants as recv_acts
use Rattle.wdt_receiver_fsm.specs.declared.events.RecvEvent.TheVariants as recv_events
use Rattle.wdt_receiver_fsm.specs.declared.inputs.RecvIn.TheVariants as recv_inputs
use Rattle.wdt_receiver_fsm.specs.declared.states.RecvLane.{RecvLane}
use Rattle.wdt_receiver_fsm.specs.declared.states.RecvState.{RecvState}
use Rattle.wdt_receiver_fsm.specs.declared.states.RecvState.TheVariants as recv_states
use Rattle.wdt_receiver_fsm.specs.Outcomes.{is_linked}
use Rattle.wdt_receiver_fsm.specs.Phases as recv
use Rattle.wdt_receiver_fsm.specs.Plan.{EndsIn}
use Rattle.wdt_receiver_fsm.specs.PlainReceiver.{PlainReceiver, goes, is_ended, lane_at, noted, past_at, state_at}
use Rattle.wdt_receiver_fsm.specs.Receiver.{Fares, GoesOn}
use Rattle.wdt_receiver_fsm.specs.ReceiverHistory.{EndPast, RecvPast, end_of}
use Rattle.wdt_receiver_fsm.specs.Rows.{is_mute, is_reading, row_of}
use Rattle.wdt_receiver_fsm.specs.Turn.{Given, Put, Step, drops_lane, given_up, leaves, row_at, tells_failure, turn_plan}
use Rattle.wdt_receiver_fsm.specs.Writes.{CanTell, FitsPut}
use Rattle.wdt_pact.specs.Belongs.{RecvBelongs, RecvBelongsAt, receives_writing}
use Rattle.wdt_pact.specs.Each.{Each}
use Rattle.wdt_pact.specs.Pairs.{RecvHold, RecvDoes, RecvHas, RecvTook, recv_gets}
use Rattle.wdt_pact.specs.World.{PlainWorld, number, pair_at, recv_turned}
use Rattle.wdt_pact.specs.Stances.{Talks, Silent, recv_stance, recv_aborts, stand}
use Rattle.wdt_pact.specs.Conversation.{Conversation, Converses, Grows, HeardDown, IsNamed, IsWord, Pieces, common, is_recv_out, known_header, receives, receiving, sending, to_say}
use Rattle.wdt_pact.proofs.RecvHands.{Hands}
use Rattle.wdt_pact.proofs.RecvIdle.{IdlePoint, IdleThere}
use Rattle.wdt_pact.proofs.RecvMoves.{Drops, Keeps, Loses, quiets_here, still_idle, warns_here}
use Rattle.wdt_pact.proofs.RecvOwn.{Own, own_goes, own_noted, own_put, own_self}
use Rattle.wdt_pact.proofs.RecvRows.{recv_fares}
use Rattle.wdt_pact.proofs.RecvSteps.{own_keeps, said_fits}

-- ---- where a lane that hands something in stands

-- it hasn't ended
lives_writing : (st : RecvState) → receives_writing st ≡ true → is_ended st ≡ false
lives_writing recv_states.Ended e = cc
lives_writing st e = refl

lives_reading : (st : RecvState) → is_reading st ≡ true → is_ended st ≡ false
lives_reading recv_states.Ended e = cc
lives_reading st e = refl

lives_linked : (st : RecvState) → is_linked st ≡ true → is_ended st ≡ false
lives_linked recv_states.Ended e = cc
lives_linked st e = refl

pub hands_lives : (held : RecvHold) (put : Put) (lane : RecvLane) (past : RecvPast) → Hands held put → RecvBelongs held lane past → is_ended lane.state ≡ false
hands_lives (RecvHas recv_inputs.Wrote) put lane past h b = lives_writing lane.state b
hands_lives (RecvHas (recv_inputs.Got f)) put lane past h b = lives_reading lane.state b
hands_lives (RecvHas recv_inputs.Linked) put lane past h b = ap is_ended b
hands_lives (RecvHas recv_inputs.NoLink) put lane past h b = ap is_ended b
hands_lives (RecvHas recv_inputs.Lost) put lane past h b = lives_linked lane.state b
hands_lives (RecvHas i) put lane past h b = absurd b
hands_lives (RecvTook n) put lane past h b = ap is_ended b
hands_lives (RecvDoes recv_acts.Park) put lane past h b = ap is_ended b
hands_lives (RecvDoes act) put lane past h b = absurd h

-- and isn't about to say anything
pub hands_mute : (held : RecvHold) (put : Put) → Hands held put → to_say held ≡ []
hands_mute (RecvHas i) put h = refl
hands_mute (RecvTook n) put h = refl
hands_mute (RecvDoes recv_acts.Park) put h = refl
hands_mute (RecvDoes act) put h = absurd h

-- it is neither closed nor acknowledged
pub fares_goes : (f : Bool) (st : RecvState) (lane : RecvLane) (past : RecvPast) (end : EndPast) → Fares f st lane past end → is_ended st ≡ false → (b : Bool) × GoesOn past b
fares_goes f recv_states.Listen lane past end x e = (false, x.goes_on)
fares_goes f recv_states.ReadSettings lane past end x e = (true, x.0.goes_on)
fares_goes f recv_states.SendLocalCheckpoint lane past end x e = (true, x.0.goes_on)
fares_goes f recv_states.SendFileChunks lane past end x e = (true, x.0.goes_on)
fares_goes f recv_states.ReadNextCmd lane past end x e = (true, x.0.goes_on)
fares_goes f recv_states.TakeBlock lane past end x e = (true, x.0.goes_on)
fares_goes f recv_states.SendWait lane past end x e = (true, x.0.goes_on)
fares_goes f recv_states.WaitForFinish lane past end x e = (true, x.0.goes_on)
fares_goes f recv_states.SendGlobalCheckpoint lane past end x e = (true, x.0.goes_on)
fares_goes f recv_states.SendDone lane past end x e = (true, x.goes_on)
fares_goes f recv_states.ReadAck lane past end x e = (true, x.goes_on)
fares_goes f recv_states.SendAbort lane past end x e = (true, x.goes_on)
fares_goes f recv_states.Ended lane past end x e = cc

-- ---- where it can say that its end has failed, it talks

word_talks : (o : Option Phase) (free : Bool) → IsWord o free → free ≡ false → (q : Phase) × (stand false o ≡ Talks q)
word_talks (Some q) free w e = (q, refl)
word_talks None true w e = cc
word_talks None false w e = absurd w

reading_in : (st : RecvState) → is_reading st ≡ true → is_recv_out st ≡ false
reading_in recv_states.ReadSettings e = refl
reading_in recv_states.ReadNextCmd e = refl
reading_in recv_states.ReadAck e = refl
reading_in st e = cc

or_both : (a b : Bool) → a ≡ false → b ≡ false → (a || b) ≡ false
or_both a b x y = ap (λ (c : Bool). c || b) x ∙ y

-- a frame that tells of no failure was read
pub got_talks : (lane : RecvLane) (past : RecvPast) (f : Frame) → is_reading lane.state ≡ true → is_abort f ≡ false → HeardDown (RecvHas (recv_inputs.Got f)) lane past.is_idle → (q : Phase) × (recv_stance lane past.is_idle past.is_acked (RecvHas (recv_inputs.Got f)) ≡ Talks q)
got_talks lane past f reads calm heard = word_talks (recv.phase_heard (Framed f) (recv.phase_by lane past.is_idle false lane.state)) (is_recv_out lane.state || is_abort f) heard (or_both (is_recv_out lane.state) (is_abort f) (reading_in lane.state reads) calm)

-- a piece was taken
pub took_talks : (lane : RecvLane) (past : RecvPast) (n : ℕ) → lane.state ≡ recv_states.TakeBlock → HeardDown (RecvTook n) lane past.is_idle → (q : Phase) × (recv_stance lane past.is_idle past.is_acked (RecvTook n) ≡ Talks q)
took_talks lane past n here heard = word_talks (recv.phase_taking lane n) (is_recv_out lane.state) heard (ap is_recv_out here)

-- a frame was written
wrote_talks : (sized : Bool) (lane : RecvLane) (past : RecvPast) (st : RecvState) → lane.state ≡ st → receives_writing st ≡ true → is_mute (row_of sized st recv_inputs.Wrote) ≡ false → (q : Phase) × (recv_stance lane past.is_idle past.is_acked (RecvHas recv_inputs.Wrote) ≡ Talks q)
wrote_talks sized lane past recv_states.SendLocalCheckpoint is w m = (told lane.ask, ap (λ (x : RecvState). stand false (recv.phase_written lane.ask x)) is)
wrote_talks sized lane past recv_states.SendFileChunks is w m = (Told, ap (λ (x : RecvState). stand false (recv.phase_written lane.ask x)) is)
wrote_talks sized lane past recv_states.SendWait is w m = (Asked, ap (λ (x : RecvState). stand false (recv.phase_written lane.ask x)) is)
wrote_talks sized lane past recv_states.SendGlobalCheckpoint is w m = (SendingPhase, ap (λ (x : RecvState). stand false (recv.phase_written lane.ask x)) is)
wrote_talks sized lane past recv_states.SendDone is w m = (Bye, ap (λ (x : RecvState). stand false (recv.phase_written lane.ask x)) is)
wrote_talks sized lane past recv_states.SendAbort is w m = cc
wrote_talks sized lane past st is w m = cc

-- a frame after which a failed end can tell something tells of no failure itself
calm_row : (sized : Bool) (st : RecvState) (f : Frame) → is_reading st ≡ true → is_mute (row_of sized st (recv_inputs.Got f)) ≡ false → is_abort f ≡ false
calm_row sized recv_states.ReadSettings (frames.Abort code) r m = cc
calm_row sized recv_states.ReadNextCmd (frames.Abort code) r m = cc
calm_row sized recv_states.ReadAck (frames.Abort code) r m = cc
calm_row sized st (frames.Abort code) r m = cc
calm_row sized st f r m = refl

lost_mute : (sized : Bool) (st : RecvState) → is_linked st ≡ true → is_mute (row_of sized st recv_inputs.Lost) ≡ true
lost_mute sized recv_states.Listen e = cc
lost_mute sized recv_states.Ended e = cc
lost_mute sized st e = refl

-- whatever it hands in
pub voice_talks : (r : PlainReceiver) (l : ℕ) (held : RecvHold) (put : Put) → Hands held put → RecvBelongs held (lane_at r l) (past_at r l) → HeardDown held (lane_at r l) (past_at r l).is_idle → is_mute (row_at r (number l) put) ≡ false
    → (q : Phase) × (recv_stance (lane_at r l) (past_at r l).is_idle (past_at r l).is_acked held ≡ Talks q)
voice_talks r l (RecvHas recv_inputs.Wrote) put h b d m = wrote_talks (lane_at r l).is_sized (lane_at r l) (past_at r l) (state_at r l) refl b (subst (λ (p : Put). is_mute (row_at r (number l) p) ≡ false) h m)
voice_talks r l (RecvHas (recv_inputs.Got f)) put h b d m = got_talks (lane_at r l) (past_at r l) f b (calm_row (lane_at r l).is_sized (state_at r l) f b (subst (λ (p : Put). is_mute (row_at r (number l) p) ≡ false) h m)) d
voice_talks r l (RecvHas recv_inputs.Linked) put h b d m = absurd (both_ways (is_mute (row_at r (number l) (Given recv_inputs.Linked))) (subst (λ (p : Put). is_mute (row_at r (number l) p) ≡ false) h m) (ap (λ (x : RecvState). is_mute (row_of (lane_at r l).is_sized x recv_inputs.Linked)) b))
voice_talks r l (RecvHas recv_inputs.NoLink) put h b d m = absurd (both_ways (is_mute (row_at r (number l) (Given recv_inputs.NoLink))) (subst (λ (p : Put). is_mute (row_at r (number l) p) ≡ false) h m) (ap (λ (x : RecvState). is_mute (row_of (lane_at r l).is_sized x recv_inputs.NoLink)) b))
voice_talks r l (RecvHas recv_inputs.Lost) put h b d m = absurd (both_ways (is_mute (row_at r (number l) (Given recv_inputs.Lost))) (subst (λ (p : Put). is_mute (row_at r (number l) p) ≡ false) h m) (lost_mute (lane_at r l).is_sized (state_at r l) b))
voice_talks r l (RecvHas i) put h b d m = absurd b
voice_talks r l (RecvTook n) put h b d m = took_talks (lane_at r l) (past_at r l) n b d
voice_talks r l (RecvDoes recv_acts.Park) put h b d m = (Asked, ap (λ (x : RecvState). stand (recv_aborts x) (recv.phase_by (lane_at r l) (past_at r l).is_idle (past_at r l).is_acked x)) b)
voice_talks r l (RecvDoes act) put h b d m = absurd h

-- ---- the steps

module _ (w : PlainWorld) (l : ℕ) (c : Conversation w) (within : l < length w.pairs) (tells : CanTell w.receiver) (put : Put) (fits : FitsPut put) (hands : Hands (pair_at w l).recv put) (belongs : RecvBelongsAt w l) where
  abbrev Ends : Step → Type 0
  Ends step = EndsIn (Unit {0}) (turn_plan w.receiver (number l) put) step

  small : l < length w.receiver.lanes
  small = subst (λ (n : ℕ). l < n) (sym c.recv_lanes) within

  pub lives : is_ended (state_at w.receiver l) ≡ false
  lives = hands_lives (pair_at w l).recv put (lane_at w.receiver l) (past_at w.receiver l) hands belongs

  pub goes_on : (b : Bool) × GoesOn (past_at w.receiver l) b
  goes_on = fares_goes (is_failure w.receiver.answer) (state_at w.receiver l) (lane_at w.receiver l) (past_at w.receiver l) (end_of w.receiver.history) (c.receiver.lanes l small) lives

  loses : (o : Option Block) → (o ≡ (past_at w.receiver l).begun) ⊎ (o ≡ None) → Loses (receiving w.receiver l).begun (option_map (known_header w.receiver.known) o)
  loses o (inl e) = Keeps (ap (option_map (known_header w.receiver.known)) e)
  loses o (inr e) = Drops (ap (option_map (known_header w.receiver.known)) e)

  begun_named : (o : Option Block) → (o ≡ (past_at w.receiver l).begun) ⊎ (o ≡ None) → (b : Block) → o ≡ Some b → is_some (known_at w.receiver.known b.file) ≡ true
  begun_named o (inl e) b is = (c.named l within).begun b (sym e ∙ is)
  begun_named o (inr e) b is = let none : None ≡ Some b = sym e ∙ is in cc

  named : (later : RecvPast) → later.landed ≡ (past_at w.receiver l).landed → (later.begun ≡ (past_at w.receiver l).begun) ⊎ (later.begun ≡ None) → IsNamed w.receiver.known later
  named later land begin =
      record {
        landed = subst (λ (bs : List Block). Each (λ (b : Block). is_some (known_at w.receiver.known b.file) ≡ true) bs) (sym land) (c.named l within).landed;
        begun = begun_named later.begun begin;
      }

  -- the lane says nothing more
  pub hushes : (step : Step) (after : RecvLane) (later : RecvPast) → Ends step → Own w.receiver step.1 l w.receiver.known after later
      → later.landed ≡ (past_at w.receiver l).landed → (later.begun ≡ (past_at w.receiver l).begun) ⊎ (later.begun ≡ None)
      → to_say (RecvDoes step.0) ≡ [] → Pieces after.left (RecvDoes step.0) → recv_stance after later.is_idle later.is_acked (RecvDoes step.0) ≡ Silent
      → (later.is_idle ≡ true → (past_at w.receiver l).is_idle ≡ true) → (later.is_closed ≡ true → later.begun ≡ None)
      → Conversation (recv_turned w l step)
  hushes step after later ends own land begin says pieces silent idle shut =
      own_keeps w l put step w.receiver.known after later c within ends lives own (named later land begin)
      (λ grows.
      subst (λ (bs : List Block). Converses (common step.1) l (sending w.sender l) record { lane = after; past = later; landed = map (known_header w.receiver.known) bs; begun = option_map (known_header w.receiver.known) later.begun } (recv_gets (pair_at w l) step.0)) (sym land)
      (quiets_here (common w.receiver) (common step.1) l grows (sending w.sender l) (receiving w.receiver l).landed (pair_at w l).send (pair_at w l).taken (pair_at w l).between (pair_at w l).newest (pair_at w l).denies (pair_at w l).refusals (pair_at w l).recv step.0
      (lane_at w.receiver l) after (past_at w.receiver l) later (receiving w.receiver l).begun (option_map (known_header w.receiver.known) later.begun) (hands_mute (pair_at w l).recv put hands) says silent (loses later.begun begin) pieces idle
      (λ e. ap (option_map (known_header w.receiver.known)) (shut e)) (λ e. absurd (both_ways (past_at w.receiver l).is_closed goes_on.1.closed e)) (c.lanes l within)))

  -- the lane ends, and its end fails with it, or failed before
  pub leaves_keeps : (t : PlainReceiver) → Own w.receiver t l w.receiver.known (lane_at w.receiver l) (past_at w.receiver l) → Ends (leaves t (number l)) → Conversation (recv_turned w l (leaves t (number l)))
  leaves_keeps t own ends =
      hushes (leaves t (number l)) (record (lane_at w.receiver l) { state = recv_states.Ended }) (past_at w.receiver l) ends (own_goes w.receiver t l w.receiver.known (lane_at w.receiver l) (past_at w.receiver l) recv_states.Ended small own)
      refl (inl refl) refl tt (ap (λ (b : Bool). stand false (over_if b)) goes_on.1.acked) (λ e. e) (λ e. absurd (both_ways (past_at w.receiver l).is_closed goes_on.1.closed e))

  -- the lane is about to say that the end has failed
  pub tells_keeps : (t : PlainReceiver) (after : RecvLane) (later : RecvPast) (q : Phase) → Own w.receiver t l w.receiver.known after later
      → later.landed ≡ (past_at w.receiver l).landed → later.begun ≡ (past_at w.receiver l).begun → later.is_closed ≡ (past_at w.receiver l).is_closed
      → receives (receiving w.receiver l) (pair_at w l) ≡ Talks q → (later.is_idle ≡ true → IdleThere w l) → Ends (tells_failure t (number l)) → Conversation (recv_turned w l (tells_failure t (number l)))
  tells_keeps t after later q own land begin closed talks idle ends =
      own_keeps w l put (tells_failure t (number l)) w.receiver.known (record after { state = recv_states.SendAbort }) later c within ends lives (own_goes w.receiver t l w.receiver.known after later recv_states.SendAbort small own) (named later land (inl begin))
      (λ grows.
      subst (λ (bs : List Block). Converses (common (tells_failure t (number l)).1) l (sending w.sender l) record { lane = record after { state = recv_states.SendAbort }; past = later; landed = map (known_header w.receiver.known) bs; begun = option_map (known_header w.receiver.known) later.begun } (recv_gets (pair_at w l) (tells_failure t (number l)).0)) (sym land)
      (subst (λ (o : Option Block). Converses (common (tells_failure t (number l)).1) l (sending w.sender l) record { lane = record after { state = recv_states.SendAbort }; past = later; landed = (receiving w.receiver l).landed; begun = option_map (known_header w.receiver.known) o } (recv_gets (pair_at w l) (tells_failure t (number l)).0)) (sym begin)
      (warns_here (common w.receiver) (common (tells_failure t (number l)).1) l grows (sending w.sender l) (receiving w.receiver l).landed (pair_at w l).send (pair_at w l).taken (pair_at w l).between (pair_at w l).newest (pair_at w l).denies (pair_at w l).refusals (pair_at w l).recv (code_of t.answer)
      (lane_at w.receiver l) (record after { state = recv_states.SendAbort }) (past_at w.receiver l) later (receiving w.receiver l).begun q (hands_mute (pair_at w l).recv put hands) talks refl (said_fits w l put (tells_failure t (number l)) c within tells fits ends).0
      (λ e. still_idle (common w.receiver) (common w.receiver) l same (sending w.sender l) (receiving w.receiver l).landed (pair_at w l).send (pair_at w l).taken (pair_at w l).between (pair_at w l).newest (pair_at w l).denies (pair_at w l).refusals (RecvDoes recv_acts.Park) (recv_acts.Write (frames.Abort (code_of t.answer))) refl (tt, tt) (idle e))
      closed (c.lanes l within)))) where
        same : Grows (common w.receiver) (common w.receiver)
        same = record { have = refl; finish = refl; closed = λ k n e. e }

  -- it was idle only where it was
  idle_there : (past_at w.receiver l).is_idle ≡ true → IdleThere w l
  idle_there e =
      still_idle (common w.receiver) (common w.receiver) l record { have = refl; finish = refl; closed = λ k n x. x } (sending w.sender l) (receiving w.receiver l).landed (pair_at w l).send (pair_at w l).taken (pair_at w l).between (pair_at w l).newest (pair_at w l).denies (pair_at w l).refusals (pair_at w l).recv recv_acts.Park
      (hands_mute (pair_at w l).recv put hands) tt ((c.lanes l within).idle e)

  -- the end fails, or failed before, and the lane stands as it stood
  pub warned_keeps : (t : PlainReceiver) (q : Phase) → Own w.receiver t l w.receiver.known (lane_at w.receiver l) (past_at w.receiver l) → receives (receiving w.receiver l) (pair_at w l) ≡ Talks q → Ends (tells_failure t (number l)) → Conversation (recv_turned w l (tells_failure t (number l)))
  warned_keeps t q own talks ends = tells_keeps t (lane_at w.receiver l) (past_at w.receiver l) q own refl refl refl talks idle_there ends

  point_talks : (t : PlainReceiver) (at : IdlePoint w l t) → receives (receiving w.receiver l) (pair_at w l) ≡ Talks Asked
  point_talks t at =
      ap (λ (h : RecvHold). recv_stance (lane_at w.receiver l) (past_at w.receiver l).is_idle (past_at w.receiver l).is_acked h) at.holds
      ∙ (ap (λ (x : RecvState). recv_stance (record (lane_at w.receiver l) { state = x }) (past_at w.receiver l).is_idle (past_at w.receiver l).is_acked at.held) at.here ∙ at.talks)

  -- the finish fails
  pub unfinished_keeps : (t u : PlainReceiver) (later : RecvPast) (at : IdlePoint w l t) → Own w.receiver u l w.receiver.known at.lane later
      → later.landed ≡ (past_at w.receiver l).landed → later.begun ≡ (past_at w.receiver l).begun → later.is_closed ≡ (past_at w.receiver l).is_closed
      → Ends (tells_failure u (number l)) → Conversation (recv_turned w l (tells_failure u (number l)))
  unfinished_keeps t u later at own land begin closed ends = tells_keeps u at.lane later Asked own land begin closed (point_talks t at) (λ e. at.waits) ends

  -- ---- the lane wants a connection

  -- a receiver whose lane has none, and has begun no block
  pub record Without (t : PlainReceiver) : Type 0 where
    pub lane : RecvLane
    pub past : RecvPast
    pub own : Own w.receiver t l w.receiver.known lane past
    pub landed : past.landed ≡ (past_at w.receiver l).landed
    pub begun : past.begun ≡ None
    pub idle : past.is_idle ≡ false
    pub closed : past.is_closed ≡ false
    pub acked : past.is_acked ≡ false

  pub listens_keeps : (t : PlainReceiver) → Without t → Ends (recv_acts.Accept, goes t l recv_states.Listen) → Conversation (recv_turned w l (recv_acts.Accept, goes t l recv_states.Listen))
  listens_keeps t at ends =
      hushes (recv_acts.Accept, goes t l recv_states.Listen) (record at.lane { state = recv_states.Listen }) at.past ends (own_goes w.receiver t l w.receiver.known at.lane at.past recv_states.Listen small at.own)
      at.landed (inr at.begun) refl tt refl (λ e. absurd (both_ways at.past.is_idle at.idle e)) (λ e. at.begun)

  pub given_up_keeps : (t : PlainReceiver) (come : Bool) → Without t → Ends (recv_acts.Stop, goes (noted t (given_up (number l) come ∷ [])) l recv_states.Ended) → Conversation (recv_turned w l (recv_acts.Stop, goes (noted t (given_up (number l) come ∷ [])) l recv_states.Ended))
  given_up_keeps t true at ends =
      hushes (recv_acts.Stop, goes (noted t (recv_events.Quit (number l) ∷ [])) l recv_states.Ended) (record at.lane { state = recv_states.Ended }) (record at.past { has_quit = true }) ends
      (own_goes w.receiver (noted t (recv_events.Quit (number l) ∷ [])) l w.receiver.known at.lane (record at.past { has_quit = true }) recv_states.Ended small
      (own_noted w.receiver t l w.receiver.known at.lane at.past (recv_events.Quit (number l) ∷ []) (record at.past { has_quit = true }) (rw (eq-eqb l l refl) refl) refl at.own))
      at.landed (inr at.begun) refl tt (ap (λ (b : Bool). stand false (over_if b)) at.acked) (λ e. absurd (both_ways at.past.is_idle at.idle e)) (λ e. at.begun)
  given_up_keeps t false at ends =
      hushes (recv_acts.Stop, goes (noted t (recv_events.Close (number l) ∷ [])) l recv_states.Ended) (record at.lane { state = recv_states.Ended }) (record at.past { is_closed = true }) ends
      (own_goes w.receiver (noted t (recv_events.Close (number l) ∷ [])) l w.receiver.known at.lane (record at.past { is_closed = true }) recv_states.Ended small
      (own_noted w.receiver t l w.receiver.known at.lane at.past (recv_events.Close (number l) ∷ []) (record at.past { is_closed = true }) (rw (eq-eqb l l refl) refl) refl at.own))
      at.landed (inr at.begun) refl tt (ap (λ (b : Bool). stand false (over_if b)) at.acked) (λ e. absurd (both_ways at.past.is_idle at.idle e)) (λ e. at.begun)

  -- a try failed
  pub without_link : state_at w.receiver l ≡ recv_states.Listen → Without (noted w.receiver (recv_events.NoLink (number l) ∷ []))
  without_link here =
      let fares = recv_fares w l recv_states.Listen c within here in
      record {
        lane = lane_at w.receiver l;
        past = record (past_at w.receiver l) { failed_tries = (past_at w.receiver l).failed_tries + 1 };
        own = own_noted w.receiver w.receiver l w.receiver.known (lane_at w.receiver l) (past_at w.receiver l) (recv_events.NoLink (number l) ∷ []) (record (past_at w.receiver l) { failed_tries = (past_at w.receiver l).failed_tries + 1 }) (rw (eq-eqb l l refl) refl) refl (own_self w.receiver l);
        landed = refl;
        begun = fares.begun;
        idle = fares.idle;
        closed = fares.goes_on.closed;
        acked = fares.goes_on.acked;
      }

  -- the connection is lost
  pub without_lost : Without (drops_lane w.receiver (number l))
  without_lost =
      record {
        lane = record (lane_at w.receiver l) { is_sized = false; has_waited = false; left = 0 };
        past = record (past_at w.receiver l) { begun = None; is_up = false; is_idle = false; telling = [] };
        own = own_put w.receiver (noted w.receiver (recv_events.Dropped (number l) ∷ [])) l w.receiver.known (lane_at w.receiver l) (record (past_at w.receiver l) { begun = None; is_up = false; is_idle = false; telling = [] }) (record (lane_at w.receiver l) { is_sized = false; has_waited = false; left = 0 }) small
            (own_noted w.receiver w.receiver l w.receiver.known (lane_at w.receiver l) (past_at w.receiver l) (recv_events.Dropped (number l) ∷ []) (record (past_at w.receiver l) { begun = None; is_up = false; is_idle = false; telling = [] }) (rw (eq-eqb l l refl) refl) refl (own_self w.receiver l));
        landed = refl;
        begun = refl;
        idle = refl;
        closed = goes_on.1.closed;
        acked = goes_on.1.acked;
      }
