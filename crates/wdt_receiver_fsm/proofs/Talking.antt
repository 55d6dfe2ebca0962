-- A lane's phase, with what it hands in, is its phase behind the step.
use Rattle.std.proofs.Common.{◌≡◌, inl, inr, ℕ, zero, suc, ◌-◌, ◌==◌, ◌<◌, min, List, [], ◌∷◌, length, Bool, true, false, if◌then◌else◌, Option, Some, None, is_some, subst, sym, ap, ◌∙◌, refl, arith}
use Rattle.std.proofs.lemmas.Bool.{both_ways, ne_eqb}
use Rattle.wdt_units.specs.declared.blocks.Block.{Block}
use Rattle.wdt_units.specs.declared.numbers.Lane.{Lane}
use Rattle.wdt_codec.specs.declared.frames.Frame.{Frame}
use Rattle.wdt_codec.specs.declared.frames.Frame.TheVariants as frames
use Rattle.wdt_codec.specs.declared.frames.Settings.{Settings}
use Rattle.wdt_sender_fsm.specs.Phases.{Asked, Bye, Framed, Listing, Met, Mid, Over, Phase, Piece, Sending, Told as ToldAll, down, piece_from, piece_most, told, with_left}
use Rattle.wdt_sender_fsm.specs.Rules.{is_failure}
use Rattle.wdt_receiver_fsm.specs.declared.events.RecvEvent.TheVariants as events
use Rattle.wdt_receiver_fsm.specs.declared.inputs.RecvIn.{RecvIn}
use Rattle.wdt_receiver_fsm.specs.declared.inputs.RecvIn.TheVariants as inputs
use Rattle.wdt_receiver_fsm.specs.declared.states.RecvLane.{RecvLane}
use Rattle.wdt_receiver_fsm.specs.declared.states.RecvState.{RecvState}
use Rattle.wdt_receiver_fsm.specs.declared.states.RecvState.TheVariants as states
use Rattle.wdt_receiver_fsm.specs.Logging.{all_logged, all_logged_by}
use Rattle.wdt_receiver_fsm.specs.Outcomes.{Outcome, Rested, Left, Warned, Failed, GivenUp, Listened, Linked, Greeted, Listed, ReadOn, Sized, Begun, Taken, Concluded, Told, Waited, Ended, Acknowledged, came_to, ComesOf, Serves, Rests, WasOver, WasStray, WasSettled, WasNoBlock, WasMute, WasTold, Leaves, Lands, landed_by, Idles, ByDone, ByWait, ByWaking, Listens, AtFirst, ByNoLink, ByLoss, ReadsOn, ByGreeting, ByChunks, ByMarks, ByLanding, ByLogging, Concludes, WasFinished, IsFinished, Begins, OfKnown, OfNew, Takes}
use Rattle.wdt_receiver_fsm.specs.Phases.{StandsIn, asked_by, phase_by, phase_heard, phase_holding, phase_linked, phase_of, phase_with, phase_written, sized_by as sized_phase}
use Rattle.wdt_receiver_fsm.specs.Plan.{EndsIn}
use Rattle.wdt_receiver_fsm.specs.PlainReceiver.{PlainReceiver, failed, has_finish, lane_at, noted, past_at, state_at, with_lane}
use Rattle.wdt_receiver_fsm.specs.Receiver.{HasLeft, IsReceiver}
use Rattle.wdt_receiver_fsm.specs.ReceiverHistory.{RecvPast, end_of}
use Rattle.wdt_receiver_fsm.specs.Rows.{is_stray, piece_row, row_of}
use Rattle.wdt_receiver_fsm.specs.Sets.{set_of}
use Rattle.wdt_receiver_fsm.specs.Turn.{Bytes, Given, Put, Step, begins_by, greets_by, lands, meets, met_by, next_take, row_at, sized_by, turn_plan, waits_by}
use Rattle.wdt_receiver_fsm.proofs.Comes.{end_comes}
use Rattle.wdt_receiver_fsm.proofs.Entries.{acked, finish_past, met_past}
use Rattle.wdt_receiver_fsm.proofs.Failing.{voiced_answer}
use Rattle.wdt_receiver_fsm.proofs.HeldActs.{concludes_many, begins_many, fails_here, idles_many, lane_set, meets_many, reads_many, still}
use Rattle.wdt_receiver_fsm.proofs.Receiving.{fare, idle_by}

-- ---- what belongs to no state leads on from no phase

abbrev held_in : RecvLane → Bool → RecvState → RecvIn → Option Phase
held_in lane idle state inputs.Wrote = phase_written lane.ask state
held_in lane idle state (inputs.Got frame) = phase_heard (Framed frame) (phase_by lane idle false state)
held_in lane idle state inputs.Linked = phase_linked state
held_in lane idle state _ = None

held_is : (lane : RecvLane) (idle : Bool) (input : RecvIn) → phase_holding lane idle input ≡ held_in lane idle lane.state input
held_is lane idle inputs.Wrote = refl
held_is lane idle (inputs.Got frame) = refl
held_is lane idle inputs.Linked = refl
held_is lane idle input = refl

stray_wrote : (lane : RecvLane) (idle : Bool) (state : RecvState) → is_stray (row_of lane.is_sized state inputs.Wrote) ≡ true → phase_written lane.ask state ≡ None
stray_wrote lane idle states.SendLocalCheckpoint stray = cc
stray_wrote lane idle states.SendFileChunks stray = cc
stray_wrote lane idle states.SendWait stray = cc
stray_wrote lane idle states.SendGlobalCheckpoint stray = cc
stray_wrote lane idle states.SendDone stray = cc
stray_wrote lane idle state stray = refl

read_settings : (sized : Bool) (frame : Frame) → is_stray (row_of sized states.ReadSettings (inputs.Got frame)) ≡ false
read_settings sized (frames.Abort code) = refl
read_settings sized (frames.Settings s) = refl
read_settings sized frame = refl

read_command : (sized : Bool) (frame : Frame) → is_stray (row_of sized states.ReadNextCmd (inputs.Got frame)) ≡ false
read_command sized (frames.Abort code) = refl
read_command false (frames.Size files bytes) = refl
read_command true (frames.Block h) = refl
read_command true frames.Done = refl
read_command false frame = refl
read_command true frame = refl

read_answer : (sized : Bool) (frame : Frame) → is_stray (row_of sized states.ReadAck (inputs.Got frame)) ≡ false
read_answer sized (frames.Abort code) = refl
read_answer sized frames.Done = refl
read_answer sized frame = refl

no_word : (idle ask : Bool) (frame : Frame) → phase_heard (Framed frame) (Some (asked_by idle ask)) ≡ None
no_word true ask frame = refl
no_word false ask frame = refl

stray_got : (lane : RecvLane) (idle : Bool) (state : RecvState) (frame : Frame) → is_stray (row_of lane.is_sized state (inputs.Got frame)) ≡ true → phase_heard (Framed frame) (phase_by lane idle false state) ≡ None
stray_got lane idle states.ReadSettings frame stray = absurd (both_ways _ (read_settings lane.is_sized frame) stray)
stray_got lane idle states.ReadNextCmd frame stray = absurd (both_ways _ (read_command lane.is_sized frame) stray)
stray_got lane idle states.ReadAck frame stray = absurd (both_ways _ (read_answer lane.is_sized frame) stray)
stray_got lane idle states.SendDone frame stray = no_word idle lane.ask frame
stray_got lane idle state frame stray = refl

stray_linked : (lane : RecvLane) (state : RecvState) → is_stray (row_of lane.is_sized state inputs.Linked) ≡ true → phase_linked state ≡ None
stray_linked lane states.Listen stray = cc
stray_linked lane state stray = refl

stray_held : (lane : RecvLane) (idle : Bool) (state : RecvState) (input : RecvIn) → is_stray (row_of lane.is_sized state input) ≡ true → held_in lane idle state input ≡ None
stray_held lane idle state inputs.Wrote stray = stray_wrote lane idle state stray
stray_held lane idle state (inputs.Got frame) stray = stray_got lane idle state frame stray
stray_held lane idle state inputs.Linked stray = stray_linked lane state stray
stray_held lane idle state input stray = refl

no_piece : (sized : Bool) (n : ℕ) → phase_heard (Piece n) (Some (sized_phase sized)) ≡ None
no_piece true n = refl
no_piece false n = refl

stray_bytes : (lane : RecvLane) (state : RecvState) (bytes : List ℕ) → is_stray (piece_row state bytes) ≡ true → phase_heard (Piece (length bytes)) (phase_by lane false false state) ≡ None
stray_bytes lane states.TakeBlock bytes stray = cc
stray_bytes lane states.ReadNextCmd bytes stray = no_piece lane.is_sized (length bytes)
stray_bytes lane state bytes stray = refl

stray_with : (r : PlainReceiver) (l : Lane) (put : Put) → is_stray (row_at r l put) ≡ true → phase_with (lane_at r l.0) (past_at r l.0) put ≡ None
stray_with r l (Given input) stray = held_is (lane_at r l.0) (past_at r l.0).is_idle input ∙ stray_held (lane_at r l.0) (past_at r l.0).is_idle (state_at r l.0) input stray
stray_with r l (Bytes bytes) stray = stray_bytes (lane_at r l.0) (state_at r l.0) bytes stray

over_wrote : (lane : RecvLane) (past : RecvPast) (put : Put) → lane.state ≡ states.Ended → phase_with lane past put ≡ None
over_wrote lane past (Given input) over = held_is lane past.is_idle input ∙ ap (λ (x : RecvState). held_in lane past.is_idle x input) over ∙ none input
  where
    none : (input : RecvIn) → held_in lane past.is_idle states.Ended input ≡ None
    none inputs.Wrote = refl
    none (inputs.Got frame) = refl
    none inputs.Linked = refl
    none input = refl
over_wrote lane past (Bytes bytes) over = ap (λ (x : RecvState). phase_heard (Piece (length bytes)) (phase_by lane false false x)) over

-- ---- pieces

no_some : {A B : Type 0} (x : A) → None ≡ Some x → B
no_some x e = absurd (cc)

with_left_more : (left : ℕ) → with_left (suc left) ≡ Mid (suc left)
with_left_more left = ap (λ (b : Bool). if b then Sending else Mid (suc left)) (ne_eqb (suc left) 0 (λ e. absurd (omega (arith, e))))

-- a piece that is a move leads on by what is left behind it
piece_on : (left n : ℕ) (p : Phase) → piece_from left n ≡ Some p → Some (with_left (left - n)) ≡ Some p
piece_on left n p h = go (n == min left piece_most) refl
  where
    go : (b : Bool) → (n == min left piece_most) ≡ b → Some (with_left (left - n)) ≡ Some p
    go true is = sym (ap (λ (b : Bool). if b then Some (with_left (left - n)) else None) is) ∙ h
    go false is = no_some p (sym (ap (λ (b : Bool). if b then Some (with_left (left - n)) else None) is) ∙ h)

module _ (r : PlainReceiver) (l : Lane) (put : Put) (p : Phase) (is : IsReceiver r) (within : l.0 < length r.lanes) (sound : is_failure r.answer ≡ false) (holds : phase_with (lane_at r l.0) (past_at r l.0) put ≡ Some p) where
  abbrev S : PlainReceiver → Type 0
  S t = StandsIn p l t

  -- ---- what is held

  held_so : (other : Put) → put ≡ other → phase_with (lane_at r l.0) (past_at r l.0) other ≡ Some p
  held_so other given = sym (ap (λ (x : Put). phase_with (lane_at r l.0) (past_at r l.0) x) given) ∙ holds

  wrote : (state : RecvState) → Serves r l state → put ≡ Given inputs.Wrote → phase_written (lane_at r l.0).ask state ≡ Some p
  wrote state at given = sym (ap (λ (x : RecvState). phase_written (lane_at r l.0).ask x) at.here) ∙ held_so (Given inputs.Wrote) given

  heard : (state : RecvState) (frame : Frame) → Serves r l state → put ≡ Given (inputs.Got frame) → phase_heard (Framed frame) (phase_by (lane_at r l.0) (past_at r l.0).is_idle false state) ≡ Some p
  heard state frame at given = sym (ap (λ (x : RecvState). phase_heard (Framed frame) (phase_by (lane_at r l.0) (past_at r l.0).is_idle false x)) at.here) ∙ held_so (Given (inputs.Got frame)) given

  commanded : (sized : Bool) (frame : Frame) → Serves r l states.ReadNextCmd → (lane_at r l.0).is_sized ≡ sized → put ≡ Given (inputs.Got frame) → down (sized_phase sized) (Framed frame) ≡ Some p
  commanded sized frame at is given = sym (ap (λ (b : Bool). down (sized_phase b) (Framed frame)) is) ∙ heard states.ReadNextCmd frame at given

  pieced : (bytes : List ℕ) (left : ℕ) → Serves r l states.TakeBlock → put ≡ Bytes bytes → (lane_at r l.0).left - length bytes ≡ left → Some (with_left left) ≡ Some p
  pieced bytes left at given rest =
      sym (ap (λ (n : ℕ). Some (with_left n)) rest)
      ∙ piece_on (lane_at r l.0).left (length bytes) p (sym (ap (λ (x : RecvState). phase_heard (Piece (length bytes)) (phase_by (lane_at r l.0) false false x)) at.here) ∙ held_so (Bytes bytes) given)

  -- ---- the lane is put

  stands : (t : PlainReceiver) (lane : RecvLane) → length t.lanes ≡ length r.lanes → phase_of lane (past_at t l.0) ≡ Some p → S (with_lane t l.0 lane)
  stands t lane many phase = inr (ap (λ (x : RecvLane). phase_of x (past_at t l.0)) (lane_set t l.0 lane (still r t l many within)) ∙ phase)

  listens_not : {A : Type 0} (t : PlainReceiver) → Listens r l put t → A
  listens_not t (AtFirst at given) = no_some p (held_so (Given inputs.Start) given)
  listens_not t (ByNoLink at given) = no_some p (held_so (Given inputs.NoLink) given)
  listens_not t (ByLoss state at linked given) = no_some p (held_so (Given inputs.Lost) given)

  no_block : {A : Type 0} (o : Option Block) (left : ℕ) → o ≡ None → HasLeft o left → A
  no_block None left none h = absurd h
  no_block (Some b) left none h = absurd (cc)

  rests_not : {A : Type 0} → Rests r l put → A
  rests_not (WasOver ended) = no_some p (sym (over_wrote (lane_at r l.0) (past_at r l.0) put ended) ∙ holds)
  rests_not (WasStray calm stray) = no_some p (sym (stray_with r l put stray) ∙ holds)
  rests_not (WasSettled calm lives given full) = no_some p (held_so (Given inputs.Starved) given)
  rests_not (WasNoBlock bytes at given none) = no_block (past_at r l.0).begun (lane_at r l.0).left none (fare r l is within states.TakeBlock at).1

  leaves_not : {A : Type 0} → Leaves r l put → A
  leaves_not (WasMute fails mute) = absurd (both_ways _ sound fails)
  leaves_not (WasTold at given) = no_some p (wrote states.SendAbort at given)

  logged_lanes : (t : PlainReceiver) (bs : List Block) → lane_at (all_logged_by t bs) l.0 ≡ lane_at t l.0
  logged_lanes t [] = refl
  logged_lanes t (b ∷ bs) = refl

  landed_sized : (b : Block) → Lands r l put b → (lane_at (landed_by r l b) l.0).is_sized ≡ true
  landed_sized b lands = ap (λ (x : RecvLane). x.is_sized) (lane_set r l.0 record (lane_at r l.0) { left = 0 } within) ∙ (fare r l is within states.TakeBlock lands.serves).2

  reads_on : (t : PlainReceiver) (sized : Bool) → length t.lanes ≡ length r.lanes → (lane_at t l.0).is_sized ≡ sized → Some (sized_phase sized) ≡ Some p → S (with_lane t l.0 record (lane_at t l.0) { state = states.ReadNextCmd })
  reads_on t sized many same phase = stands t record (lane_at t l.0) { state = states.ReadNextCmd } many (ap (λ (b : Bool). Some (sized_phase b)) same ∙ phase)

  read_on : (t : PlainReceiver) (many : length t.lanes ≡ length r.lanes) → ReadsOn r l put t → S (with_lane t l.0 record (lane_at t l.0) { state = states.ReadNextCmd })
  read_on t many (ByGreeting at given asked) =
      reads_on r false refl (fare r l is within states.SendLocalCheckpoint at).2 (sym (ap (λ (b : Bool). Some (told b)) asked) ∙ wrote states.SendLocalCheckpoint at given)
  read_on t many (ByChunks at given) = reads_on r false refl (fare r l is within states.SendFileChunks at).2 (wrote states.SendFileChunks at given)
  read_on t many (ByMarks at given) = reads_on r true refl (fare r l is within states.SendGlobalCheckpoint at).2 (wrote states.SendGlobalCheckpoint at given)
  read_on t many (ByLanding b lands full) = reads_on (landed_by r l b) true many (landed_sized b lands) (pieced lands.bytes 0 lands.serves lands.handed lands.last)
  read_on t many (ByLogging b lands full) =
      reads_on (all_logged (landed_by r l b)) true many (ap (λ (x : RecvLane). x.is_sized) (logged_lanes (landed_by r l b) (landed_by r l b).unlogged) ∙ landed_sized b lands) (pieced lands.bytes 0 lands.serves lands.handed lands.last)

  begins_on : (t : PlainReceiver) (b : Block) (left : ℕ) → length t.lanes ≡ length r.lanes → (lane_at t l.0).is_sized ≡ true → Some (with_left left) ≡ Some p → S (begins_by t l b left).1
  begins_on t b zero many sized phase = reads_on (lands (noted t (events.Begin l b ∷ [])) l b) true many sized phase
  begins_on t b (suc left) many sized phase = stands (noted t (events.Begin l b ∷ [])) record (lane_at t l.0) { state = states.TakeBlock; left = suc left } many (sym (ap (λ (x : Phase). Some x) (with_left_more left)) ∙ phase)

  begun_on : (t : PlainReceiver) (b : Block) (many : length t.lanes ≡ length r.lanes) → Begins r l put t b → S (begins_by t l b b.length).1
  begun_on t b many (OfKnown h at sized given right new) = begins_on r b b.length many sized (commanded true (frames.Block h) at sized given)
  begun_on t b many (OfNew h at sized given right new) = begins_on t b b.length many sized (commanded true (frames.Block h) at sized given)

  taken_on : (left : ℕ) → Takes r l put left → S (with_lane r l.0 record (lane_at r l.0) { state = states.TakeBlock; left = left })
  taken_on left takes = stands r record (lane_at r l.0) { state = states.TakeBlock; left = left } refl (mid left takes.more ∙ pieced takes.bytes left takes.serves takes.handed takes.rest)
    where
      mid : (left : ℕ) → ((left ≡ 0) → ⊥) → Some (Mid left) ≡ Some (with_left left)
      mid zero more = absurd (more refl)
      mid (suc left) more = ap (λ (x : Phase). Some x) (sym (with_left_more left))

  -- ---- an idle lane

  asks : (t : PlainReceiver) → Idles r l put t → Some Asked ≡ Some p
  asks t (ByDone at sized given is) = commanded true frames.Done at sized given
  asks t (ByWait at given is) = wrote states.SendWait at given
  asks t (ByWaking at given is) = no_some p (held_so (Given inputs.Woken) given)

  says_done : (t : PlainReceiver) → length t.lanes ≡ length r.lanes → (past_at t l.0).is_idle ≡ true → Some Asked ≡ Some p → S (with_lane t l.0 record (lane_at t l.0) { state = states.SendDone })
  says_done t many idle phase = stands t record (lane_at t l.0) { state = states.SendDone } many (ap (λ (b : Bool). Some (asked_by b (lane_at t l.0).ask)) idle ∙ phase)

  logged_past : (t : PlainReceiver) (bs : List Block) → past_at (all_logged_by t bs) l.0 ≡ past_at t l.0
  logged_past t [] = refl
  logged_past t (b ∷ bs) = refl

  concludes_on : (t : PlainReceiver) (many : length t.lanes ≡ length r.lanes) → Concludes r l put t → S (with_lane t l.0 record (lane_at t l.0) { state = states.SendDone })
  concludes_on t many (WasFinished u idles come) = says_done u many (idle_by r l is within put u idles) (asks u idles)
  concludes_on t many (IsFinished u why whole) =
      says_done (noted (all_logged u) (events.Finish ∷ [])) many
      (ap (λ (x : RecvPast). x.is_idle) (finish_past (all_logged u).history l.0 ∙ logged_past u u.unlogged) ∙ idle_by r l is within put u why.idles) (asks u why.idles)

  waits_on : (t : PlainReceiver) (again : Bool) → length t.lanes ≡ length r.lanes → Some Asked ≡ Some p → S (waits_by t l again).1
  waits_on t true many phase = stands t record (lane_at t l.0) { state = states.WaitForFinish } many phase
  waits_on t false many phase = stands t record (lane_at t l.0) { state = states.SendWait } many phase

  -- ---- the rest

  meets_past : (s : Settings) (b : Bool) → past_at (met_by r l s b) l.0 ≡ past_at r l.0
  meets_past s true = refl
  meets_past s false = met_past r.history l s l.0

  greets_on : (t : PlainReceiver) (s : Settings) (come : Bool) → length t.lanes ≡ length r.lanes → (past_at t l.0).is_idle ≡ false → Some (Met s.ask) ≡ Some p → S (greets_by t l s come).1
  greets_on t s true many calm phase = stands t record (lane_at t l.0) { state = states.SendDone; ask = s.ask; conn = s.conn.0 } many (ap (λ (b : Bool). Some (asked_by b s.ask)) calm ∙ phase)
  greets_on t s false many calm phase = stands t record (lane_at t l.0) { state = states.SendLocalCheckpoint; ask = s.ask; conn = s.conn.0 } many phase

  sized_on : (files bytes : ℕ) (b : Bool) → state_at r l.0 ≡ states.ReadNextCmd → Some Sending ≡ Some p → S (with_lane (sized_by r l files bytes b) l.0 record (lane_at r l.0) { is_sized = true })
  sized_on files bytes true here phase = stands r record (lane_at r l.0) { is_sized = true } refl (ap (λ (x : RecvState). phase_by record (lane_at r l.0) { is_sized = true } (past_at r l.0).is_idle (past_at r l.0).is_acked x) here ∙ phase)
  sized_on files bytes false here phase =
      let t : PlainReceiver = noted r (events.Sized l files bytes ∷ []) in
      stands (noted r (events.Sized l files bytes ∷ [])) record (lane_at r l.0) { is_sized = true } refl
      (ap (λ (x : RecvState). phase_by record (lane_at r l.0) { is_sized = true } (past_at (noted r (events.Sized l files bytes ∷ [])) l.0).is_idle (past_at (noted r (events.Sized l files bytes ∷ [])) l.0).is_acked x) here ∙ phase)

  outcome_stands : (o : Outcome) → ComesOf r l put o → S (came_to r l o).1
  outcome_stands Rested of = rests_not of
  outcome_stands Left of = leaves_not of.1
  outcome_stands Warned of = absurd (both_ways _ sound of.1.failed)
  outcome_stands (Failed t a mute) of = let fails = (fails_here r t l put a mute of).1 in inl (ap is_failure (voiced_answer r l put (failed t a) mute fails) ∙ fails)
  outcome_stands (GivenUp t) of = listens_not t of.0
  outcome_stands (Listened t) of = listens_not t of.0
  outcome_stands Linked of =
      stands (noted r (events.Take l (next_take r l) ∷ [])) record (lane_at r l.0) { state = states.ReadSettings; is_sized = false; has_waited = false } refl
      (sym (ap phase_linked of.0.here) ∙ held_so (Given inputs.Linked) of.1)
  outcome_stands (Greeted s) of =
      let b = is_some (end_of r.history).met in
      greets_on (meets r l s) s (has_finish r) (meets_many r l s (is_some (end_of r.history).met))
      (ap (λ (x : RecvPast). x.is_idle) (meets_past s (is_some (end_of r.history).met)) ∙ (fare r l is within states.ReadSettings of.0).0.idle) (heard states.ReadSettings (frames.Settings s) of.0 of.1)
  outcome_stands Listed of =
      stands r record (lane_at r l.0) { state = states.SendFileChunks } refl (sym (ap (λ (b : Bool). Some (told b)) of.2) ∙ wrote states.SendLocalCheckpoint of.0 of.1)
  outcome_stands (ReadOn t) of = read_on t (reads_many r t l put of) of
  outcome_stands (Sized files bytes) of = sized_on files bytes (is_some (end_of r.history).sized) of.0.here (commanded false (frames.Size files bytes) of.0 of.1 of.2)
  outcome_stands (Begun t b) of = begun_on t b (begins_many r t l put b of) of
  outcome_stands (Taken left) of = taken_on left of
  outcome_stands (Concluded t) of = concludes_on t (concludes_many r t l put of) of
  outcome_stands (Told t q qs) of =
      stands (noted t (events.Told l (set_of (q ∷ qs)) ∷ [])) record (lane_at t l.0) { state = states.SendGlobalCheckpoint } (idles_many r t l put of.idles) (asks t of.idles)
  outcome_stands (Waited t again) of = waits_on t again (idles_many r t l put of.0.idles) (asks t of.0.idles)
  outcome_stands Ended of = stands r record (lane_at r l.0) { state = states.ReadAck } refl (wrote states.SendDone of.0 of.1)
  outcome_stands Acknowledged of =
      stands (noted r (events.Acked l ∷ [])) record (lane_at r l.0) { state = states.Ended } refl
      (ap (λ (x : RecvPast). Rattle.wdt_sender_fsm.specs.Phases.over_if x.is_acked) (acked r.history l) ∙ heard states.ReadAck frames.Done of.0 of.1)

pub turn_stands : (r : PlainReceiver) (l : Lane) (put : Put) (step : Step) (p : Phase) → IsReceiver r → l.0 < length r.lanes → is_failure r.answer ≡ false → phase_with (lane_at r l.0) (past_at r l.0) put ≡ Some p → EndsIn (Unit {0}) (turn_plan r l put) step → StandsIn p l step.1
turn_stands r l put step p is within sound holds ends =
    let c = end_comes r l put (Unit {0}) step ends in
    subst (λ (x : Step). StandsIn p l x.1) (sym c.is) (outcome_stands r l put p is within sound holds c.outcome c.of)
