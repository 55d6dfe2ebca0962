-- Each end of a step's plan is one of the outcomes: the one walk over the whole table.
use Rattle.std.proofs.Common.{◌≡◌, ◌⊎◌, inl, inr, ℕ, zero, suc, ◌-◌, List, [], ◌∷◌, length, Bool, true, false, Option, Some, None, subst, sym, ap, ◌∙◌, refl, arith}
use Rattle.wdt_units.specs.declared.blocks.Block.{Block}
use Rattle.wdt_units.specs.declared.blocks.Header.{Header}
use Rattle.wdt_units.specs.declared.numbers.Lane.{Lane}
use Rattle.wdt_codec.specs.declared.frames.Frame.{Frame}
use Rattle.wdt_codec.specs.declared.frames.Frame.TheVariants as frames
use Rattle.wdt_codec.specs.declared.frames.Settings.{Settings}
use Rattle.wdt_logfmt.specs.Beginning.{block_of, is_new}
use Rattle.wdt_logfmt.specs.Marks.{bytes_in, files_in}
use Rattle.wdt_sender_fsm.specs.declared.answers.EndAnswer.{EndAnswer}
use Rattle.wdt_sender_fsm.specs.declared.answers.EndAnswer.TheVariants as answers
use Rattle.wdt_sender_fsm.specs.declared.peers.PeerKind.{PeerKind}
use Rattle.wdt_sender_fsm.specs.declared.peers.PeerKind.TheVariants as peers
use Rattle.wdt_sender_fsm.specs.Rows.{command_of}
use Rattle.wdt_sender_fsm.specs.Rules.{is_failure, starved, by_rules, by_voice}
use Rattle.wdt_receiver_fsm.specs.declared.events.RecvEvent.{RecvEvent}
use Rattle.wdt_receiver_fsm.specs.declared.events.RecvEvent.TheVariants as events
use Rattle.wdt_receiver_fsm.specs.declared.inputs.RecvIn.{RecvIn}
use Rattle.wdt_receiver_fsm.specs.declared.inputs.RecvIn.TheVariants as inputs
use Rattle.wdt_receiver_fsm.specs.declared.states.RecvState.{RecvState}
use Rattle.wdt_receiver_fsm.specs.declared.states.RecvState.TheVariants as states
use Rattle.wdt_receiver_fsm.specs.Frames.{block_fault, settings_fault, short_fault, size_fault}
use Rattle.wdt_receiver_fsm.specs.Logging.{all_logged, all_logged_by, flush_by}
use Rattle.wdt_receiver_fsm.specs.Outcomes.{Rested, Left, Warned, Failed, GivenUp, Listened, Linked, Greeted, Listed, ReadOn, Sized, Begun, Taken, Concluded, Told, Waited, Ended, Acknowledged, Serves, is_linked, WasOver, WasStray, WasSettled, WasNoBlock, WasMute, WasTold, Lands, landed_by, Idles, ByDone, ByWait, ByWaking, Finishes, Mistakes, NoFrame, NoPlace, WrongSettings, OtherSize, WrongBlock, Fails, OfMemory, OfSender, OfPeer, OfShort, OfMake, OfWrite, OfLog, OfFinish, Listens, AtFirst, ByNoLink, ByLoss, ByGreeting, ByChunks, ByMarks, ByLanding, ByLogging, WasFinished, IsFinished, OfKnown, OfNew, Comes}
use Rattle.wdt_receiver_fsm.specs.Plan.{EndsIn, Plan, calls, ends}
use Rattle.wdt_receiver_fsm.specs.PlainReceiver.{PlainReceiver, begun_blocks, can_finish, failed, has_finish, is_batch_full, is_ended, lane_at, marks_at, noted, past_at, state_at, untold_at}
use Rattle.wdt_receiver_fsm.specs.ReceiverHistory.{end_of}
use Rattle.wdt_receiver_fsm.specs.Rows.{Row, Over, Starved, Aborted, BadFrame, Unexpected, Piece, SettingsRead, Size, Block as BlockRead, Done, WaitWritten, Woken, at_settings, at_command, at_answer, is_mute, is_mute_at, is_reading, is_stray, place_of, piece_row, row_of}
use Rattle.wdt_receiver_fsm.specs.Turn.{Put, Given, Bytes, Step, rests, leaves, tells_failure, gives_up, faults, disk_fails, drops_lane, is_used_up, knows, listen, listen_by, greets_with, lists_by, sizes_with, reads_on, logs_by, piece_by, piece_plan, makes_by, block_with, idle_by, idle_plan, idles_lane, waited_lane, finish_plan, finishes, finishes_with, tells_by, is_over, after_starving, ruled, turned, turn_row, row_at, turn_plan}

-- ---- plans

-- each end of a plan has P, those behind a failed call too
pub Each : (Step → Type 0) → Plan Step → Type 0
Each P (ends s) = P s
Each P (calls f broken next) = P broken × Each P next

pub each_end : (P : Step → Type 0) (Why : Type 0) (plan : Plan Step) (x : Step) → Each P plan → EndsIn Why plan x → P x
unfolding Each
each_end P Why (ends s) x all is = subst P (sym is) all
each_end P Why (calls f broken next) x all (inl h) = subst P (sym h.1) all.0
each_end P Why (calls f broken next) x all (inr h) = each_end P Why next x all.1 h

each_flush : (P : Step → Type 0) (r : PlainReceiver) (bs : List Block) (broken : Step) (next : PlainReceiver → Plan Step) → P broken → Each P (next (all_logged_by r bs)) → Each P (flush_by r bs broken next)
unfolding Each
each_flush P r [] broken next fell on = on
each_flush P r (b ∷ bs) broken next fell on = (fell, on)

-- ---- what is chosen

by_first : {X : Type 0} (P : X → Type 0) (a c : Bool) (w x y z : X) → a ≡ false → (c ≡ true → P y) → (c ≡ false → P z) → P (by_rules a false c w x y z)
by_first P true c w x y z lives h k = cc
by_first P false true w x y z lives h k = h refl
by_first P false false w x y z lives h k = k refl

voiced : {X : Type 0} (P : X → Type 0) (b : Bool) (x y : X) → (b ≡ true → P x) → (b ≡ false → P y) → P (by_voice b x y)
voiced P true x y f g = f refl
voiced P false x y f g = g refl

module _ (r : PlainReceiver) (l : Lane) where
  -- a step of the lane that hands this in
  abbrev C : Put → Step → Type 0
  C put step = Comes r l put step

  abbrev E : Put → Plan Step → Type 0
  E put plan = Each (Comes r l put) plan

  -- ---- the end fails

  fell : (state : RecvState) (put : Put) (row : Row) (kind : PeerKind) → Serves r l state → is_reading state ≡ true → is_mute row ≡ false → Mistakes r l state put kind → C put (faults r l row kind)
  fell state put row kind at reads voice wrong = record {
    outcome = Failed (noted r (events.Peer l kind ∷ [])) (answers.Peer kind) false;
    is = ap (λ (b : Bool). by_voice b (leaves (failed (noted r (events.Peer l kind ∷ [])) (answers.Peer kind)) l) (tells_failure (failed (noted r (events.Peer l kind ∷ [])) (answers.Peer kind)) l)) voice;
    of = OfPeer state kind at reads wrong;
  }

  disk : (put : Put) (t : PlainReceiver) (row : Row) → is_mute row ≡ false → Fails r l put t answers.Disk false → C put (disk_fails t l row)
  disk put t row voice why = record {
    outcome = Failed t answers.Disk false;
    is = ap (λ (b : Bool). by_voice b (leaves (failed t answers.Disk) l) (tells_failure (failed t answers.Disk) l)) voice;
    of = why;
  }

  heard : (state : RecvState) (code : ℕ) → Serves r l state → is_reading state ≡ true → E (Given (inputs.Got (frames.Abort code))) (turn_row r l (Aborted code))
  unfolding Each
  heard state code at reads = record { outcome = Failed (noted r (events.Abort l code ∷ [])) (answers.Aborted code) true; is = refl; of = OfSender state code at reads refl }

  misplaced : (state : RecvState) (frame : Frame) → Serves r l state → is_reading state ≡ true → row_of (lane_at r l.0).is_sized state (inputs.Got frame) ≡ Unexpected (place_of state) (command_of frame) → E (Given (inputs.Got frame)) (turn_row r l (Unexpected (place_of state) (command_of frame)))
  unfolding Each
  misplaced state frame at reads row = fell state (Given (inputs.Got frame)) (Unexpected (place_of state) (command_of frame)) (peers.Unexpected (place_of state) (command_of frame)) at reads refl (NoPlace frame (command_of frame) refl row refl)

  broken : (state : RecvState) (at : ℕ) → Serves r l state → is_reading state ≡ true → E (Given (inputs.Bad at)) (turn_row r l (BadFrame at))
  unfolding Each
  broken state at serves reads = fell state (Given (inputs.Bad at)) (BadFrame at) (peers.BadFrame at) serves reads refl (NoFrame at refl refl)

  -- ---- connections

  retried : (put : Put) (t : PlainReceiver) → Listens r l put t → E put (ends (listen t l))
  unfolding Each
  retried put t why = go (is_used_up (past_at t l.0)) refl where
    go : (b : Bool) → is_used_up (past_at t l.0) ≡ b → C put (listen_by t l (is_used_up (past_at t l.0)))
    go true used = record { outcome = GivenUp t; is = ap (λ (b : Bool). listen_by t l b) used; of = (why, used) }
    go false used = record { outcome = Listened t; is = ap (λ (b : Bool). listen_by t l b) used; of = (why, used) }

  -- ---- what the sender tells

  greets_so : (s : Settings) (o : Option ℕ) → settings_fault (length r.lanes) (end_of r.history).met l.0 (lane_at r l.0).conn s ≡ o → Serves r l states.ReadSettings → C (Given (inputs.Got (frames.Settings s))) (greets_with r l s o)
  greets_so s (Some field) wrong at = fell states.ReadSettings (Given (inputs.Got (frames.Settings s))) (SettingsRead s) (peers.BadSettings field) at refl refl (WrongSettings s field refl refl wrong refl)
  greets_so s None right at = record { outcome = Greeted s; is = refl; of = (at, refl, right) }

  lists_so : (b : Bool) → (lane_at r l.0).ask ≡ b → Serves r l states.SendLocalCheckpoint → C (Given inputs.Wrote) (lists_by r l b)
  lists_so true asked at = record { outcome = Listed; is = refl; of = (at, refl, asked) }
  lists_so false asked at = record { outcome = ReadOn r; is = refl; of = ByGreeting at refl asked }

  sizes_so : (files bytes : ℕ) (o : Option PeerKind) → size_fault (end_of r.history).sized files bytes ≡ o → (lane_at r l.0).is_sized ≡ false → Serves r l states.ReadNextCmd → C (Given (inputs.Got (frames.Size files bytes))) (sizes_with r l files bytes o)
  sizes_so files bytes (Some kind) wrong sized at = fell states.ReadNextCmd (Given (inputs.Got (frames.Size files bytes))) (Size files bytes) kind at refl refl (OtherSize files bytes refl refl sized wrong)
  sizes_so files bytes None right sized at = record { outcome = Sized files bytes; is = refl; of = (at, sized, refl, right) }

  -- ---- blocks

  makes_so : (h : Header) (b : Bool) → is_new r.known h ≡ b → block_fault r.known (marks_at r) (begun_blocks r) (length (past_at r l.0).landed) h ≡ None → (lane_at r l.0).is_sized ≡ true → Serves r l states.ReadNextCmd → E (Given (inputs.Got (frames.Block h))) (makes_by r l h b)
  unfolding Each
  makes_so h true new right sized at = (disk (Given (inputs.Got (frames.Block h))) r (BlockRead h) refl (OfMake h at sized refl right new), record { outcome = Begun (knows r h) (block_of r.known h); is = refl; of = OfNew h at sized refl right new })
  makes_so h false new right sized at = record { outcome = Begun r (block_of r.known h); is = refl; of = OfKnown h at sized refl right new }

  blocks_so : (h : Header) (o : Option PeerKind) → block_fault r.known (marks_at r) (begun_blocks r) (length (past_at r l.0).landed) h ≡ o → (lane_at r l.0).is_sized ≡ true → Serves r l states.ReadNextCmd → E (Given (inputs.Got (frames.Block h))) (block_with r l h o)
  unfolding Each
  blocks_so h (Some kind) wrong sized at = fell states.ReadNextCmd (Given (inputs.Got (frames.Block h))) (BlockRead h) kind at refl refl (WrongBlock h refl refl sized wrong)
  blocks_so h None right sized at = makes_so h (is_new r.known h) refl right sized at

  logs_so : (bytes : List ℕ) (b : Block) (full : Bool) → is_batch_full (landed_by r l b) ≡ full → Lands r l (Bytes bytes) b → E (Bytes bytes) (logs_by (landed_by r l b) l (Piece bytes) full)
  unfolding Each
  logs_so bytes b true full lands = each_flush (C (Bytes bytes)) (landed_by r l b) (landed_by r l b).unlogged (disk_fails (landed_by r l b) l (Piece bytes)) (reads_on l)
      (disk (Bytes bytes) (landed_by r l b) (Piece bytes) refl (OfLog b lands full))
      record { outcome = ReadOn (all_logged (landed_by r l b)); is = refl; of = ByLogging b lands full }
  logs_so bytes b false full lands = record { outcome = ReadOn (landed_by r l b); is = refl; of = ByLanding b lands full }

  zero_not : (n : ℕ) → suc n ≡ zero → ⊥
  zero_not n e = absurd (omega (arith, e))

  takes_so : (bytes : List ℕ) (b : Block) (left : ℕ) → (lane_at r l.0).left - length bytes ≡ left → (past_at r l.0).begun ≡ Some b → Serves r l states.TakeBlock → E (Bytes bytes) (piece_by r l b (Piece bytes) left)
  unfolding Each
  takes_so bytes b zero rest begun at = logs_so bytes b (is_batch_full (landed_by r l b)) refl record { serves = at; bytes = bytes; handed = refl; begun = begun; last = rest }
  takes_so bytes b (suc left) rest begun at = record { outcome = Taken (suc left); is = refl; of = record { serves = at; bytes = bytes; block = b; handed = refl; begun = begun; rest = rest; more = zero_not left } }

  pieces_so : (bytes : List ℕ) (o : Option Block) → (past_at r l.0).begun ≡ o → Serves r l states.TakeBlock → E (Bytes bytes) (piece_plan r l bytes o)
  unfolding Each
  pieces_so bytes None begun at = record { outcome = Rested; is = refl; of = WasNoBlock bytes at refl begun }
  pieces_so bytes (Some b) begun at = (disk (Bytes bytes) r (Piece bytes) refl (OfWrite bytes b at refl begun), takes_so bytes b ((lane_at r l.0).left - length bytes) refl begun at)

  -- ---- the idle choice

  tells_so : (put : Put) (t : PlainReceiver) (qs : List ℕ) → untold_at t l.0 ≡ qs → Idles r l put t → has_finish t ≡ false → can_finish t ≡ false → C put (tells_by t l qs)
  tells_so put t [] none idles first unready = record { outcome = Waited t (lane_at t l.0).has_waited; is = refl; of = (record { idles = idles; first = first; unready = unready; told = none }, refl) }
  tells_so put t (q ∷ qs) some idles first unready = record { outcome = Told t q qs; is = refl; of = record { idles = idles; first = first; unready = unready; told = some } }

  ends_so : (put : Put) (t : PlainReceiver) (row : Row) (o : Option PeerKind) → short_fault (end_of t.history).sized (files_in (marks_at (all_logged t))) (bytes_in (marks_at (all_logged t))) ≡ o → is_mute row ≡ false → Finishes r l put t → C put (finishes_with r.history (all_logged t) l row o)
  ends_so put t row (Some kind) short voice why = record {
    outcome = Failed (noted (record (all_logged t) { history = r.history }) (events.Peer l kind ∷ [])) (answers.Peer kind) false;
    is = ap (λ (b : Bool). by_voice b (leaves (failed (noted (record (all_logged t) { history = r.history }) (events.Peer l kind ∷ [])) (answers.Peer kind)) l) (tells_failure (failed (noted (record (all_logged t) { history = r.history }) (events.Peer l kind ∷ [])) (answers.Peer kind)) l)) voice;
    of = OfShort t kind why short;
  }
  ends_so put t row None whole voice why = record { outcome = Concluded (noted (all_logged t) (events.Finish ∷ [])); is = refl; of = IsFinished t why whole }

  -- a flush leaves the history
  same_history : (t : PlainReceiver) (bs : List Block) → (all_logged_by t bs).history ≡ t.history
  same_history t [] = refl
  same_history t (b ∷ bs) = refl

  finishes_so : (put : Put) (t : PlainReceiver) (row : Row) → is_mute row ≡ false → Finishes r l put t → E put (finish_plan r.history t l row)
  unfolding Each
  finishes_so put t row voice why = each_flush (C put) t t.unlogged (disk_fails t l row) (finishes r.history l row) (disk put t row voice (OfFinish t why))
      (subst (λ (h : List RecvEvent). C put (finishes_with r.history (all_logged t) l row (short_fault (end_of h).sized (files_in (marks_at (all_logged t))) (bytes_in (marks_at (all_logged t))))))
      (sym (same_history t t.unlogged))
      (ends_so put t row (short_fault (end_of t.history).sized (files_in (marks_at (all_logged t))) (bytes_in (marks_at (all_logged t)))) refl voice why))

  idles_by : (put : Put) (t : PlainReceiver) (row : Row) (come ready : Bool) → has_finish t ≡ come → can_finish t ≡ ready → is_mute row ≡ false → Idles r l put t → E put (idle_by r.history t l row come ready)
  unfolding Each
  idles_by put t row true ready come is voice idles = record { outcome = Concluded t; is = refl; of = WasFinished t idles come }
  idles_by put t row false true come is voice idles = finishes_so put t row voice record { idles = idles; first = come; ready = is }
  idles_by put t row false false come is voice idles = tells_so put t (untold_at t l.0) refl idles come is

  idles_so : (put : Put) (t : PlainReceiver) (row : Row) → is_mute row ≡ false → Idles r l put t → E put (idle_plan r.history t l row)
  idles_so put t row voice idles = idles_by put t row (has_finish t) (can_finish t) refl refl voice idles

  -- ---- the table

  stray : (put : Put) → is_failure r.answer ≡ false → is_stray (row_at r l put) ≡ true → E put (ends (rests r))
  unfolding Each
  stray put sound out = record { outcome = Rested; is = refl; of = WasStray sound out }

  strays : (state : RecvState) (input : RecvIn) → is_stray (row_of (lane_at r l.0).is_sized state input) ≡ true → Serves r l state → E (Given input) (ends (rests r))
  strays state input out at = stray (Given input) at.sound (ap (λ (x : RecvState). is_stray (row_of (lane_at r l.0).is_sized x input)) at.here ∙ out)

  loses : (state : RecvState) → is_linked state ≡ true → Serves r l state → E (Given inputs.Lost) (ends (listen (drops_lane r l) l))
  loses state linked at = retried (Given inputs.Lost) (drops_lane r l) (ByLoss state at linked refl)

  settings : (frame : Frame) → Serves r l states.ReadSettings → E (Given (inputs.Got frame)) (turn_row r l (at_settings frame))
  unfolding Each
  settings (frames.Abort code) at = heard states.ReadSettings code at refl
  settings (frames.Settings s) at = greets_so s (settings_fault (length r.lanes) (end_of r.history).met l.0 (lane_at r l.0).conn s) refl at
  settings frame at = misplaced states.ReadSettings frame at refl refl

  command : (sized : Bool) (frame : Frame) → (lane_at r l.0).is_sized ≡ sized → Serves r l states.ReadNextCmd → E (Given (inputs.Got frame)) (turn_row r l (at_command sized frame))
  unfolding Each
  command sized (frames.Abort code) is at = heard states.ReadNextCmd code at refl
  command false (frames.Size files bytes) is at = sizes_so files bytes (size_fault (end_of r.history).sized files bytes) refl is at
  command true (frames.Block h) is at = blocks_so h (block_fault r.known (marks_at r) (begun_blocks r) (length (past_at r l.0).landed) h) refl is at
  command true frames.Done is at = idles_so (Given (inputs.Got frames.Done)) (idles_lane r l) Done refl (ByDone at is refl refl)
  command false frame is at = misplaced states.ReadNextCmd frame at refl (ap (λ (b : Bool). row_of b states.ReadNextCmd (inputs.Got frame)) is)
  command true frame is at = misplaced states.ReadNextCmd frame at refl (ap (λ (b : Bool). row_of b states.ReadNextCmd (inputs.Got frame)) is)

  answer : (frame : Frame) → Serves r l states.ReadAck → E (Given (inputs.Got frame)) (turn_row r l (at_answer frame))
  unfolding Each
  answer (frames.Abort code) at = heard states.ReadAck code at refl
  answer frames.Done at = record { outcome = Acknowledged; is = refl; of = (at, refl) }
  answer frame at = misplaced states.ReadAck frame at refl refl

  -- the rows of a lane that an end serves, which is neither a piece's nor want of memory
  table : (state : RecvState) (input : RecvIn) → is_ended state ≡ false → (input ≡ inputs.Starved → is_failure (starved r.answer) ≡ false) → Serves r l state → E (Given input) (turn_row r l (row_of (lane_at r l.0).is_sized state input))
  unfolding Each
  table states.Ended input lives calm at = cc
  table state inputs.Starved lives calm at = record { outcome = Rested; is = refl; of = WasSettled at.sound (ap is_ended at.here ∙ lives) refl (calm refl) }
  table states.Listen inputs.Start lives calm at = retried (Given inputs.Start) r (AtFirst at refl)
  table states.Listen inputs.NoLink lives calm at = retried (Given inputs.NoLink) (noted r (events.NoLink l ∷ [])) (ByNoLink at refl)
  table states.Listen inputs.Linked lives calm at = record { outcome = Linked; is = refl; of = (at, refl) }
  table states.Listen input lives calm at = strays states.Listen input refl at
  table states.ReadSettings inputs.Lost lives calm at = loses states.ReadSettings refl at
  table states.ReadSettings (inputs.Got frame) lives calm at = settings frame at
  table states.ReadSettings (inputs.Bad place) lives calm at = broken states.ReadSettings place at refl
  table states.SendLocalCheckpoint inputs.Lost lives calm at = loses states.SendLocalCheckpoint refl at
  table states.SendLocalCheckpoint inputs.Wrote lives calm at = lists_so (lane_at r l.0).ask refl at
  table states.SendFileChunks inputs.Lost lives calm at = loses states.SendFileChunks refl at
  table states.SendFileChunks inputs.Wrote lives calm at = record { outcome = ReadOn r; is = refl; of = ByChunks at refl }
  table states.ReadNextCmd inputs.Lost lives calm at = loses states.ReadNextCmd refl at
  table states.ReadNextCmd (inputs.Got frame) lives calm at = command (lane_at r l.0).is_sized frame refl at
  table states.ReadNextCmd (inputs.Bad place) lives calm at = broken states.ReadNextCmd place at refl
  table states.TakeBlock inputs.Lost lives calm at = loses states.TakeBlock refl at
  table states.SendWait inputs.Lost lives calm at = loses states.SendWait refl at
  table states.SendWait inputs.Wrote lives calm at = idles_so (Given inputs.Wrote) (waited_lane r l) WaitWritten refl (ByWait at refl refl)
  table states.WaitForFinish inputs.Lost lives calm at = loses states.WaitForFinish refl at
  table states.WaitForFinish inputs.Woken lives calm at = idles_so (Given inputs.Woken) r Woken refl (ByWaking at refl refl)
  table states.SendGlobalCheckpoint inputs.Lost lives calm at = loses states.SendGlobalCheckpoint refl at
  table states.SendGlobalCheckpoint inputs.Wrote lives calm at = record { outcome = ReadOn r; is = refl; of = ByMarks at refl }
  table states.SendDone inputs.Lost lives calm at = loses states.SendDone refl at
  table states.SendDone inputs.Wrote lives calm at = record { outcome = Ended; is = refl; of = (at, refl) }
  table states.ReadAck inputs.Lost lives calm at = loses states.ReadAck refl at
  table states.ReadAck (inputs.Got frame) lives calm at = answer frame at
  table states.ReadAck (inputs.Bad place) lives calm at = broken states.ReadAck place at refl
  table states.SendAbort inputs.Lost lives calm at = loses states.SendAbort refl at
  table states.SendAbort inputs.Wrote lives calm at = record { outcome = Left; is = refl; of = (ap is_ended at.here, WasTold at refl) }
  table state input lives calm at = strays state input refl at

  -- the rows of bytes
  pieces : (state : RecvState) (bytes : List ℕ) → is_ended state ≡ false → Serves r l state → E (Bytes bytes) (turn_row r l (piece_row state bytes))
  unfolding Each
  pieces states.Ended bytes lives at = cc
  pieces states.TakeBlock bytes lives at = pieces_so bytes (past_at r l.0).begun refl at
  pieces state bytes lives at = stray (Bytes bytes) at.sound (ap (λ (x : RecvState). is_stray (piece_row x bytes)) at.here)

  serves_put : (put : Put) → is_ended (state_at r l.0) ≡ false → (put ≡ Given inputs.Starved → is_failure (starved r.answer) ≡ false) → is_failure r.answer ≡ false → E put (turn_row r l (row_at r l put))
  serves_put (Given input) lives calm sound = table (state_at r l.0) input lives (λ e. calm (ap (λ (i : RecvIn). Given i) e)) record { sound = sound; here = refl }
  serves_put (Bytes bytes) lives calm sound = pieces (state_at r l.0) bytes lives record { sound = sound; here = refl }

  -- ---- the rules

  -- a lane that hasn't ended has another row
  lives_input : (sized : Bool) (state : RecvState) (input : RecvIn) → is_ended state ≡ false → is_over (row_of sized state input) ≡ false
  lives_input sized states.Ended input lives = cc
  lives_input sized state inputs.Starved lives = refl
  lives_input sized states.Listen inputs.Start lives = refl
  lives_input sized states.ReadSettings (inputs.Got (frames.Abort code)) lives = refl
  lives_input sized states.ReadSettings (inputs.Got (frames.Settings s)) lives = refl
  lives_input sized states.ReadSettings (inputs.Got frame) lives = refl
  lives_input sized states.ReadNextCmd (inputs.Got (frames.Abort code)) lives = refl
  lives_input false states.ReadNextCmd (inputs.Got (frames.Size files bytes)) lives = refl
  lives_input true states.ReadNextCmd (inputs.Got (frames.Block h)) lives = refl
  lives_input true states.ReadNextCmd (inputs.Got frames.Done) lives = refl
  lives_input false states.ReadNextCmd (inputs.Got frame) lives = refl
  lives_input true states.ReadNextCmd (inputs.Got frame) lives = refl
  lives_input sized states.ReadAck (inputs.Got (frames.Abort code)) lives = refl
  lives_input sized states.ReadAck (inputs.Got frames.Done) lives = refl
  lives_input sized states.ReadAck (inputs.Got frame) lives = refl
  lives_input sized state input lives = refl

  lives_bytes : (state : RecvState) (bytes : List ℕ) → is_ended state ≡ false → is_over (piece_row state bytes) ≡ false
  lives_bytes states.Ended bytes lives = cc
  lives_bytes states.TakeBlock bytes lives = refl
  lives_bytes state bytes lives = refl

  lives_on : (put : Put) → is_ended (state_at r l.0) ≡ false → is_over (row_at r l put) ≡ false
  lives_on (Given input) lives = lives_input (lane_at r l.0).is_sized (state_at r l.0) input lives
  lives_on (Bytes bytes) lives = lives_bytes (state_at r l.0) bytes lives

  gives_so : (put : Put) (t : PlainReceiver) (row : Row) → (is_mute row ≡ true → C put (leaves t l)) → (is_mute row ≡ false → C put (tells_failure t l)) → E put (ends (gives_up t l row))
  unfolding Each
  gives_so put t row mute voice = voiced (C put) (is_mute row) (leaves t l) (tells_failure t l) mute voice

  -- by the rules, where memory didn't run out or the end had its answer
  ruled_comes : (put : Put) → is_ended (state_at r l.0) ≡ false → (put ≡ Given inputs.Starved → is_failure r.answer ≡ false → is_failure (starved r.answer) ≡ false) → E put (ruled r l (row_at r l put))
  ruled_comes put lives calm =
      by_first (E put) (is_over (row_at r l put)) (is_failure r.answer) (ends (rests r)) (ends (leaves r l)) (ends (gives_up r l (row_at r l put))) (turn_row r l (row_at r l put))
      (lives_on put lives)
      (λ fails. gives_so put r (row_at r l put)
      (λ mute. record { outcome = Left; is = refl; of = (lives, WasMute fails mute) })
      (λ voice. record { outcome = Warned; is = refl; of = (lives, record { failed = fails; voice = voice }) }))
      (λ sound. serves_put put lives (λ e. calm e sound) sound)

  -- ---- want of memory

  -- the end had no answer: that is it
  starves : r.answer ≡ answers.Going → is_ended (state_at r l.0) ≡ false → E (Given inputs.Starved) (ruled (failed r answers.NoMemory) l (Starved (is_mute_at (state_at r l.0))))
  starves going lives =
      gives_so (Given inputs.Starved) (failed r answers.NoMemory) (Starved (is_mute_at (state_at r l.0)))
      (λ mute. record { outcome = Failed r answers.NoMemory true; is = refl; of = OfMemory true going refl lives (sym mute) })
      (λ voice. record { outcome = Failed r answers.NoMemory false; is = refl; of = OfMemory false going refl lives (sym voice) })

  memory_row : (sized : Bool) (state : RecvState) → is_ended state ≡ false → row_of sized state inputs.Starved ≡ Starved (is_mute_at state)
  memory_row sized states.Ended lives = cc
  memory_row sized state lives = refl

  -- it had one: the step is by the rules
  full_row : is_ended (state_at r l.0) ≡ false → starved r.answer ≡ r.answer → E (Given inputs.Starved) (ruled (failed r (starved r.answer)) l (Starved (is_mute_at (state_at r l.0))))
  full_row lives same =
      subst (λ (a : EndAnswer). E (Given inputs.Starved) (ruled (failed r a) l (Starved (is_mute_at (state_at r l.0))))) (sym same)
      (subst (λ (x : Row). E (Given inputs.Starved) (ruled r l x)) (memory_row (lane_at r l.0).is_sized (state_at r l.0) lives) (ruled_comes (Given inputs.Starved) lives (λ e sound. ap is_failure same ∙ sound)))

  hungry : (a : EndAnswer) → r.answer ≡ a → is_ended (state_at r l.0) ≡ false → E (Given inputs.Starved) (ruled (failed r (starved r.answer)) l (Starved (is_mute_at (state_at r l.0))))
  hungry answers.Going e lives = subst (λ (x : EndAnswer). E (Given inputs.Starved) (ruled (failed r (starved x)) l (Starved (is_mute_at (state_at r l.0))))) (sym e) (starves e lives)
  hungry a e lives = full_row lives (ap starved e ∙ sym e)

  abbrev is_hungry : Row → Bool
  is_hungry (Starved mute) = true
  is_hungry row = false

  fed : (row : Row) → is_hungry row ≡ false → after_starving r row ≡ r
  fed (Starved mute) e = cc
  fed row e = refl

  abbrev is_memory : RecvIn → Bool
  is_memory inputs.Starved = true
  is_memory input = false

  -- no other input has the row of want of memory
  other_row : (sized : Bool) (state : RecvState) (input : RecvIn) → is_memory input ≡ false → is_hungry (row_of sized state input) ≡ false
  other_row sized states.Ended input e = refl
  other_row sized state inputs.Starved e = cc
  other_row sized states.Listen inputs.Start e = refl
  other_row sized states.ReadSettings (inputs.Got (frames.Abort code)) e = refl
  other_row sized states.ReadSettings (inputs.Got (frames.Settings s)) e = refl
  other_row sized states.ReadSettings (inputs.Got frame) e = refl
  other_row sized states.ReadNextCmd (inputs.Got (frames.Abort code)) e = refl
  other_row false states.ReadNextCmd (inputs.Got (frames.Size files bytes)) e = refl
  other_row true states.ReadNextCmd (inputs.Got (frames.Block h)) e = refl
  other_row true states.ReadNextCmd (inputs.Got frames.Done) e = refl
  other_row false states.ReadNextCmd (inputs.Got frame) e = refl
  other_row true states.ReadNextCmd (inputs.Got frame) e = refl
  other_row sized states.ReadAck (inputs.Got (frames.Abort code)) e = refl
  other_row sized states.ReadAck (inputs.Got frames.Done) e = refl
  other_row sized states.ReadAck (inputs.Got frame) e = refl
  other_row sized state input e = refl

  piece_other : (state : RecvState) (bytes : List ℕ) → is_hungry (piece_row state bytes) ≡ false
  piece_other states.Ended bytes = refl
  piece_other states.TakeBlock bytes = refl
  piece_other state bytes = refl

  fed_step : (put : Put) → is_hungry (row_at r l put) ≡ false → (put ≡ Given inputs.Starved → is_failure r.answer ≡ false → is_failure (starved r.answer) ≡ false) → is_ended (state_at r l.0) ≡ false → E put (turned r l (row_at r l put))
  fed_step put other calm lives =
      subst (λ (t : PlainReceiver). E put (ruled t l (row_at r l put))) (sym (fed (row_at r l put) other)) (ruled_comes put lives calm)

  step : (put : Put) → is_ended (state_at r l.0) ≡ false → E put (turned r l (row_at r l put))
  step (Given inputs.Starved) lives = subst (λ (x : Row). E (Given inputs.Starved) (turned r l x)) (sym (memory_row (lane_at r l.0).is_sized (state_at r l.0) lives)) (hungry r.answer refl lives)
  step (Given input) lives = fed_step (Given input) (other_row (lane_at r l.0).is_sized (state_at r l.0) input refl) (λ e. cc) lives
  step (Bytes bytes) lives = fed_step (Bytes bytes) (piece_other (state_at r l.0) bytes) (λ e. cc) lives

-- a lane that has ended rests
over_row : (r : PlainReceiver) (l : Lane) (put : Put) → state_at r l.0 ≡ states.Ended → row_at r l put ≡ Over
over_row r l (Given input) ended = ap (λ (x : RecvState). row_of (lane_at r l.0).is_sized x input) ended
over_row r l (Bytes bytes) ended = ap (λ (x : RecvState). piece_row x bytes) ended

over_rests : (r : PlainReceiver) (l : Lane) (put : Put) → state_at r l.0 ≡ states.Ended → Each (Comes r l put) (turned r l (row_at r l put))
unfolding Each
over_rests r l put ended = subst (λ (x : Row). Each (Comes r l put) (turned r l x)) (sym (over_row r l put ended)) record { outcome = Rested; is = refl; of = WasOver ended }

has_ended : (state : RecvState) → (state ≡ states.Ended) ⊎ (is_ended state ≡ false)
has_ended states.Ended = inl refl
has_ended state = inr refl

-- each end of a step's plan is one of the outcomes
pub turn_comes : (r : PlainReceiver) (l : Lane) (put : Put) → Each (Comes r l put) (turn_plan r l put)
unfolding turn_plan
turn_comes r l put = go (has_ended (state_at r l.0)) where
  go : (state_at r l.0 ≡ states.Ended) ⊎ (is_ended (state_at r l.0) ≡ false) → Each (Comes r l put) (turned r l (row_at r l put))
  go (inl ended) = over_rests r l put ended
  go (inr lives) = step r l put lives

pub end_comes : (r : PlainReceiver) (l : Lane) (put : Put) (Why : Type 0) (x : Step) → EndsIn Why (turn_plan r l put) x → Comes r l put x
end_comes r l put Why x h = each_end (Comes r l put) Why (turn_plan r l put) x (turn_comes r l put) h
