-- Each step is one of the outcomes: the one walk over the whole table.
use Rattle.std.proofs.Common.{◌≡◌, ◌⊎◌, inl, inr, ℕ, ◌==◌, ◌||◌, List, [], ◌∷◌, ◌++◌, length, Bool, true, false, not, Option, Some, None, subst, sym, ap, ◌∙◌, refl, is_some, append_assoc, append-nil, eqb-true}
use Rattle.wdt_units.specs.Have.{HaveFile}
use Rattle.wdt_units.specs.declared.blocks.Block.{Block}
use Rattle.wdt_units.specs.declared.numbers.Lane.{Lane}
use Rattle.wdt_codec.specs.declared.frames.Frame.{Frame}
use Rattle.wdt_codec.specs.declared.frames.Frame.TheVariants as frames
use Rattle.wdt_codec.specs.declared.frames.Mark.{Mark}
use Rattle.wdt_sender_fsm.specs.declared.acts.SendAct.TheVariants as acts
use Rattle.wdt_sender_fsm.specs.declared.answers.EndAnswer.{EndAnswer}
use Rattle.wdt_sender_fsm.specs.declared.answers.EndAnswer.TheVariants as answers
use Rattle.wdt_sender_fsm.specs.declared.answers.RefusedKind.{RefusedKind}
use Rattle.wdt_sender_fsm.specs.declared.events.SendEvent.{SendEvent}
use Rattle.wdt_sender_fsm.specs.declared.events.SendEvent.TheVariants as events
use Rattle.wdt_sender_fsm.specs.declared.inputs.SendIn.{SendIn}
use Rattle.wdt_sender_fsm.specs.declared.inputs.SendIn.TheVariants as inputs
use Rattle.wdt_sender_fsm.specs.declared.peers.PeerKind.{PeerKind}
use Rattle.wdt_sender_fsm.specs.declared.peers.PeerKind.TheVariants as peers
use Rattle.wdt_sender_fsm.specs.declared.states.SendState.{SendState}
use Rattle.wdt_sender_fsm.specs.declared.states.SendState.TheVariants as states
use Rattle.wdt_sender_fsm.specs.Chunks.{unordered_at, different_at, refusal}
use Rattle.wdt_sender_fsm.specs.Faults.{count_fault, marks_fault, has_stranger, unexpected_in}
use Rattle.wdt_sender_fsm.specs.Outcomes.{Rested, Waited, Left, Warned, Failed, GivenUp, Redialed, Introduced, Presented, Greeted, Listed, Planned, Claimed, Emptied, Concluded, Finished, Acknowledged, failing}
use Rattle.wdt_sender_fsm.specs.Reasons.{Serves, WasOver, WasStray, WasSettled, WasClosed, WasMute, WasTold, Mistakes, NoFrame, NoPlace, WrongCount, WrongMarks, WrongOrder, OtherList, TooEarly, OfMemory, OfReceiver, OfSource, OfPlan, OfPeer, Dials, AtFirst, ByNoLink, ByLoss, Frees, BySize, ByBlock, ByMarks, Ends, Behind, AtOnce, Reads, Comes}
use Rattle.wdt_sender_fsm.specs.PlainSender.{PlainSender, state_at, past_at, is_closed, is_ended, least_queued, unfinished_blocks, header_of, noted, goes, failed}
use Rattle.wdt_sender_fsm.specs.Rows.{Row, Starved, Aborted, BadFrame, Unexpected, Dropped, Greeted as GreetedRow, DoneAtOnce, Listed as ListedRow, Marked, Finished as FinishedRow, at_checkpoint, at_chunks, at_command, place_of, command_of, is_allowed, is_mute, is_mute_at, is_reading, row_of}
use Rattle.wdt_sender_fsm.specs.Rules.{is_failure, starved, by_rules, by_voice}
use Rattle.wdt_sender_fsm.specs.Turn.{Step, rests, leaves, tells_failure, gives_up, faults, writes, is_used_up, redial_by, redial, greeted_with, greeted_for, listed_again, planned_by, listed_after, listed_in, next_by, next, globals, marked_with, marked_for, finished, finished_at_once, turn_row, after_starving, is_over, ruled, turned, send_turn}
use Rattle.wdt_sender_fsm.proofs.lemmas.Lists.{no_difference}
use Rattle.wdt_sender_fsm.proofs.lemmas.Steps.{voiced}

-- ---- what is chosen

-- what holds of the outcome of each rule where that rule is the first to hold
by_first : {X : Type 0} (P : X → Type 0) (a b c : Bool) (w x y z : X) → a ≡ false → (b ≡ true → P x) → (b ≡ false → c ≡ true → P y) → (b ≡ false → c ≡ false → P z) → P (by_rules a b c w x y z)
by_first P true b c w x y z lives g h k = cc
by_first P false true c w x y z lives g h k = g refl
by_first P false false true w x y z lives g h k = h refl refl
by_first P false false false w x y z lives g h k = k refl refl

noted_none : (s : PlainSender) → noted s [] ≡ s
noted_none s = ap (λ (h : List SendEvent). record s { history = h }) (append-nil s.history)

noted_more : (s : PlainSender) (es ds : List SendEvent) → noted (noted s es) ds ≡ noted s (es ++ ds)
noted_more s es ds = ap (λ (h : List SendEvent). record s { history = h }) (append_assoc s.history es ds)

same_lane : (k l : Lane) → k.0 ≡ l.0 → k ≡ l
same_lane k l e = ap (λ (n : ℕ). record { 0 = n }) e

-- the row of want of memory
abbrev pub is_hungry : Row → Bool
is_hungry (Starved mute) = true
is_hungry row = false

-- want of memory
abbrev pub is_memory : SendIn → Bool
is_memory inputs.Starved = true
is_memory input = false

module _ (s : PlainSender) (l : Lane) where
  -- a step of the lane in a state with an input
  abbrev C : SendIn → Step → Type 0
  C input step = Comes s l input step

  -- ---- the end fails

  fell : (state : SendState) (input : SendIn) (row : Row) (kind : PeerKind) → Serves s l state → is_reading state ≡ true → is_mute row ≡ false → Mistakes s l state input kind → C input (faults s l row kind)
  fell state input row kind at reads voice wrong = record {
    outcome = Failed (answers.Peer kind) false;
    is = ap (λ (b : Bool). by_voice b (leaves (failing s l (answers.Peer kind)) l) (tells_failure (failing s l (answers.Peer kind)) l)) voice;
    of = OfPeer state kind at reads wrong;
  }

  heard : (state : SendState) (code : ℕ) → Serves s l state → is_reading state ≡ true → C (inputs.Got (frames.Abort code)) (turn_row s l (Aborted code))
  heard state code at reads = record { outcome = Failed (answers.Aborted code) true; is = refl; of = OfReceiver state code at reads refl }

  misplaced : (state : SendState) (frame : Frame) → Serves s l state → is_reading state ≡ true → row_of state (inputs.Got frame) ≡ Unexpected (place_of state) (command_of frame) → C (inputs.Got frame) (turn_row s l (Unexpected (place_of state) (command_of frame)))
  misplaced state frame at reads row = fell state (inputs.Got frame) (Unexpected (place_of state) (command_of frame)) (unexpected_in state frame) at reads refl
      (NoPlace frame refl (ap (λ (r : Row). Rattle.wdt_sender_fsm.specs.Faults.is_unexpected (length s.lanes) l.0 (is_some s.have) r) row) refl)

  broken : (state : SendState) (at : ℕ) → Serves s l state → is_reading state ≡ true → C (inputs.Bad at) (turn_row s l (BadFrame at))
  broken state at serves reads = fell state (inputs.Bad at) (BadFrame at) (peers.BadFrame at) serves reads refl (NoFrame at refl refl)

  -- ---- connections

  retried : (input : SendIn) (es : List SendEvent) (t : PlainSender) → t ≡ noted s es → Dials s l input es → C input (redial t l)
  retried input es t is why = subst (λ (x : PlainSender). C input (redial x l)) (sym is) (go (is_used_up (past_at (noted s es) l.0)) refl) where
    go : (b : Bool) → is_used_up (past_at (noted s es) l.0) ≡ b → C input (redial_by (noted s es) l b)
    go true used = record {
      outcome = GivenUp es;
      is = ap (λ (x : PlainSender). (acts.Stop, goes x l states.Ended)) (noted_more s es (events.Quit l ∷ []));
      of = (why, used);
    }
    go false used = record { outcome = Redialed es; is = refl; of = (why, used) }

  -- ---- what the receiver tells

  greets_with : (m : Mark) (o : Option PeerKind) → count_fault (past_at s l.0).claims m.count ≡ o → m.lane.0 ≡ l.0 → Serves s l states.ReadLocalCheckpoint → C (inputs.Got (frames.Greeting m)) (greeted_with s l m o)
  greets_with m (Some kind) wrong own at = fell states.ReadLocalCheckpoint (inputs.Got (frames.Greeting m)) (GreetedRow m) kind at refl refl (WrongCount m refl refl own wrong)
  greets_with m None right own at = record {
    outcome = Greeted m.count;
    is = refl;
    of = (at, ap (λ (k : Lane). inputs.Got (frames.Greeting record { lane = k; count = m.count })) (same_lane m.lane l own), right);
  }

  greets_for : (m : Mark) (b : Bool) → (m.lane.0 == l.0) ≡ b → Serves s l states.ReadLocalCheckpoint → C (inputs.Got (frames.Greeting m)) (greeted_for s l m b)
  greets_for m true is at = greets_with m (count_fault (past_at s l.0).claims m.count) refl (eqb-true m.lane.0 l.0 is) at
  greets_for m false is at =
      fell states.ReadLocalCheckpoint (inputs.Got (frames.Greeting m)) (GreetedRow m) (unexpected_in states.ReadLocalCheckpoint (frames.Greeting m)) at refl refl (NoPlace (frames.Greeting m) refl (ap not is) refl)

  lists_again : (have first : List HaveFile) (o : Option ℕ) → different_at first have ≡ o → s.have ≡ Some first → Reads s l (inputs.Got (frames.Chunks have)) have → C (inputs.Got (frames.Chunks have)) (listed_again s l have o)
  lists_again have first (Some at) differs was reads =
      fell states.ReadFileChunks (inputs.Got (frames.Chunks have)) (ListedRow have) (peers.ChunksDiffer at) reads.serves refl refl (OtherList have first at refl refl reads.ordered was differs refl)
  lists_again have first None differs was reads = record { outcome = Listed; is = refl; of = (have, reads, was ∙ ap (λ (x : List HaveFile). Some x) (no_difference first have differs)) }

  lists_first : (have : List HaveFile) (o : Option RefusedKind) → refusal s.manifest have s.block ≡ o → s.have ≡ None → Reads s l (inputs.Got (frames.Chunks have)) have → C (inputs.Got (frames.Chunks have)) (planned_by s l have o)
  lists_first have (Some kind) refused first reads = record {
    outcome = Failed (answers.Refused kind) false;
    is = refl;
    of = OfPlan kind reads.serves record { here = reads.serves.here; have = have; read = refl; first = first; ordered = reads.ordered; refused = refused };
  }
  lists_first have None refused first reads = record { outcome = Planned have; is = refl; of = (reads, first, refused) }

  lists_after : (have : List HaveFile) (o : Option (List HaveFile)) → s.have ≡ o → Reads s l (inputs.Got (frames.Chunks have)) have → C (inputs.Got (frames.Chunks have)) (listed_after s l have o)
  lists_after have (Some first) was reads = lists_again have first (different_at first have) refl was reads
  lists_after have None was reads = lists_first have (refusal s.manifest have s.block) refl was reads

  lists_in : (have : List HaveFile) (o : Option ℕ) → unordered_at have ≡ o → Serves s l states.ReadFileChunks → C (inputs.Got (frames.Chunks have)) (listed_in s l have o)
  lists_in have (Some at) wrong serves =
      fell states.ReadFileChunks (inputs.Got (frames.Chunks have)) (ListedRow have) (peers.BadChunks at) serves refl refl (WrongOrder have at refl refl wrong refl)
  lists_in have None ordered serves = lists_after have s.have refl record { serves = serves; read = refl; ordered = ordered }

  -- ---- blocks

  takes : (input : SendIn) (es : List SendEvent) (t : PlainSender) → t ≡ noted s es → Frees s l input es → C input (next t l)
  takes input es t is why = subst (λ (x : PlainSender). C input (next x l)) (sym is) (go (least_queued (noted s es)) refl) where
    go : (o : Option Block) → least_queued (noted s es) ≡ o → C input (next_by (noted s es) l o)
    go None least = record { outcome = Emptied es; is = refl; of = (why, least) }
    go (Some b) least = record {
      outcome = Claimed es b;
      is = ap (λ (x : PlainSender). (acts.SendBlock (header_of s b), goes x l states.SendBlocks)) (noted_more s es (events.Claim l b ∷ []));
      of = (why, least);
    }

  marks_with : (ms : List Mark) (o : Option PeerKind) → marks_fault s.history ms ≡ o → has_stranger (length s.lanes) l.0 ms ≡ false → Serves s l states.ReadReceiverCmd → C (inputs.Got (frames.ErrMarks ms)) (marked_with s l ms o)
  marks_with ms (Some kind) wrong known at = fell states.ReadReceiverCmd (inputs.Got (frames.ErrMarks ms)) (Marked ms) kind at refl refl (WrongMarks ms refl refl known wrong)
  marks_with ms None right known at = takes (inputs.Got (frames.ErrMarks ms)) (globals l ms) (noted s (globals l ms)) refl (ByMarks ms at refl known right)

  marks_for : (ms : List Mark) (b : Bool) → has_stranger (length s.lanes) l.0 ms ≡ b → Serves s l states.ReadReceiverCmd → C (inputs.Got (frames.ErrMarks ms)) (marked_for s l ms b)
  marks_for ms true stranger at =
      fell states.ReadReceiverCmd (inputs.Got (frames.ErrMarks ms)) (Marked ms) (unexpected_in states.ReadReceiverCmd (frames.ErrMarks ms)) at refl refl (NoPlace (frames.ErrMarks ms) refl stranger refl)
  marks_for ms false known at = marks_with ms (marks_fault s.history ms) refl known at

  -- ---- the finish

  chosen : {X : Type 0} (P : X → Type 0) (b : Bool) (x y : X) → (b ≡ true → P x) → (b ≡ false → P y) → P (Rattle.std.specs.Prelude.if◌then◌else◌ b x y)
  chosen P true x y f g = f refl
  chosen P false x y f g = g refl

  finishes : (state : SendState) (row : Row) → Serves s l state → is_reading state ≡ true → is_mute row ≡ false → Ends s l → (is_some s.have ≡ true) ⊎ (state ≡ states.ReadReceiverCmd) → C (inputs.Got frames.Done) (finished s l row)
  finishes state row at reads voice ends planned =
      chosen (C (inputs.Got frames.Done)) (unfinished_blocks s == 0) (writes (goes (noted s (events.Finish l ∷ [])) l states.AnswerDone) frames.Done) (faults s l row (peers.EarlyDone (unfinished_blocks s)))
      (λ none. record { outcome = Finished; is = refl; of = (ends, refl, eqb-true (unfinished_blocks s) 0 none) })
      (λ some. fell state (inputs.Got frames.Done) row (peers.EarlyDone (unfinished_blocks s)) at reads voice (TooEarly refl planned some refl))

  finishes_at_once : (b : Bool) → is_some s.have ≡ b → Serves s l states.ReadLocalCheckpoint → C (inputs.Got frames.Done) (finished_at_once s l b)
  finishes_at_once true planned at = finishes states.ReadLocalCheckpoint DoneAtOnce at refl refl (AtOnce at planned) (inl planned)
  finishes_at_once false unplanned at =
      fell states.ReadLocalCheckpoint (inputs.Got frames.Done) DoneAtOnce (unexpected_in states.ReadLocalCheckpoint frames.Done) at refl refl (NoPlace frames.Done refl (ap not unplanned) refl)

  -- ---- the table

  stray : (state : SendState) (input : SendIn) → Serves s l state → is_allowed state input ≡ false → C input (rests s)
  stray state input at out = record { outcome = Rested; is = refl; of = WasStray state at out }

  loses : (state : SendState) → Serves s l state → is_allowed state inputs.Lost ≡ true → C inputs.Lost (turn_row s l Dropped)
  loses state at linked = retried inputs.Lost (events.Lost l ∷ []) (noted s (events.Lost l ∷ [])) refl (ByLoss state at linked refl)

  checkpoint : (frame : Frame) → Serves s l states.ReadLocalCheckpoint → C (inputs.Got frame) (turn_row s l (at_checkpoint frame))
  checkpoint (frames.Abort code) at = heard states.ReadLocalCheckpoint code at refl
  checkpoint (frames.Greeting m) at = greets_for m (m.lane.0 == l.0) refl at
  checkpoint frames.Done at = finishes_at_once (is_some s.have) refl at
  checkpoint frame at = misplaced states.ReadLocalCheckpoint frame at refl refl

  chunks : (frame : Frame) → Serves s l states.ReadFileChunks → C (inputs.Got frame) (turn_row s l (at_chunks frame))
  chunks (frames.Abort code) at = heard states.ReadFileChunks code at refl
  chunks (frames.Chunks have) at = lists_in have (unordered_at have) refl at
  chunks frame at = misplaced states.ReadFileChunks frame at refl refl

  command : (frame : Frame) → Serves s l states.ReadReceiverCmd → C (inputs.Got frame) (turn_row s l (at_command frame))
  command (frames.Abort code) at = heard states.ReadReceiverCmd code at refl
  command frames.Wait at = record { outcome = Waited; is = refl; of = (at, refl) }
  command (frames.ErrMarks ms) at = marks_for ms (has_stranger (length s.lanes) l.0 ms) refl at
  command frames.Done at = finishes states.ReadReceiverCmd FinishedRow at refl refl (Behind at) (inr refl)
  command frame at = misplaced states.ReadReceiverCmd frame at refl refl

  table : (state : SendState) (input : SendIn) → is_ended state ≡ false → (input ≡ inputs.Starved → is_failure (starved s.answer) ≡ false) → Serves s l state → C input (turn_row s l (row_of state input))
  table states.Ended input lives calm at = cc
  table state inputs.Starved lives calm at = record { outcome = Rested; is = refl; of = WasSettled state at lives refl (calm refl) }
  table states.Connect inputs.Start lives calm at = retried inputs.Start [] s (sym (noted_none s)) (AtFirst at refl)
  table states.Connect inputs.NoLink lives calm at = retried inputs.NoLink (events.NoLink l ∷ []) (noted s (events.NoLink l ∷ [])) refl (ByNoLink at refl)
  table states.Connect inputs.Linked lives calm at = record { outcome = Introduced; is = refl; of = (at, refl) }
  table states.Connect input lives calm at = stray states.Connect input at refl
  table states.SendSettings inputs.Lost lives calm at = loses states.SendSettings at refl
  table states.SendSettings inputs.Wrote lives calm at = record { outcome = Presented; is = refl; of = (at, refl) }
  table states.ReadLocalCheckpoint inputs.Lost lives calm at = loses states.ReadLocalCheckpoint at refl
  table states.ReadLocalCheckpoint (inputs.Got frame) lives calm at = checkpoint frame at
  table states.ReadLocalCheckpoint (inputs.Bad place) lives calm at = broken states.ReadLocalCheckpoint place at refl
  table states.ReadFileChunks inputs.Lost lives calm at = loses states.ReadFileChunks at refl
  table states.ReadFileChunks (inputs.Got frame) lives calm at = chunks frame at
  table states.ReadFileChunks (inputs.Bad place) lives calm at = broken states.ReadFileChunks place at refl
  table states.SendSize inputs.Lost lives calm at = loses states.SendSize at refl
  table states.SendSize inputs.Wrote lives calm at = takes inputs.Wrote [] s (sym (noted_none s)) (BySize at refl)
  table states.SendBlocks inputs.Lost lives calm at = loses states.SendBlocks at refl
  table states.SendBlocks inputs.Wrote lives calm at = takes inputs.Wrote (events.Sent l ∷ []) (noted s (events.Sent l ∷ [])) refl (ByBlock at refl)
  table states.SendBlocks (inputs.SourceLost unwritten) lives calm at = record { outcome = Failed answers.Source (not unwritten); is = refl; of = OfSource unwritten at refl }
  table states.SendDone inputs.Lost lives calm at = loses states.SendDone at refl
  table states.SendDone inputs.Wrote lives calm at = record { outcome = Concluded; is = refl; of = (at, refl) }
  table states.ReadReceiverCmd inputs.Lost lives calm at = loses states.ReadReceiverCmd at refl
  table states.ReadReceiverCmd (inputs.Got frame) lives calm at = command frame at
  table states.ReadReceiverCmd (inputs.Bad place) lives calm at = broken states.ReadReceiverCmd place at refl
  table states.AnswerDone inputs.Lost lives calm at = loses states.AnswerDone at refl
  table states.AnswerDone inputs.Wrote lives calm at = record { outcome = Acknowledged; is = refl; of = (at, refl) }
  table states.SendAbort inputs.Lost lives calm at = loses states.SendAbort at refl
  table states.SendAbort inputs.Wrote lives calm at = record { outcome = Left; is = refl; of = (ap is_ended at.here, WasTold at refl) }
  table state input lives calm at = stray state input at refl

  -- ---- the rules

  -- a lane that hasn't ended has another row
  pub lives_on : (state : SendState) (input : SendIn) → is_ended state ≡ false → is_over (row_of state input) ≡ false
  lives_on states.Ended input lives = cc
  lives_on states.Connect inputs.Start lives = refl
  lives_on states.ReadLocalCheckpoint (inputs.Got (frames.Abort code)) lives = refl
  lives_on states.ReadLocalCheckpoint (inputs.Got (frames.Greeting m)) lives = refl
  lives_on states.ReadLocalCheckpoint (inputs.Got frames.Done) lives = refl
  lives_on states.ReadLocalCheckpoint (inputs.Got frame) lives = refl
  lives_on states.ReadFileChunks (inputs.Got (frames.Abort code)) lives = refl
  lives_on states.ReadFileChunks (inputs.Got frame) lives = refl
  lives_on states.ReadReceiverCmd (inputs.Got (frames.Abort code)) lives = refl
  lives_on states.ReadReceiverCmd (inputs.Got frame) lives = refl
  lives_on states.SendSettings inputs.Start lives = refl
  lives_on states.SendSize inputs.Start lives = refl
  lives_on states.SendBlocks inputs.Start lives = refl
  lives_on states.SendDone inputs.Start lives = refl
  lives_on states.AnswerDone inputs.Start lives = refl
  lives_on states.SendAbort inputs.Start lives = refl
  lives_on state input lives = refl

  -- by the rules, where memory didn't run out or the end had its answer
  ruled_comes : (input : SendIn) → is_ended (state_at s l.0) ≡ false → (input ≡ inputs.Starved → is_failure s.answer ≡ false → is_failure (starved s.answer) ≡ false) → C input (ruled s l (row_of (state_at s l.0) input))
  ruled_comes input lives calm =
      by_first (C input) (is_over (row_of (state_at s l.0) input)) (is_closed s l.0) (is_failure s.answer) (rests s) (leaves s l) (gives_up s l (row_of (state_at s l.0) input)) (turn_row s l (row_of (state_at s l.0) input))
      (lives_on (state_at s l.0) input lives)
      (λ closed. record { outcome = Left; is = refl; of = (lives, WasClosed closed) })
      (λ opens fails. voiced (C input) (is_mute (row_of (state_at s l.0) input)) (leaves s l) (tells_failure s l)
      (λ mute. record { outcome = Left; is = refl; of = (lives, WasMute opens fails mute) })
      (λ voice. record { outcome = Warned; is = refl; of = (lives, record { is_open = opens; failed = fails; voice = voice }) }))
      (λ opens sound. table (state_at s l.0) input lives (λ e. calm e sound) record { is_open = opens; sound = sound; here = refl })

  -- ---- want of memory

  -- the end had no answer: that is it
  starves : s.answer ≡ answers.Going → is_ended (state_at s l.0) ≡ false → C inputs.Starved (ruled (failed s answers.NoMemory) l (Starved (is_mute_at (state_at s l.0))))
  starves going lives =
      by_first (C inputs.Starved) false (is_closed s l.0) true (rests (failed s answers.NoMemory)) (leaves (failed s answers.NoMemory) l) (gives_up (failed s answers.NoMemory) l (Starved (is_mute_at (state_at s l.0)))) (rests (failed s answers.NoMemory))
      refl
      (λ closed. record { outcome = Failed answers.NoMemory true; is = refl; of = OfMemory true going refl lives (sym (ap (λ (b : Bool). b || is_mute_at (state_at s l.0)) closed)) })
      (λ opens fails. record { outcome = Failed answers.NoMemory (is_mute_at (state_at s l.0)); is = refl; of = OfMemory (is_mute_at (state_at s l.0)) going refl lives (sym (ap (λ (b : Bool). b || is_mute_at (state_at s l.0)) opens)) })
      (λ opens sound. cc)

  memory_row : (state : SendState) → is_ended state ≡ false → row_of state inputs.Starved ≡ Starved (is_mute_at state)
  memory_row states.Ended lives = cc
  memory_row state lives = refl

  -- it had one: the step is by the rules
  full_row : is_ended (state_at s l.0) ≡ false → starved s.answer ≡ s.answer → C inputs.Starved (ruled (failed s (starved s.answer)) l (Starved (is_mute_at (state_at s l.0))))
  full_row lives same =
      subst (λ (a : EndAnswer). C inputs.Starved (ruled (failed s a) l (Starved (is_mute_at (state_at s l.0))))) (sym same)
      (subst (λ (r : Row). C inputs.Starved (ruled s l r)) (memory_row (state_at s l.0) lives) (ruled_comes inputs.Starved lives (λ e sound. ap is_failure same ∙ sound)))

  hungry : (a : EndAnswer) → s.answer ≡ a → is_ended (state_at s l.0) ≡ false → C inputs.Starved (ruled (failed s (starved s.answer)) l (Starved (is_mute_at (state_at s l.0))))
  hungry answers.Going e lives = subst (λ (x : EndAnswer). C inputs.Starved (ruled (failed s (starved x)) l (Starved (is_mute_at (state_at s l.0))))) (sym e) (starves e lives)
  hungry a e lives = full_row lives (ap starved e ∙ sym e)

  pub fed : (row : Row) → is_hungry row ≡ false → after_starving s row ≡ s
  fed (Starved mute) e = cc
  fed row e = refl

  -- no other input has the row of want of memory
  pub other_row : (state : SendState) (input : SendIn) → is_memory input ≡ false → is_hungry (row_of state input) ≡ false
  other_row states.Ended input e = refl
  other_row state inputs.Starved e = cc
  other_row states.Connect inputs.Start e = refl
  other_row states.ReadLocalCheckpoint (inputs.Got (frames.Abort code)) e = refl
  other_row states.ReadLocalCheckpoint (inputs.Got (frames.Greeting m)) e = refl
  other_row states.ReadLocalCheckpoint (inputs.Got frames.Done) e = refl
  other_row states.ReadLocalCheckpoint (inputs.Got frame) e = refl
  other_row states.ReadFileChunks (inputs.Got (frames.Abort code)) e = refl
  other_row states.ReadFileChunks (inputs.Got frame) e = refl
  other_row states.ReadReceiverCmd (inputs.Got (frames.Abort code)) e = refl
  other_row states.ReadReceiverCmd (inputs.Got frame) e = refl
  other_row states.SendSettings inputs.Start e = refl
  other_row states.SendSize inputs.Start e = refl
  other_row states.SendBlocks inputs.Start e = refl
  other_row states.SendDone inputs.Start e = refl
  other_row states.AnswerDone inputs.Start e = refl
  other_row states.SendAbort inputs.Start e = refl
  other_row state input e = refl

  fed_step : (input : SendIn) → is_memory input ≡ false → (input ≡ inputs.Starved → is_failure s.answer ≡ false → is_failure (starved s.answer) ≡ false) → is_ended (state_at s l.0) ≡ false → C input (turned s l (row_of (state_at s l.0) input))
  fed_step input other calm lives =
      subst (λ (t : PlainSender). C input (ruled t l (row_of (state_at s l.0) input))) (sym (fed (row_of (state_at s l.0) input) (other_row (state_at s l.0) input other))) (ruled_comes input lives calm)

  step : (input : SendIn) → is_ended (state_at s l.0) ≡ false → C input (turned s l (row_of (state_at s l.0) input))
  step inputs.Starved lives = subst (λ (r : Row). C inputs.Starved (turned s l r)) (sym (memory_row (state_at s l.0) lives)) (hungry s.answer refl lives)
  step input lives = fed_step input refl (λ e. cc) lives

-- a lane that has ended rests
over_rests : (s : PlainSender) (l : Lane) (input : SendIn) → state_at s l.0 ≡ states.Ended → Comes s l input (turned s l (row_of (state_at s l.0) input))
over_rests s l input ended = subst (λ (x : SendState). Comes s l input (turned s l (row_of x input))) (sym ended) record { outcome = Rested; is = refl; of = WasOver ended }

has_ended : (state : SendState) → (state ≡ states.Ended) ⊎ (is_ended state ≡ false)
has_ended states.Ended = inl refl
has_ended state = inr refl

-- a step is one of the outcomes
pub turn_comes : (s : PlainSender) (l : Lane) (input : SendIn) → Comes s l input (send_turn s l input)
unfolding send_turn
turn_comes s l input = go (has_ended (state_at s l.0)) where
  go : (state_at s l.0 ≡ states.Ended) ⊎ (is_ended (state_at s l.0) ≡ false) → Comes s l input (turned s l (row_of (state_at s l.0) input))
  go (inl ended) = over_rests s l input ended
  go (inr lives) = step s l input lives
