-- Each row's act, answer and frame, by the lane's state and the input.
use Rattle.std.proofs.Common.{◌≡◌, ◌≢◌, ℕ, ◌||◌, false, ap, ◌∙◌, refl, is_some, [], ◌∷◌, ◌++◌, eq-eqb}
use Rattle.std.proofs.lemmas.Bool.{both_ways, or_right}
use Rattle.wdt_units.specs.declared.numbers.Lane.{Lane}
use Rattle.wdt_codec.specs.Frames.{Fits}
use Rattle.wdt_codec.specs.declared.frames.Frame.{Frame}
use Rattle.wdt_codec.specs.declared.frames.Frame.TheVariants as frames
use Rattle.wdt_sender_fsm.specs.declared.acts.SendAct.TheVariants as acts
use Rattle.wdt_sender_fsm.specs.declared.events.SendEvent.TheVariants as events
use Rattle.wdt_sender_fsm.specs.declared.inputs.SendIn.{SendIn}
use Rattle.wdt_sender_fsm.specs.declared.inputs.SendIn.TheVariants as inputs
use Rattle.wdt_sender_fsm.specs.declared.peers.PeerKind.TheVariants as peers
use Rattle.wdt_sender_fsm.specs.declared.states.SendState.{SendState}
use Rattle.wdt_sender_fsm.specs.declared.states.SendState.TheVariants as states
use Rattle.wdt_sender_fsm.specs.PlainSender.{PlainSender, lane_at, state_at, past_at, least_queued, is_ended, noted}
use Rattle.wdt_sender_fsm.specs.Rows.{Row, BadFrame, Unexpected, Finished, at_checkpoint, at_chunks, at_command, command_of, row_of}
use Rattle.wdt_sender_fsm.specs.Rules.{is_failure}
use Rattle.wdt_sender_fsm.specs.Sender.{Fares, FitsIn}
use Rattle.wdt_sender_fsm.specs.SenderHistory.{LanePast, past_of, past_of-more, end_of}
use Rattle.wdt_sender_fsm.specs.Turn.{leaves, turn_row}
use Rattle.wdt_sender_fsm.proofs.lemmas.Endings.{Right, free_more, going, waiting, resting, leaving, follows_sound}
use Rattle.wdt_sender_fsm.proofs.lemmas.Rights.{Basis, fault_right, abort_right, source_right, begins_right, tries_right, loses_right, links_right, greets_right, lists_right, takes_right, marks_right, finishes_right, finishes_at_once_right}
use Rattle.wdt_sender_fsm.proofs.lemmas.Works.{in_state}

-- ---- what it reads

abbrev Reads : PlainSender → Lane → SendState → Frame → Row → Type 0
Reads s l state frame row = Right s l state (inputs.Got frame) (turn_row s l row)

checkpoint_right : (s : PlainSender) (l : Lane) (frame : Frame) → Fits frame → Basis s l → Reads s l states.ReadLocalCheckpoint frame (at_checkpoint frame)
checkpoint_right s l (frames.Abort code) fit base = abort_right s l code states.ReadLocalCheckpoint refl refl fit base
checkpoint_right s l (frames.Greeting m) fit base = greets_right s l m base
checkpoint_right s l frames.Done fit base = finishes_at_once_right s l base
checkpoint_right s l frame fit base =
    fault_right s l (Unexpected 2 (command_of frame)) (peers.Unexpected 2 (command_of frame)) states.ReadLocalCheckpoint (inputs.Got frame) refl refl base

chunks_right : (s : PlainSender) (l : Lane) (frame : Frame) → Fits frame → state_at s l.0 ≡ states.ReadFileChunks → Basis s l → Reads s l states.ReadFileChunks frame (at_chunks frame)
chunks_right s l (frames.Abort code) fit here base = abort_right s l code states.ReadFileChunks refl refl fit base
chunks_right s l (frames.Chunks have) fit here base = lists_right s l have here base
chunks_right s l frame fit here base =
    fault_right s l (Unexpected 3 (command_of frame)) (peers.Unexpected 3 (command_of frame)) states.ReadFileChunks (inputs.Got frame) refl refl base

command_right : (s : PlainSender) (l : Lane) (frame : Frame) → Fits frame → Basis s l → Reads s l states.ReadReceiverCmd frame (at_command frame)
command_right s l (frames.Abort code) fit base = abort_right s l code states.ReadReceiverCmd refl refl fit base
command_right s l frames.Wait fit base = waiting s l acts.Read states.ReadReceiverCmd (inputs.Got frames.Wait) refl refl base.free base.sound tt
command_right s l (frames.ErrMarks ms) fit base = marks_right s l ms base
command_right s l frames.Done fit base = finishes_right s l Finished states.ReadReceiverCmd (inputs.Got frames.Done) refl refl refl base
command_right s l frame fit base =
    fault_right s l (Unexpected 7 (command_of frame)) (peers.Unexpected 7 (command_of frame)) states.ReadReceiverCmd (inputs.Got frame) refl refl base

bad_right : (s : PlainSender) (l : Lane) (place : ℕ) (state : SendState) → is_ended state ≡ false → row_of state (inputs.Bad place) ≡ BadFrame place → Basis s l → Right s l state (inputs.Bad place) (turn_row s l (BadFrame place))
bad_right s l place state lives is base = fault_right s l (BadFrame place) (peers.BadFrame place) state (inputs.Bad place) lives is base

-- the last word is answered
acknowledges_right : (s : PlainSender) (l : Lane) → Basis s l → Right s l states.AnswerDone inputs.Wrote (leaves (noted s (events.Acked l ∷ [])) l)
acknowledges_right s l base =
    let past : LanePast = past_of (s.history ++ events.Acked l ∷ []) l.0 in
    leaving s (noted s (events.Acked l ∷ [])) l (in_state s l states.Ended) states.AnswerDone inputs.Wrote
    (or_right (is_some (past_of (s.history ++ events.Acked l ∷ []) l.0).claims.closed) ((past_of (s.history ++ events.Acked l ∷ []) l.0).has_quit || (past_of (s.history ++ events.Acked l ∷ []) l.0).is_acked)
    (or_right (past_of (s.history ++ events.Acked l ∷ []) l.0).has_quit (past_of (s.history ++ events.Acked l ∷ []) l.0).is_acked
    (ap (λ (p : LanePast). p.is_acked) (past_of-more s.history (events.Acked l) l.0) ∙ rw (eq-eqb l.0 l.0 refl) refl)))
    (follows_sound s (noted s (events.Acked l ∷ [])) l inputs.Wrote base.sound base.sound)

-- ---- the table

pub row_right : (s : PlainSender) (l : Lane) (state : SendState) (input : SendIn) → input ≢ inputs.Starved → state_at s l.0 ≡ state → Fares (is_failure s.answer) state (lane_at s l.0).ask (past_at s l.0) (end_of s.history) → is_ended state ≡ false → FitsIn input → Basis s l → Right s l state input (turn_row s l (row_of state input))
row_right s l states.Ended input some here fares lives fit base = cc
row_right s l states.SendAbort input some here fares lives fit base = absurd (both_ways (is_failure s.answer) base.sound fares.failed)
row_right s l state inputs.Starved some here fares lives fit base = absurd (some refl)
row_right s l states.Connect inputs.Start some here fares lives fit base = begins_right s l base
row_right s l states.Connect inputs.NoLink some here fares lives fit base = tries_right s l (events.NoLink l) states.Connect inputs.NoLink refl (free_more s.history l (events.NoLink l) base.free refl tt refl) base
row_right s l states.Connect inputs.Linked some here fares lives fit base = links_right s l fares.connections base
row_right s l states.Connect input some here fares lives fit base = resting s l states.Connect input refl
row_right s l states.SendSettings inputs.Lost some here fares lives fit base = loses_right s l states.SendSettings refl base
row_right s l states.SendSettings inputs.Wrote some here fares lives fit base =
    going s s l (in_state s l states.ReadLocalCheckpoint) acts.Read states.SendSettings inputs.Wrote refl refl base.free base.sound base.sound (λ lawful. tt)
row_right s l states.SendSettings input some here fares lives fit base = resting s l states.SendSettings input refl
row_right s l states.ReadLocalCheckpoint inputs.Lost some here fares lives fit base = loses_right s l states.ReadLocalCheckpoint refl base
row_right s l states.ReadLocalCheckpoint (inputs.Got frame) some here fares lives fit base = checkpoint_right s l frame fit base
row_right s l states.ReadLocalCheckpoint (inputs.Bad place) some here fares lives fit base = bad_right s l place states.ReadLocalCheckpoint refl refl base
row_right s l states.ReadLocalCheckpoint input some here fares lives fit base = resting s l states.ReadLocalCheckpoint input refl
row_right s l states.ReadFileChunks inputs.Lost some here fares lives fit base = loses_right s l states.ReadFileChunks refl base
row_right s l states.ReadFileChunks (inputs.Got frame) some here fares lives fit base = chunks_right s l frame fit here base
row_right s l states.ReadFileChunks (inputs.Bad place) some here fares lives fit base = bad_right s l place states.ReadFileChunks refl refl base
row_right s l states.ReadFileChunks input some here fares lives fit base = resting s l states.ReadFileChunks input refl
row_right s l states.SendSize inputs.Lost some here fares lives fit base = loses_right s l states.SendSize refl base
row_right s l states.SendSize inputs.Wrote some here fares lives fit base = takes_right s s.history l states.SendSize inputs.Wrote (least_queued s) refl refl base.free base
row_right s l states.SendSize input some here fares lives fit base = resting s l states.SendSize input refl
row_right s l states.SendBlocks inputs.Lost some here fares lives fit base = loses_right s l states.SendBlocks refl base
row_right s l states.SendBlocks inputs.Wrote some here fares lives fit base =
    takes_right s (s.history ++ events.Sent l ∷ []) l states.SendBlocks inputs.Wrote (least_queued (noted s (events.Sent l ∷ []))) refl refl (free_more s.history l (events.Sent l) base.free refl tt refl) base
row_right s l states.SendBlocks (inputs.SourceLost unwritten) some here fares lives fit base = source_right s l unwritten base
row_right s l states.SendBlocks input some here fares lives fit base = resting s l states.SendBlocks input refl
row_right s l states.SendDone inputs.Lost some here fares lives fit base = loses_right s l states.SendDone refl base
row_right s l states.SendDone inputs.Wrote some here fares lives fit base =
    going s (noted s (events.Done l ∷ [])) l (in_state s l states.ReadReceiverCmd) acts.Read states.SendDone inputs.Wrote refl refl (free_more s.history l (events.Done l) base.free refl tt refl) base.sound base.sound (λ lawful. tt)
row_right s l states.SendDone input some here fares lives fit base = resting s l states.SendDone input refl
row_right s l states.ReadReceiverCmd inputs.Lost some here fares lives fit base = loses_right s l states.ReadReceiverCmd refl base
row_right s l states.ReadReceiverCmd (inputs.Got frame) some here fares lives fit base = command_right s l frame fit base
row_right s l states.ReadReceiverCmd (inputs.Bad place) some here fares lives fit base = bad_right s l place states.ReadReceiverCmd refl refl base
row_right s l states.ReadReceiverCmd input some here fares lives fit base = resting s l states.ReadReceiverCmd input refl
row_right s l states.AnswerDone inputs.Lost some here fares lives fit base = loses_right s l states.AnswerDone refl base
row_right s l states.AnswerDone inputs.Wrote some here fares lives fit base = acknowledges_right s l base
row_right s l states.AnswerDone input some here fares lives fit base = resting s l states.AnswerDone input refl
