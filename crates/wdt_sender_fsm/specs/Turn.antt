-- A step of a sender's lane: for each plain sender, lane and input one act and one plain sender.
use Rattle.std.specs.Prelude.{ℕ, ◌+◌, ◌==◌, ◌||◌, nat_le, not, Bool, true, false, if◌then◌else◌, List, [], ◌∷◌, length, is_some, map, Option, Some, None}
use Rattle.wdt_units.specs.Have.{HaveFile}
use Rattle.wdt_units.specs.declared.blocks.Block.{Block}
use Rattle.wdt_units.specs.declared.limits.TheConstants.{MAX_CONNECTIONS, MAX_TRIES}
use Rattle.wdt_units.specs.declared.numbers.Conn.{Conn}
use Rattle.wdt_units.specs.declared.numbers.Lane.{Lane}
use Rattle.wdt_codec.specs.declared.frames.Frame.{Frame}
use Rattle.wdt_codec.specs.declared.frames.Frame.TheVariants as frames
use Rattle.wdt_codec.specs.declared.frames.Mark.{Mark}
use Rattle.wdt_rest.specs.RestOf.{rest_of}
use Rattle.wdt_sender_fsm.specs.declared.acts.SendAct.{SendAct}
use Rattle.wdt_sender_fsm.specs.declared.acts.SendAct.TheVariants as acts
use Rattle.wdt_sender_fsm.specs.declared.answers.EndAnswer.{EndAnswer}
use Rattle.wdt_sender_fsm.specs.declared.answers.EndAnswer.TheVariants as answers
use Rattle.wdt_sender_fsm.specs.declared.answers.RefusedKind.{RefusedKind}
use Rattle.wdt_sender_fsm.specs.declared.events.SendEvent.{SendEvent}
use Rattle.wdt_sender_fsm.specs.declared.events.SendEvent.TheVariants as events
use Rattle.wdt_sender_fsm.specs.declared.inputs.SendIn.{SendIn}
use Rattle.wdt_sender_fsm.specs.declared.peers.PeerKind.{PeerKind}
use Rattle.wdt_sender_fsm.specs.declared.peers.PeerKind.TheVariants as peers
use Rattle.wdt_sender_fsm.specs.declared.states.SendState.TheVariants as states
use Rattle.wdt_sender_fsm.specs.Chunks.{unordered_at, different_at, refusal}
use Rattle.wdt_sender_fsm.specs.Faults.{unexpected_in, count_fault, marks_fault, has_stranger}
use Rattle.wdt_sender_fsm.specs.PlainSender.{PlainSender, lane_at, state_at, past_at, is_closed, least_queued, unfinished_blocks, settings_of, size_of_tree, header_of, noted, with_lane, goes, failed}
use Rattle.wdt_sender_fsm.specs.Rows.{Row, Over, Starved, Stray, Aborted, BadFrame, SourceLost, Unexpected, Begin, NotLinked, Linked, Dropped, SettingsWritten, Greeted, DoneAtOnce, Listed, SizeWritten, BlockWritten, DoneWritten, Waits, Marked, Finished, Answered, AbortWritten, row_of, is_mute}
use Rattle.wdt_sender_fsm.specs.Rules.{is_failure, code_of, starved, by_rules, by_voice}
use Rattle.wdt_sender_fsm.specs.SenderHistory.{LanePast}

-- an act, and the plain sender behind it
abbrev pub Step : Type 0
Step = SendAct × PlainSender

-- ---- what a step may come to

-- nothing changes
abbrev pub rests : PlainSender → Step
rests s = (acts.Stop, s)

-- the lane ends
abbrev pub leaves : PlainSender → Lane → Step
leaves s l = (acts.Stop, goes s l states.Ended)

-- the lane tells the receiver that the end has failed
abbrev pub tells_failure : PlainSender → Lane → Step
tells_failure s l = (acts.Write (frames.Abort (code_of s.answer)), goes s l states.SendAbort)

-- on a failed end the lane ends, where it can tell nothing more after this row, and else tells it
abbrev pub gives_up : PlainSender → Lane → Row → Step
gives_up s l row = by_voice (is_mute row) (leaves s l) (tells_failure s l)

-- the end fails with this answer, and the lane gives up
abbrev pub fails_with : PlainSender → Lane → Row → EndAnswer → Step
fails_with s l row answer = gives_up (failed s answer) l row

-- the receiver said what it may not say
abbrev pub faults : PlainSender → Lane → Row → PeerKind → Step
faults s l row kind = fails_with (noted s (events.Peer l kind ∷ [])) l row (answers.Peer kind)

-- the lane writes a frame, or reads one, in this state
abbrev pub writes : PlainSender → Frame → Step
writes s frame = (acts.Write frame, s)

-- the lane reads a frame
abbrev pub reads : PlainSender → Step
reads s = (acts.Read, s)

-- ---- connections

-- the number of the lane's next connection
abbrev pub next_conn : PlainSender → Lane → Conn
next_conn s l = record { 0 = (past_at s l.0).connections + 1 }

-- the lane had as many connections as it may have, or as many tries that failed
abbrev pub is_used_up : LanePast → Bool
is_used_up past = nat_le MAX_CONNECTIONS past.connections || nat_le MAX_TRIES past.failed_tries

-- it is given up where its counts are used up, and dials else
abbrev pub redial_by : PlainSender → Lane → Bool → Step
redial_by s l true = (acts.Stop, goes (noted s (events.Quit l ∷ [])) l states.Ended)
redial_by s l false = (acts.Dial (next_conn s l), goes s l states.Connect)

-- the lane wants a further connection, or is given up
abbrev pub redial : PlainSender → Lane → Step
redial s l = redial_by s l (is_used_up (past_at s l.0))

-- a connection stands: the lane says what the sender is, and asks what the destination has where no
-- lane has read it
abbrev pub introduces_with : PlainSender → Lane → Conn → Bool → Step
introduces_with s l conn ask =
    writes (with_lane (noted s (events.Linked l conn ∷ [])) l record { state = states.SendSettings; ask = ask }) (settings_of s l conn ask)

-- with its next connection
abbrev pub introduces : PlainSender → Lane → Step
introduces s l = introduces_with s l (next_conn s l) (not (is_some s.have))

-- ---- the receiver tells what it has

-- what is sent in all is written
abbrev pub writes_size : PlainSender → Lane → Step
writes_size s l = writes (goes s l states.SendSize) (size_of_tree s)

-- a count was told for the settings: where the lane asked, it reads what the destination has
abbrev pub greeted_by : PlainSender → Lane → Bool → Step
greeted_by s l true = reads (goes s l states.ReadFileChunks)
greeted_by s l false = writes_size s l

-- by what is wrong with the count, if anything is
abbrev pub greeted_with : PlainSender → Lane → Mark → Option PeerKind → Step
greeted_with s l mark (Some kind) = faults s l (Greeted mark) kind
greeted_with s l mark None = greeted_by (noted s (events.Greet l mark.count ∷ [])) l (lane_at s l.0).ask

-- a count of another lane has no place here
abbrev pub greeted_for : PlainSender → Lane → Mark → Bool → Step
greeted_for s l mark true = greeted_with s l mark (count_fault (past_at s l.0).claims mark.count)
greeted_for s l mark false = faults s l (Greeted mark) (unexpected_in states.ReadLocalCheckpoint (frames.Greeting mark))

-- a Greeting was read
abbrev pub greeted : PlainSender → Lane → Mark → Step
greeted s l mark = greeted_for s l mark (mark.lane.0 == l.0)

-- what the destination has was told before: it must be the same
abbrev pub listed_again : PlainSender → Lane → List HaveFile → Option ℕ → Step
listed_again s l have (Some at) = faults s l (Listed have) (peers.ChunksDiffer at)
listed_again s l have None = writes_size (noted s (events.Chunks l ∷ [])) l

-- what the destination has was read, and the blocks that it lacks are planned
abbrev pub with_plan : PlainSender → List HaveFile → PlainSender
with_plan s have = record s { have = Some have; planned = Some (rest_of s.manifest have s.block) }

-- the blocks are planned, or the tree isn't sent
abbrev pub planned_by : PlainSender → Lane → List HaveFile → Option RefusedKind → Step
planned_by s l have (Some kind) = fails_with s l (Listed have) (answers.Refused kind)
planned_by s l have None = writes_size (noted (with_plan s have) (events.Chunks l ∷ [])) l

-- by what was known of the destination before
abbrev pub listed_after : PlainSender → Lane → List HaveFile → Option (List HaveFile) → Step
listed_after s l have (Some first) = listed_again s l have (different_at first have)
listed_after s l have None = planned_by s l have (refusal s.manifest have s.block)

-- by the place out of order, if there is one
abbrev pub listed_in : PlainSender → Lane → List HaveFile → Option ℕ → Step
listed_in s l have (Some at) = faults s l (Listed have) (peers.BadChunks at)
listed_in s l have None = listed_after s l have s.have

-- a Chunks was read
abbrev pub listed : PlainSender → Lane → List HaveFile → Step
listed s l have = listed_in s l have (unordered_at have)

-- ---- blocks

-- by the block that is to be taken, if one waits
abbrev pub next_by : PlainSender → Lane → Option Block → Step
next_by s l None = writes (goes s l states.SendDone) frames.Done
next_by s l (Some b) = (acts.SendBlock (header_of s b), goes (noted s (events.Claim l b ∷ [])) l states.SendBlocks)

-- the lane takes the least block that waits, or says that nothing more is to come
abbrev pub next : PlainSender → Lane → Step
next s l = next_by s l (least_queued s)

-- ---- lanes that the receiver has closed

-- the entry of a mark
abbrev pub global : Lane → Mark → SendEvent
global l mark = events.Global l mark.lane mark.count

-- the entries of some marks
abbrev pub globals : Lane → List Mark → List SendEvent
globals l marks = map (global l) marks

-- by what is wrong with the marks, if anything is
abbrev pub marked_with : PlainSender → Lane → List Mark → Option PeerKind → Step
marked_with s l marks (Some kind) = faults s l (Marked marks) kind
marked_with s l marks None = next (noted s (globals l marks)) l

-- a lane that isn't there, or the one that reads, has no place here
abbrev pub marked_for : PlainSender → Lane → List Mark → Bool → Step
marked_for s l marks true = faults s l (Marked marks) (unexpected_in states.ReadReceiverCmd (frames.ErrMarks marks))
marked_for s l marks false = marked_with s l marks (marks_fault s.history marks)

-- an ErrMarks was read
abbrev pub marked : PlainSender → Lane → List Mark → Step
marked s l marks = marked_for s l marks (has_stranger (length s.lanes) l.0 marks)

-- ---- the finish

-- the receiver's last word, where so many blocks wait or are being written
abbrev pub finished_with : PlainSender → Lane → Row → ℕ → Step
finished_with s l row count =
    if count == 0 then writes (goes (noted s (events.Finish l ∷ [])) l states.AnswerDone) frames.Done
    else faults s l row (peers.EarlyDone count)

-- a Done was read
abbrev pub finished : PlainSender → Lane → Row → Step
finished s l row = finished_with s l row (unfinished_blocks s)

-- the last word for the settings has no place before anything is planned
abbrev pub finished_at_once : PlainSender → Lane → Bool → Step
finished_at_once s l true = finished s l DoneAtOnce
finished_at_once s l false = faults s l DoneAtOnce (unexpected_in states.ReadLocalCheckpoint frames.Done)

-- ---- the table

-- what each row comes to
abbrev pub turn_row : PlainSender → Lane → Row → Step
turn_row s l Over = rests s
turn_row s l (Starved mute) = rests s
turn_row s l Stray = rests s
turn_row s l (Aborted code) = fails_with (noted s (events.Abort l code ∷ [])) l (Aborted code) (answers.Aborted code)
turn_row s l (BadFrame at) = faults s l (BadFrame at) (peers.BadFrame at)
turn_row s l (SourceLost unwritten) = fails_with s l (SourceLost unwritten) answers.Source
turn_row s l (Unexpected state command) = faults s l (Unexpected state command) (peers.Unexpected state command)
turn_row s l Begin = redial s l
turn_row s l NotLinked = redial (noted s (events.NoLink l ∷ [])) l
turn_row s l Linked = introduces s l
turn_row s l Dropped = redial (noted s (events.Lost l ∷ [])) l
turn_row s l SettingsWritten = reads (goes s l states.ReadLocalCheckpoint)
turn_row s l (Greeted mark) = greeted s l mark
turn_row s l DoneAtOnce = finished_at_once s l (is_some s.have)
turn_row s l (Listed have) = listed s l have
turn_row s l SizeWritten = next s l
turn_row s l BlockWritten = next (noted s (events.Sent l ∷ [])) l
turn_row s l DoneWritten = reads (goes (noted s (events.Done l ∷ [])) l states.ReadReceiverCmd)
turn_row s l Waits = reads s
turn_row s l (Marked marks) = marked s l marks
turn_row s l Finished = finished s l Finished
turn_row s l Answered = leaves (noted s (events.Acked l ∷ [])) l
turn_row s l AbortWritten = leaves s l

-- ---- a step

-- where memory ran out, that is the answer of an end that had none
abbrev pub after_starving : PlainSender → Row → PlainSender
after_starving s (Starved mute) = failed s (starved s.answer)
after_starving s _ = s

-- the row of a lane that has ended
abbrev pub is_over : Row → Bool
is_over Over = true
is_over _ = false

-- a step by the rules: a lane that has ended does nothing more, a closed lane ends, on a failed end a
-- lane gives up, and else the row is done
abbrev pub ruled : PlainSender → Lane → Row → Step
ruled s l row =
    by_rules (is_over row) (is_closed s l.0) (is_failure s.answer) (rests s) (leaves s l) (gives_up s l row) (turn_row s l row)

-- a step by its row
abbrev pub turned : PlainSender → Lane → Row → Step
turned s l row = ruled (after_starving s row) l row

-- the step of a lane with an input
unfoldable pub send_turn : PlainSender → Lane → SendIn → Step
send_turn s l input = turned s l (row_of (state_at s l.0) input)
