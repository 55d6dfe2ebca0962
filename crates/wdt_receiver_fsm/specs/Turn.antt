-- A step of a receiver's lane: for each plain receiver, lane and input a plan, which says the act and
-- the plain receiver behind it, whatever the disk does.
use Rattle.std.specs.Prelude.{ℕ, zero, suc, ◌+◌, ◌-◌, ◌||◌, nat_le, min, Bool, true, false, List, [], ◌∷◌, ◌++◌, length, is_some, Option, Some, None}
use Rattle.wdt_units.specs.declared.limits.TheConstants.{MAX_CONNECTIONS, MAX_TRIES}
use Rattle.wdt_units.specs.declared.blocks.Block.{Block}
use Rattle.wdt_units.specs.declared.blocks.Header.{Header}
use Rattle.wdt_units.specs.declared.numbers.Conn.{Conn}
use Rattle.wdt_units.specs.declared.numbers.Lane.{Lane}
use Rattle.wdt_codec.specs.declared.frames.Frame.{Frame}
use Rattle.wdt_codec.specs.declared.frames.Frame.TheVariants as frames
use Rattle.wdt_codec.specs.declared.frames.Settings.{Settings}
use Rattle.wdt_depot.specs.Programs.{run_make}
use Rattle.wdt_logfmt.specs.Batches.{path_at}
use Rattle.wdt_logfmt.specs.Beginning.{KnownFile, block_of, is_new, with_known}
use Rattle.wdt_logfmt.specs.Marks.{bytes_in, files_in}
use Rattle.wdt_sender_fsm.specs.declared.answers.EndAnswer.{EndAnswer}
use Rattle.wdt_sender_fsm.specs.declared.answers.EndAnswer.TheVariants as answers
use Rattle.wdt_sender_fsm.specs.declared.peers.PeerKind.{PeerKind}
use Rattle.wdt_sender_fsm.specs.declared.peers.PeerKind.TheVariants as peers
use Rattle.wdt_sender_fsm.specs.Phases.{piece_most}
use Rattle.wdt_sender_fsm.specs.Rules.{is_failure, code_of, starved, by_rules, by_voice}
use Rattle.wdt_receiver_fsm.specs.declared.acts.RecvAct.{RecvAct}
use Rattle.wdt_receiver_fsm.specs.declared.acts.RecvAct.TheVariants as acts
use Rattle.wdt_receiver_fsm.specs.declared.events.RecvEvent.{RecvEvent}
use Rattle.wdt_receiver_fsm.specs.declared.events.RecvEvent.TheVariants as events
use Rattle.wdt_receiver_fsm.specs.declared.inputs.RecvIn.{RecvIn}
use Rattle.wdt_receiver_fsm.specs.declared.states.RecvState.TheVariants as states
use Rattle.wdt_good.specs.Calls.{run_piece}
use Rattle.wdt_receiver_fsm.specs.Frames.{block_fault, settings_fault, short_fault, size_fault}
use Rattle.wdt_receiver_fsm.specs.Logging.{flush_plan}
use Rattle.wdt_receiver_fsm.specs.Plan.{Plan, calls, ends}
use Rattle.wdt_receiver_fsm.specs.PlainReceiver.{PlainReceiver, begun_blocks, can_finish, failed, goes, has_finish, have_now, is_batch_full, lane_at, mark_of, marks_at, marks_told, noted, past_at, state_at, untold_at, with_lane}
use Rattle.wdt_receiver_fsm.specs.ReceiverHistory.{RecvPast, end_of}
use Rattle.wdt_receiver_fsm.specs.Rows.{Row, Over, Starved, Stray, Aborted, BadFrame, Unexpected, Piece, Begin, NotLinked, Linked, Dropped, SettingsRead, GreetingWritten, ChunksWritten, Size, Block as BlockRead, Done, WaitWritten, Woken, ErrMarksWritten, DoneWritten, Answered, AbortWritten, row_of, piece_row, is_mute}
use Rattle.wdt_receiver_fsm.specs.Sets.{set_of}

-- an act, and the plain receiver behind it
abbrev pub Step : Type 0
Step = RecvAct × PlainReceiver

-- ---- what a step may come to

-- nothing changes
abbrev pub rests : PlainReceiver → Step
rests r = (acts.Stop, r)

-- the lane ends
abbrev pub leaves : PlainReceiver → Lane → Step
leaves r l = (acts.Stop, goes r l.0 states.Ended)

-- the lane tells the sender that the end has failed
abbrev pub tells_failure : PlainReceiver → Lane → Step
tells_failure r l = (acts.Write (frames.Abort (code_of r.answer)), goes r l.0 states.SendAbort)

-- on a failed end the lane ends, where it can tell nothing more after this row, and else tells it
abbrev pub gives_up : PlainReceiver → Lane → Row → Step
gives_up r l row = by_voice (is_mute row) (leaves r l) (tells_failure r l)

-- the end fails with this answer, and the lane gives up
abbrev pub fails_with : PlainReceiver → Lane → Row → EndAnswer → Step
fails_with r l row answer = gives_up (failed r answer) l row

-- the disk failed: what was noted before the call stands
abbrev pub disk_fails : PlainReceiver → Lane → Row → Step
disk_fails r l row = fails_with r l row answers.Disk

-- the sender said what it may not say
abbrev pub faults : PlainReceiver → Lane → Row → PeerKind → Step
faults r l row kind = fails_with (noted r (events.Peer l kind ∷ [])) l row (answers.Peer kind)

-- the lane writes a frame, or reads one
abbrev pub writes : PlainReceiver → Frame → Step
writes r frame = (acts.Write frame, r)

-- the lane reads a frame
abbrev pub reads : PlainReceiver → Step
reads r = (acts.Read, r)

-- ---- connections

-- the lane took as many connections as it may have, or as many tries failed
abbrev pub is_used_up : RecvPast → Bool
is_used_up past = nat_le MAX_CONNECTIONS past.takes || nat_le MAX_TRIES past.failed_tries

-- a lane is given up: before the finish it is closed
abbrev pub given_up : Lane → Bool → RecvEvent
given_up l true = events.Quit l
given_up l false = events.Close l

-- the lane waits for a connection, or is given up
abbrev pub listen_by : PlainReceiver → Lane → Bool → Step
listen_by r l true = (acts.Stop, goes (noted r (given_up l (has_finish r) ∷ [])) l.0 states.Ended)
listen_by r l false = (acts.Accept, goes r l.0 states.Listen)

-- the lane wants a further connection, or is given up
abbrev pub listen : PlainReceiver → Lane → Step
listen r l = listen_by r l (is_used_up (past_at r l.0))

-- the number of the lane's next connection
abbrev pub next_take : PlainReceiver → Lane → Conn
next_take r l = record { 0 = (past_at r l.0).takes + 1 }

-- a connection stands: the lane reads what the sender says of itself
abbrev pub links : PlainReceiver → Lane → Step
links r l =
    reads (with_lane (noted r (events.Take l (next_take r l) ∷ [])) l.0 record (lane_at r l.0) { state = states.ReadSettings; is_sized = false; has_waited = false })

-- the connection is lost, and with it the block that was begun
abbrev pub drops_lane : PlainReceiver → Lane → PlainReceiver
drops_lane r l = with_lane (noted r (events.Dropped l ∷ [])) l.0 record (lane_at r l.0) { is_sized = false; has_waited = false; left = 0 }

-- the lane loses its connection
abbrev pub drops : PlainReceiver → Lane → Step
drops r l = listen (drops_lane r l) l

-- ---- what the sender says of itself

-- the settings are noted, where they are the first
abbrev pub met_by : PlainReceiver → Lane → Settings → Bool → PlainReceiver
met_by r l s true = r
met_by r l s false = noted r (events.Met l s ∷ [])

-- the first settings of the end are noted
abbrev pub meets : PlainReceiver → Lane → Settings → PlainReceiver
meets r l s = met_by r l s (is_some (end_of r.history).met)

-- after the finish the lane writes the last word, before it how many of its blocks have landed
abbrev pub greets_by : PlainReceiver → Lane → Settings → Bool → Step
greets_by r l s true = writes (with_lane r l.0 record (lane_at r l.0) { state = states.SendDone; ask = s.ask; conn = s.conn.0 }) frames.Done
greets_by r l s false =
    writes (with_lane r l.0 record (lane_at r l.0) { state = states.SendLocalCheckpoint; ask = s.ask; conn = s.conn.0 }) (frames.Greeting (mark_of r.history l.0))

-- the least wrong field of settings that the lane reads
abbrev pub settings_fault_at : PlainReceiver → Lane → Settings → Option ℕ
settings_fault_at r l s = settings_fault (length r.lanes) (end_of r.history).met l.0 (lane_at r l.0).conn s

-- the settings are answered, or refused
abbrev pub greets_with : PlainReceiver → Lane → Settings → Option ℕ → Step
greets_with r l s (Some field) = faults r l (SettingsRead s) (peers.BadSettings field)
greets_with r l s None = greets_by (meets r l s) l s (has_finish r)

-- the lane reads what the sender says of itself
abbrev pub greets : PlainReceiver → Lane → Settings → Step
greets r l s = greets_with r l s (settings_fault_at r l s)

-- where the sender asked, the lane writes what the destination had
abbrev pub lists_by : PlainReceiver → Lane → Bool → Step
lists_by r l true = writes (goes r l.0 states.SendFileChunks) (frames.Chunks (have_now r.opening r.history))
lists_by r l false = reads (goes r l.0 states.ReadNextCmd)

-- ---- what is sent in all

-- the totals are noted, where they are the first
abbrev pub sized_by : PlainReceiver → Lane → ℕ → ℕ → Bool → PlainReceiver
sized_by r l files bytes true = r
sized_by r l files bytes false = noted r (events.Sized l files bytes ∷ [])

-- the totals are taken, or refused
abbrev pub sizes_with : PlainReceiver → Lane → ℕ → ℕ → Option PeerKind → Step
sizes_with r l files bytes (Some kind) = faults r l (Size files bytes) kind
sizes_with r l files bytes None =
    reads (with_lane (sized_by r l files bytes (is_some (end_of r.history).sized)) l.0 record (lane_at r l.0) { is_sized = true })

-- the lane reads what is sent in all
abbrev pub sizes : PlainReceiver → Lane → ℕ → ℕ → Step
sizes r l files bytes = sizes_with r l files bytes (size_fault (end_of r.history).sized files bytes)

-- ---- blocks

-- so many bytes of the lane's block are left, and the next of them are taken
abbrev pub takes_piece : PlainReceiver → Lane → ℕ → Step
takes_piece r l left = (acts.TakePiece (min left piece_most), with_lane r l.0 record (lane_at r l.0) { state = states.TakeBlock; left = left })

-- the block has landed, and is to be logged
abbrev pub lands : PlainReceiver → Lane → Block → PlainReceiver
lands r l b = record (noted r (events.Land l ∷ [])) { unlogged = r.unlogged ++ b ∷ [] }

-- a block with so many bytes begins
abbrev pub begins_by : PlainReceiver → Lane → Block → ℕ → Step
begins_by r l b zero = reads (goes (lands (noted r (events.Begin l b ∷ [])) l b) l.0 states.ReadNextCmd)
begins_by r l b (suc left) = takes_piece (noted r (events.Begin l b ∷ [])) l (suc left)

-- a block begins: an empty one lands at once, and of another the first bytes are taken
abbrev pub begins : PlainReceiver → Lane → Block → Step
begins r l b = begins_by r l b b.length

-- the file that a header tells of
abbrev pub file_of_header : Header → KnownFile
file_of_header h = record { path = h.path; size = h.size; stamp = h.stamp }

-- the header's file is known from now on
abbrev pub knows : PlainReceiver → Header → PlainReceiver
knows r h = record r { known = with_known r.known (file_of_header h) }

-- a file that isn't known is made first
abbrev pub makes_by : PlainReceiver → Lane → Header → Bool → Plan Step
makes_by r l h true = calls (run_make h.path) (disk_fails r l (BlockRead h)) (ends (begins (knows r h) l (block_of r.known h)))
makes_by r l h false = ends (begins r l (block_of r.known h))

-- why the block of a header that the lane reads may not begin
abbrev pub block_fault_at : PlainReceiver → Lane → Header → Option PeerKind
block_fault_at r l h = block_fault r.known (marks_at r) (begun_blocks r) (length (past_at r l.0).landed) h

-- the block begins, or is refused
abbrev pub block_with : PlainReceiver → Lane → Header → Option PeerKind → Plan Step
block_with r l h (Some kind) = ends (faults r l (BlockRead h) kind)
block_with r l h None = makes_by r l h (is_new r.known h)

-- the lane reads a block's header
abbrev pub block_plan : PlainReceiver → Lane → Header → Plan Step
block_plan r l h = block_with r l h (block_fault_at r l h)

-- the lane reads on
abbrev pub reads_on : Lane → PlainReceiver → Plan Step
reads_on l r = ends (reads (goes r l.0 states.ReadNextCmd))

-- where enough has landed since, it is logged
abbrev pub logs_by : PlainReceiver → Lane → Row → Bool → Plan Step
logs_by r l row true = flush_plan r (disk_fails r l row) (reads_on l)
logs_by r l row false = reads_on l r

-- what landed is logged, where it is time
abbrev pub logs : PlainReceiver → Lane → Row → Plan Step
logs r l row = logs_by r l row (is_batch_full r)

-- the last piece lands the block
abbrev pub piece_by : PlainReceiver → Lane → Block → Row → ℕ → Plan Step
piece_by r l b row zero = logs (lands (with_lane r l.0 record (lane_at r l.0) { left = 0 }) l b) l row
piece_by r l b row (suc left) = ends (takes_piece r l (suc left))

-- where the next byte of a block goes, of which so many bytes are left
abbrev pub next_place : Block → ℕ → ℕ
next_place b left = b.offset + (b.length - left)

-- bytes of this block are written, and it may land
abbrev pub piece_of : PlainReceiver → Lane → List ℕ → Block → Plan Step
piece_of r l bytes b =
    calls (run_piece (path_at r.known b.file) (next_place b (lane_at r l.0).left) bytes) (disk_fails r l (Piece bytes))
    (piece_by r l b (Piece bytes) ((lane_at r l.0).left - length bytes))

-- bytes of the lane's block are written at its next place
abbrev pub piece_plan : PlainReceiver → Lane → List ℕ → Option Block → Plan Step
piece_plan r l bytes None = ends (rests r)
piece_plan r l bytes (Some b) = piece_of r l bytes b

-- ---- the idle choice

-- the last word is written
abbrev pub says_done : PlainReceiver → Lane → Step
says_done r l = writes (goes r l.0 states.SendDone) frames.Done

-- what is there is otherwise than what was to be sent
abbrev pub short_fault_at : PlainReceiver → Option PeerKind
short_fault_at r = short_fault (end_of r.history).sized (files_in (marks_at r)) (bytes_in (marks_at r))

-- where another number of files or bytes is there than was to be sent, the finish doesn't come, and the
-- history is as it was before the step
abbrev pub finishes_with : List RecvEvent → PlainReceiver → Lane → Row → Option PeerKind → Step
finishes_with before r l row (Some kind) = faults (record r { history = before }) l row kind
finishes_with before r l row None = says_done (noted r (events.Finish ∷ [])) l

-- what landed is compared with what was to be sent
abbrev pub finishes : List RecvEvent → Lane → Row → PlainReceiver → Plan Step
finishes before l row r =
    ends (finishes_with before r l row (short_fault_at r))

-- the finish: all that landed is logged, and compared with what was to be sent
abbrev pub finish_plan : List RecvEvent → PlainReceiver → Lane → Row → Plan Step
finish_plan before r l row = flush_plan r (disk_fails r l row) (finishes before l row)

-- the lane waits, where the sender was told to wait, and else tells it
abbrev pub waits_by : PlainReceiver → Lane → Bool → Step
waits_by r l true = (acts.Park, goes r l.0 states.WaitForFinish)
waits_by r l false = writes (goes r l.0 states.SendWait) frames.Wait

-- the lane tells of closed lanes, if there are any, and else waits
abbrev pub tells_by : PlainReceiver → Lane → List ℕ → Step
tells_by r l [] = waits_by r l (lane_at r l.0).has_waited
tells_by r l (q ∷ qs) =
    writes (goes (noted r (events.Told l (set_of (q ∷ qs)) ∷ [])) l.0 states.SendGlobalCheckpoint) (marks_told r (q ∷ qs))

-- the choice of an idle lane, by whether the finish has come or is ready
abbrev pub idle_by : List RecvEvent → PlainReceiver → Lane → Row → Bool → Bool → Plan Step
idle_by before r l row true ready = ends (says_done r l)
idle_by before r l row false true = finish_plan before r l row
idle_by before r l row false false = ends (tells_by r l (untold_at r l.0))

-- what an idle lane does: the last word, where the finish has come or is ready; else it tells of closed
-- lanes, or has the sender wait, or waits
abbrev pub idle_plan : List RecvEvent → PlainReceiver → Lane → Row → Plan Step
idle_plan before r l row = idle_by before r l row (has_finish r) (can_finish r)

-- the sender says that nothing more is to come
abbrev pub idles_lane : PlainReceiver → Lane → PlainReceiver
idles_lane r l = with_lane (noted r (events.Idle l ∷ [])) l.0 record (lane_at r l.0) { has_waited = false }

-- the lane becomes idle
abbrev pub done_plan : PlainReceiver → Lane → Plan Step
done_plan r l = idle_plan r.history (idles_lane r l) l Done

-- it was told to wait
abbrev pub waited_lane : PlainReceiver → Lane → PlainReceiver
waited_lane r l = with_lane r l.0 record (lane_at r l.0) { has_waited = true }

-- the idle lane has told the sender to wait
abbrev pub waited_plan : PlainReceiver → Lane → Plan Step
waited_plan r l = idle_plan r.history (waited_lane r l) l WaitWritten

-- ---- the table

-- the step of each row, on an end that has not failed
abbrev pub turn_row : PlainReceiver → Lane → Row → Plan Step
turn_row r l Over = ends (rests r)
turn_row r l (Starved mute) = ends (rests r)
turn_row r l Stray = ends (rests r)
turn_row r l (Aborted code) = ends (fails_with (noted r (events.Abort l code ∷ [])) l (Aborted code) (answers.Aborted code))
turn_row r l (BadFrame at) = ends (faults r l (BadFrame at) (peers.BadFrame at))
turn_row r l (Unexpected state command) = ends (faults r l (Unexpected state command) (peers.Unexpected state command))
turn_row r l (Piece bytes) = piece_plan r l bytes (past_at r l.0).begun
turn_row r l Begin = ends (listen r l)
turn_row r l NotLinked = ends (listen (noted r (events.NoLink l ∷ [])) l)
turn_row r l Linked = ends (links r l)
turn_row r l Dropped = ends (drops r l)
turn_row r l (SettingsRead settings) = ends (greets r l settings)
turn_row r l GreetingWritten = ends (lists_by r l (lane_at r l.0).ask)
turn_row r l ChunksWritten = ends (reads (goes r l.0 states.ReadNextCmd))
turn_row r l (Size files bytes) = ends (sizes r l files bytes)
turn_row r l (BlockRead header) = block_plan r l header
turn_row r l Done = done_plan r l
turn_row r l WaitWritten = waited_plan r l
turn_row r l Woken = idle_plan r.history r l Woken
turn_row r l ErrMarksWritten = ends (reads (goes r l.0 states.ReadNextCmd))
turn_row r l DoneWritten = ends (reads (goes r l.0 states.ReadAck))
turn_row r l Answered = ends (leaves (noted r (events.Acked l ∷ [])) l)
turn_row r l AbortWritten = ends (leaves r l)

-- ---- a step

-- where memory ran out, that is the answer of an end that had none
abbrev pub after_starving : PlainReceiver → Row → PlainReceiver
after_starving r (Starved mute) = failed r (starved r.answer)
after_starving r _ = r

-- the lane has ended
abbrev pub is_over : Row → Bool
is_over Over = true
is_over _ = false

-- memory ran out
abbrev pub is_starved : Row → Bool
is_starved (Starved mute) = true
is_starved _ = false

-- a step by the rules: a lane that has ended does nothing more, on a failed end a lane gives up, and
-- else the row is done. A lane that the receiver closed has ended.
abbrev pub ruled : PlainReceiver → Lane → Row → Plan Step
ruled r l row =
    by_rules (is_over row) false (is_failure r.answer) (ends (rests r)) (ends (leaves r l)) (ends (gives_up r l row)) (turn_row r l row)

-- a step, by its row
abbrev pub turned : PlainReceiver → Lane → Row → Plan Step
turned r l row = ruled (after_starving r row) l row

-- what a lane hands in: an input, or bytes of the block that is begun
pub data Put : Type 0 where
  Given : RecvIn → Put
  Bytes : List ℕ → Put

-- the row that fits
abbrev pub row_at : PlainReceiver → Lane → Put → Row
row_at r l (Given input) = row_of (lane_at r l.0).is_sized (state_at r l.0) input
row_at r l (Bytes bytes) = piece_row (state_at r l.0) bytes

-- a step
unfoldable pub turn_plan : PlainReceiver → Lane → Put → Plan Step
turn_plan r l put = turned r l (row_at r l put)

-- a step with an input
abbrev pub recv_plan : PlainReceiver → Lane → RecvIn → Plan Step
recv_plan r l input = turn_plan r l (Given input)

-- a step with bytes of the block that is begun
abbrev pub take_plan : PlainReceiver → Lane → List ℕ → Plan Step
take_plan r l bytes = turn_plan r l (Bytes bytes)
