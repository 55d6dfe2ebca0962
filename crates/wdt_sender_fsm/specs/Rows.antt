-- Which row of the table fits, by a lane's state and its input alone.
use Rattle.std.specs.Prelude.{ℕ, Bool, true, false, not, List}
use Rattle.wdt_units.specs.Have.{HaveFile}
use Rattle.wdt_codec.specs.declared.frames.Frame.{Frame}
use Rattle.wdt_codec.specs.declared.frames.Frame.TheVariants as frames
use Rattle.wdt_codec.specs.declared.frames.Mark.{Mark}
use Rattle.wdt_sender_fsm.specs.declared.inputs.SendIn.{SendIn}
use Rattle.wdt_sender_fsm.specs.declared.inputs.SendIn.TheVariants as inputs
use Rattle.wdt_sender_fsm.specs.declared.states.SendState.{SendState}
use Rattle.wdt_sender_fsm.specs.declared.states.SendState.TheVariants as states
use Rattle.wdt_sender_fsm.specs.declared.rows.SendRow.{SendRow}
use Rattle.wdt_sender_fsm.specs.declared.rows.SendRow.TheVariants as rows

-- what a lane's state and an input call for
pub data Row : Type 0 where
  -- the lane has ended
  Over : Row
  -- memory ran out; whether a block may stand half written, or nothing at all can be written
  Starved : Bool → Row
  -- the input doesn't belong to the state
  Stray : Row
  -- the receiver has failed, with this code
  Aborted : ℕ → Row
  -- the bytes that were read have no frame, and are bad at this place
  BadFrame : ℕ → Row
  -- the source failed; whether nothing of the block was written yet
  SourceLost : Bool → Row
  -- a frame that may not come: the state's place in its list, and the frame's first byte
  Unexpected : ℕ → ℕ → Row
  -- and one for each row of the table
  Begin : Row
  NotLinked : Row
  Linked : Row
  Dropped : Row
  SettingsWritten : Row
  Greeted : Mark → Row
  DoneAtOnce : Row
  Listed : List HaveFile → Row
  SizeWritten : Row
  BlockWritten : Row
  DoneWritten : Row
  Waits : Row
  Marked : List Mark → Row
  Finished : Row
  Answered : Row
  AbortWritten : Row

-- a row of the code as plain data
abbrev pub shown : SendRow → Row
shown rows.Over = Over
shown (rows.Starved mute) = Starved mute
shown rows.Stray = Stray
shown (rows.Aborted code) = Aborted code
shown (rows.BadFrame at) = BadFrame at
shown (rows.SourceLost unwritten) = SourceLost unwritten
shown (rows.Unexpected state command) = Unexpected state command
shown rows.Begin = Begin
shown rows.NotLinked = NotLinked
shown rows.Linked = Linked
shown rows.Dropped = Dropped
shown rows.SettingsWritten = SettingsWritten
shown (rows.Greeted mark) = Greeted mark
shown rows.DoneAtOnce = DoneAtOnce
shown (rows.Listed have) = Listed have.now
shown rows.SizeWritten = SizeWritten
shown rows.BlockWritten = BlockWritten
shown rows.DoneWritten = DoneWritten
shown rows.Waits = Waits
shown (rows.Marked marks) = Marked marks.now
shown rows.Finished = Finished
shown rows.Answered = Answered
shown rows.AbortWritten = AbortWritten

-- a lane reads in this state
abbrev pub is_reading : SendState → Bool
is_reading states.ReadLocalCheckpoint = true
is_reading states.ReadFileChunks = true
is_reading states.ReadReceiverCmd = true
is_reading _ = false

-- the place of a state in its list, from 0
abbrev pub place_of : SendState → ℕ
place_of states.Connect = 0
place_of states.SendSettings = 1
place_of states.ReadLocalCheckpoint = 2
place_of states.ReadFileChunks = 3
place_of states.SendSize = 4
place_of states.SendBlocks = 5
place_of states.SendDone = 6
place_of states.ReadReceiverCmd = 7
place_of states.AnswerDone = 8
place_of states.SendAbort = 9
place_of states.Ended = 10

-- the first byte of a frame's spelling
abbrev pub command_of : Frame → ℕ
command_of (frames.Settings settings) = 0x53
command_of (frames.Greeting mark) = 0x47
command_of (frames.Chunks have) = 0x43
command_of (frames.Size files bytes) = 0x5A
command_of (frames.Block header) = 0x44
command_of frames.Done = 0x4C
command_of frames.Wait = 0x57
command_of (frames.ErrMarks marks) = 0x45
command_of (frames.Abort code) = 0x41

-- a frame that may not come in a state
abbrev pub unexpected : SendState → Frame → Row
unexpected state frame = Unexpected (place_of state) (command_of frame)

-- what may come where the lane reads how many of its blocks the receiver has
abbrev pub at_checkpoint : Frame → Row
at_checkpoint (frames.Abort code) = Aborted code
at_checkpoint (frames.Greeting mark) = Greeted mark
at_checkpoint frames.Done = DoneAtOnce
at_checkpoint frame = unexpected states.ReadLocalCheckpoint frame

-- where it reads what the destination has
abbrev pub at_chunks : Frame → Row
at_chunks (frames.Abort code) = Aborted code
at_chunks (frames.Chunks have) = Listed have
at_chunks frame = unexpected states.ReadFileChunks frame

-- and where it reads what the receiver says once nothing more is to come
abbrev pub at_command : Frame → Row
at_command (frames.Abort code) = Aborted code
at_command frames.Wait = Waits
at_command (frames.ErrMarks marks) = Marked marks
at_command frames.Done = Finished
at_command frame = unexpected states.ReadReceiverCmd frame

-- no failure can be written when memory runs out: there is no connection, a block may stand half
-- written, or the failure was being written already
abbrev pub is_mute_at : SendState → Bool
is_mute_at states.Connect = true
is_mute_at states.SendBlocks = true
is_mute_at states.SendAbort = true
is_mute_at states.Ended = true
is_mute_at _ = false

-- the row that fits. A later version of the wire, whose receiver also tells how much of a block has landed,
-- gets its own frames here: the version of the connection becomes the first argument then.
abbrev pub row_of : SendState → SendIn → Row
row_of states.Ended _ = Over
row_of state inputs.Starved = Starved (is_mute_at state)
row_of states.Connect inputs.Start = Begin
row_of states.Connect inputs.NoLink = NotLinked
row_of states.Connect inputs.Linked = Linked
row_of states.Connect _ = Stray
row_of _ inputs.Lost = Dropped
row_of states.SendSettings inputs.Wrote = SettingsWritten
row_of states.ReadLocalCheckpoint (inputs.Got frame) = at_checkpoint frame
row_of states.ReadLocalCheckpoint (inputs.Bad at) = BadFrame at
row_of states.ReadFileChunks (inputs.Got frame) = at_chunks frame
row_of states.ReadFileChunks (inputs.Bad at) = BadFrame at
row_of states.SendSize inputs.Wrote = SizeWritten
row_of states.SendBlocks inputs.Wrote = BlockWritten
row_of states.SendBlocks (inputs.SourceLost unwritten) = SourceLost unwritten
row_of states.SendDone inputs.Wrote = DoneWritten
row_of states.ReadReceiverCmd (inputs.Got frame) = at_command frame
row_of states.ReadReceiverCmd (inputs.Bad at) = BadFrame at
row_of states.AnswerDone inputs.Wrote = Answered
row_of states.SendAbort inputs.Wrote = AbortWritten
row_of _ _ = Stray

-- after this a failed end can tell the receiver nothing more
abbrev pub is_mute : Row → Bool
is_mute Over = true
is_mute (Starved mute) = mute
is_mute Stray = true
is_mute (Aborted code) = true
is_mute (SourceLost unwritten) = not unwritten
is_mute Begin = true
is_mute NotLinked = true
is_mute Linked = true
is_mute Dropped = true
is_mute AbortWritten = true
is_mute _ = false

-- the row of an input that doesn't belong to the state
abbrev pub is_stray : Row → Bool
is_stray Stray = true
is_stray _ = false

-- the input belongs to the state: memory may run out in each, and nothing else comes once a lane has
-- ended
abbrev pub is_allowed : SendState → SendIn → Bool
is_allowed _ inputs.Starved = true
is_allowed states.Ended _ = false
is_allowed state input = not (is_stray (row_of state input))
