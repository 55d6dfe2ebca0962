-- Which row of the table fits, by a lane's state and its input alone.
use Rattle.std.specs.Prelude.{ℕ, Bool, true, false, not, List}
use Rattle.wdt_units.specs.declared.blocks.Header.{Header}
use Rattle.wdt_codec.specs.declared.frames.Frame.{Frame}
use Rattle.wdt_codec.specs.declared.frames.Frame.TheVariants as frames
use Rattle.wdt_codec.specs.declared.frames.Settings.{Settings}
use Rattle.wdt_sender_fsm.specs.Rows.{command_of}
use Rattle.wdt_receiver_fsm.specs.declared.inputs.RecvIn.{RecvIn}
use Rattle.wdt_receiver_fsm.specs.declared.inputs.RecvIn.TheVariants as inputs
use Rattle.wdt_receiver_fsm.specs.declared.rows.RecvRow.{RecvRow}
use Rattle.wdt_receiver_fsm.specs.declared.rows.RecvRow.TheVariants as rows
use Rattle.wdt_receiver_fsm.specs.declared.states.RecvState.{RecvState}
use Rattle.wdt_receiver_fsm.specs.declared.states.RecvState.TheVariants as states

-- what a lane's state and an input call for
pub data Row : Type 0 where
  -- the lane has ended
  Over : Row
  -- memory ran out; whether nothing at all can be written
  Starved : Bool → Row
  -- the input doesn't belong to the state
  Stray : Row
  -- the sender has failed, with this code
  Aborted : ℕ → Row
  -- the bytes that were read have no frame, and are bad at this place
  BadFrame : ℕ → Row
  -- a frame that may not come: the state's place in its list, and the frame's first byte
  Unexpected : ℕ → ℕ → Row
  -- bytes of the block that is begun
  Piece : List ℕ → Row
  -- and one for each row of the table
  Begin : Row
  NotLinked : Row
  Linked : Row
  Dropped : Row
  SettingsRead : Settings → Row
  GreetingWritten : Row
  ChunksWritten : Row
  Size : ℕ → ℕ → Row
  Block : Header → Row
  Done : Row
  WaitWritten : Row
  Woken : Row
  ErrMarksWritten : Row
  DoneWritten : Row
  Answered : Row
  AbortWritten : Row

-- a row of the code as plain data
abbrev pub shown : RecvRow → Row
shown rows.Over = Over
shown (rows.Starved mute) = Starved mute
shown rows.Stray = Stray
shown (rows.Aborted code) = Aborted code
shown (rows.BadFrame at) = BadFrame at
shown (rows.Unexpected state command) = Unexpected state command
shown rows.Begin = Begin
shown rows.NotLinked = NotLinked
shown rows.Linked = Linked
shown rows.Dropped = Dropped
shown (rows.Settings settings) = SettingsRead settings
shown rows.GreetingWritten = GreetingWritten
shown rows.ChunksWritten = ChunksWritten
shown (rows.Size files bytes) = Size files bytes
shown (rows.Block header) = Block header.now
shown rows.Done = Done
shown rows.WaitWritten = WaitWritten
shown rows.Woken = Woken
shown rows.ErrMarksWritten = ErrMarksWritten
shown rows.DoneWritten = DoneWritten
shown rows.Answered = Answered
shown rows.AbortWritten = AbortWritten

-- the place of a state in its list, from 0
abbrev pub place_of : RecvState → ℕ
place_of states.Listen = 0
place_of states.ReadSettings = 1
place_of states.SendLocalCheckpoint = 2
place_of states.SendFileChunks = 3
place_of states.ReadNextCmd = 4
place_of states.TakeBlock = 5
place_of states.SendWait = 6
place_of states.WaitForFinish = 7
place_of states.SendGlobalCheckpoint = 8
place_of states.SendDone = 9
place_of states.ReadAck = 10
place_of states.SendAbort = 11
place_of states.Ended = 12

-- the lane reads in this state
abbrev pub is_reading : RecvState → Bool
is_reading states.ReadSettings = true
is_reading states.ReadNextCmd = true
is_reading states.ReadAck = true
is_reading _ = false

-- a frame that may not come in a state
abbrev pub unexpected : RecvState → Frame → Row
unexpected state frame = Unexpected (place_of state) (command_of frame)

-- what may come where the lane reads what the sender says of itself
abbrev pub at_settings : Frame → Row
at_settings (frames.Abort code) = Aborted code
at_settings (frames.Settings settings) = SettingsRead settings
at_settings frame = unexpected states.ReadSettings frame

-- where it reads what is to come next: whether what is sent in all was read on this connection decides
abbrev pub at_command : Bool → Frame → Row
at_command sized (frames.Abort code) = Aborted code
at_command false (frames.Size files bytes) = Size files bytes
at_command true (frames.Block header) = Block header
at_command true frames.Done = Done
at_command sized frame = unexpected states.ReadNextCmd frame

-- and where it reads the answer to the last word
abbrev pub at_answer : Frame → Row
at_answer (frames.Abort code) = Aborted code
at_answer frames.Done = Answered
at_answer frame = unexpected states.ReadAck frame

-- no failure can be written when memory runs out: there is no connection, or the failure was being
-- written already
abbrev pub is_mute_at : RecvState → Bool
is_mute_at states.Listen = true
is_mute_at states.SendAbort = true
is_mute_at states.Ended = true
is_mute_at _ = false

-- the row that fits
abbrev pub row_of : Bool → RecvState → RecvIn → Row
row_of sized states.Ended _ = Over
row_of sized state inputs.Starved = Starved (is_mute_at state)
row_of sized states.Listen inputs.Start = Begin
row_of sized states.Listen inputs.NoLink = NotLinked
row_of sized states.Listen inputs.Linked = Linked
row_of sized states.Listen _ = Stray
row_of sized _ inputs.Lost = Dropped
row_of sized states.ReadSettings (inputs.Got frame) = at_settings frame
row_of sized states.ReadSettings (inputs.Bad at) = BadFrame at
row_of sized states.SendLocalCheckpoint inputs.Wrote = GreetingWritten
row_of sized states.SendFileChunks inputs.Wrote = ChunksWritten
row_of sized states.ReadNextCmd (inputs.Got frame) = at_command sized frame
row_of sized states.ReadNextCmd (inputs.Bad at) = BadFrame at
row_of sized states.SendWait inputs.Wrote = WaitWritten
row_of sized states.WaitForFinish inputs.Woken = Woken
row_of sized states.SendGlobalCheckpoint inputs.Wrote = ErrMarksWritten
row_of sized states.SendDone inputs.Wrote = DoneWritten
row_of sized states.ReadAck (inputs.Got frame) = at_answer frame
row_of sized states.ReadAck (inputs.Bad at) = BadFrame at
row_of sized states.SendAbort inputs.Wrote = AbortWritten
row_of sized _ _ = Stray

-- the row of bytes that are handed in: they belong to a lane that takes a block
abbrev pub piece_row : RecvState → List ℕ → Row
piece_row states.Ended bytes = Over
piece_row states.TakeBlock bytes = Piece bytes
piece_row _ bytes = Stray

-- after this a failed end can tell the sender nothing more
abbrev pub is_mute : Row → Bool
is_mute Over = true
is_mute (Starved mute) = mute
is_mute Stray = true
is_mute (Aborted code) = true
is_mute Begin = true
is_mute NotLinked = true
is_mute Linked = true
is_mute Dropped = true
is_mute AbortWritten = true
is_mute _ = false

-- an input that doesn't belong to the state
abbrev pub is_stray : Row → Bool
is_stray Stray = true
is_stray _ = false

-- the input belongs to the state: memory may run out in each, and nothing else comes once a lane has
-- ended
abbrev pub is_allowed : RecvState → RecvIn → Bool
is_allowed _ inputs.Starved = true
is_allowed states.Ended _ = false
is_allowed state input = not (is_stray (row_of false state input))
