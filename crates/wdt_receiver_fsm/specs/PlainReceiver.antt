-- A receiver's end as plain data, without its disk. What has landed, what was read first and who was
-- told of what isn't kept beside the history, since the history says it.
use Rattle.std.specs.Prelude.{ℕ, ◌&&◌, ◌||◌, nat_le, Bool, true, false, List, [], ◌++◌, length, map, slice_get, slice_set, sum_by, Option, Some, None}
use Rattle.std.specs.List.{flat_map}
use Rattle.wdt_units.specs.declared.limits.TheConstants.{MAX_BLOCKS}
use Rattle.wdt_units.specs.Have.{HaveFile}
use Rattle.wdt_units.specs.declared.blocks.Block.{Block}
use Rattle.wdt_codec.specs.declared.frames.Frame.{Frame}
use Rattle.wdt_codec.specs.declared.frames.Frame.TheVariants as frames
use Rattle.wdt_codec.specs.declared.frames.Mark.{Mark}
use Rattle.wdt_logfmt.specs.Beginning.{KnownFile, known_files, length_of}
use Rattle.wdt_logfmt.specs.Marks.{Marked, marks_of}
use Rattle.wdt_logfmt.specs.View.{Meaning, NamedFile, have_of}
use Rattle.wdt_sender_fsm.specs.declared.answers.EndAnswer.{EndAnswer}
use Rattle.wdt_sender_fsm.specs.declared.answers.EndAnswer.TheVariants.{Going}
use Rattle.wdt_sender_fsm.specs.Rules.{every, judged}
use Rattle.wdt_receiver_fsm.specs.declared.events.RecvEvent.{RecvEvent}
use Rattle.wdt_receiver_fsm.specs.declared.states.RecvLane.{RecvLane}
use Rattle.wdt_receiver_fsm.specs.declared.states.RecvState.{RecvState}
use Rattle.wdt_receiver_fsm.specs.declared.states.RecvState.TheVariants as states
use Rattle.wdt_receiver_fsm.specs.Ready.{is_ready, untold}
use Rattle.wdt_receiver_fsm.specs.ReceiverHistory.{RecvPast, begun_list, end_of, landed_of, past_of}
use Rattle.wdt_receiver_fsm.specs.Sets.{numbers}

-- a receiver's end
pub record PlainReceiver : Type 0 where
  -- what the log named and covered as it was opened
  pub opening : List NamedFile
  -- the files by number: those of the log as it was opened, and those of which a block began since
  pub known : List (Option KnownFile)
  -- what the log names and covers, and where it ends
  pub log : Meaning
  -- the blocks that landed since the log was last added to, in the order in which they landed
  pub unlogged : List Block
  -- from so many bytes on they are logged
  pub batch : ℕ
  -- of each lane what the history doesn't say
  pub lanes : List RecvLane
  pub history : List RecvEvent
  pub answer : EndAnswer

-- a lane that begins
abbrev pub new_lane : RecvLane
new_lane = record { state = states.Listen; ask = false; is_sized = false; has_waited = false; left = 0; conn = 0 }

-- an end that begins with this log and these lanes
abbrev pub opened : Meaning → ℕ → List RecvLane → PlainReceiver
opened log batch lanes =
    record {
      opening = log.files;
      known = known_files log.files;
      log = log;
      unlogged = [];
      batch = batch;
      lanes = lanes;
      history = [];
      answer = Going;
    }

-- ---- its lanes

-- a lane that is not there has ended
abbrev pub lane_or_ended : Option RecvLane → RecvLane
lane_or_ended None = record new_lane { state = states.Ended }
lane_or_ended (Some lane) = lane

-- how a lane stands
abbrev pub lane_at : PlainReceiver → ℕ → RecvLane
lane_at r l = lane_or_ended (slice_get r.lanes l)

-- the state of a lane
abbrev pub state_at : PlainReceiver → ℕ → RecvState
state_at r l = (lane_at r l).state

-- what the history says of a lane
abbrev pub past_at : PlainReceiver → ℕ → RecvPast
past_at r l = past_of r.history l

-- the finish has come
abbrev pub has_finish : PlainReceiver → Bool
has_finish r = (end_of r.history).has_finish

-- the closed lanes of which a lane has still to tell, rising
abbrev pub untold_at : PlainReceiver → ℕ → List ℕ
untold_at r l = untold (length r.lanes) r.history l

-- the finish is ready
abbrev pub can_finish : PlainReceiver → Bool
can_finish r = is_ready (length r.lanes) r.history

-- ---- what is there

-- what the destination had: what the log named as it was opened
unfoldable pub have_now : List NamedFile → List RecvEvent → List HaveFile
have_now opening g = have_of opening

-- what is named and there, with all that has landed
abbrev pub marks_at : PlainReceiver → List Marked
marks_at r = marks_of r.opening (landed_of r.history)

-- a lane's block that is on its way
abbrev pub begun_at : PlainReceiver → ℕ → List Block
begun_at r l = begun_list (past_at r l).begun

-- the blocks that are on their way, by rising lane
abbrev pub begun_blocks : PlainReceiver → List Block
begun_blocks r = flat_map (begun_at r) (numbers (length r.lanes))

-- so many bytes, or blocks, are to be logged that it is time
abbrev pub bytes_of : List Block → ℕ
bytes_of blocks = sum_by length_of blocks

-- it is time to log what landed
abbrev pub is_batch_full : PlainReceiver → Bool
is_batch_full r = nat_le r.batch (bytes_of r.unlogged) || nat_le MAX_BLOCKS (length r.unlogged)

-- ---- its frames

-- how many of a lane's blocks have landed, as it is told
unfoldable pub mark_of : List RecvEvent → ℕ → Mark
mark_of g l = record { lane = record { 0 = l }; count = length (past_of g l).landed }

-- what is told of closed lanes
abbrev pub marks_told : PlainReceiver → List ℕ → Frame
marks_told r closed = frames.ErrMarks (map (mark_of r.history) closed)

-- ---- what a step changes

-- the entries stand in the history
abbrev pub noted : PlainReceiver → List RecvEvent → PlainReceiver
noted r es = record r { history = r.history ++ es }

-- a lane has ended
abbrev pub is_ended : RecvState → Bool
is_ended states.Ended = true
is_ended _ = false

-- the lane is acknowledged or was closed, and it has ended
abbrev pub is_done_with : PlainReceiver → ℕ → Bool
is_done_with r l = (past_at r l).is_acked || (past_at r l).is_closed

-- a lane has ended
abbrev pub is_out : PlainReceiver → ℕ → Bool
is_out r l = is_ended (state_at r l)

-- it holds for every lane
abbrev pub every_lane : PlainReceiver → (PlainReceiver → ℕ → Bool) → Bool
every_lane r f = every (length r.lanes) (f r)

-- the answer, as it follows from the lanes: Done where the finish has come and each lane is acknowledged
-- or closed, Link where it hasn't and each has ended
abbrev pub answer_of : PlainReceiver → EndAnswer
answer_of r = judged r.answer (has_finish r && every_lane r is_done_with) (every_lane r is_out)

-- the answer follows from the lanes
abbrev pub settled : PlainReceiver → PlainReceiver
settled r = record r { answer = answer_of r }

-- the lane stands so now
abbrev pub with_lane : PlainReceiver → ℕ → RecvLane → PlainReceiver
with_lane r l lane = settled record r { lanes = slice_set r.lanes l lane }

-- the lane goes on to a state
abbrev pub goes : PlainReceiver → ℕ → RecvState → PlainReceiver
goes r l state = with_lane r l record (lane_at r l) { state = state }

-- the end fails
abbrev pub failed : PlainReceiver → EndAnswer → PlainReceiver
failed r answer = record r { answer = answer }
