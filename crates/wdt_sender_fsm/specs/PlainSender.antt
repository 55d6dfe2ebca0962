-- A sender's end as plain data. What its lanes have claimed, what waits and how often each was
-- connected isn't kept beside the history, since the history says it.
use Rattle.std.specs.Prelude.{ℕ, ◌&&◌, ◌||◌, Bool, true, false, List, [], ◌++◌, length, sum_by, slice_get, slice_set, is_some, Option, Some, None}
use Rattle.wdt_claims.specs.Blocks.{AreDistinct}
use Rattle.wdt_units.specs.Have.{HaveFile}
use Rattle.wdt_claims.specs.LaneWords.{Claims}
use Rattle.wdt_units.specs.declared.blocks.Block.{Block}
use Rattle.wdt_units.specs.declared.blocks.Header.{Header}
use Rattle.wdt_units.specs.declared.numbers.Conn.{Conn}
use Rattle.wdt_units.specs.declared.numbers.Lane.{Lane}
use Rattle.wdt_codec.specs.declared.frames.Frame.{Frame}
use Rattle.wdt_codec.specs.declared.frames.Frame.TheVariants as frames
use Rattle.wdt_claims.specs.Places.{place_of}
use Rattle.wdt_claims.specs.declared.place.Place.{Place}
use Rattle.wdt_tree.specs.Listing.{size_of}
use Rattle.wdt_tree.specs.declared.entry.Entry.{Entry}
use Rattle.wdt_sender_fsm.specs.declared.answers.EndAnswer.{EndAnswer}
use Rattle.wdt_sender_fsm.specs.declared.answers.EndAnswer.TheVariants.{Going}
use Rattle.wdt_sender_fsm.specs.declared.events.SendEvent.{SendEvent}
use Rattle.wdt_sender_fsm.specs.declared.states.SendLane.{SendLane}
use Rattle.wdt_sender_fsm.specs.declared.states.SendState.{SendState}
use Rattle.wdt_sender_fsm.specs.declared.states.SendState.TheVariants as states
use Rattle.wdt_sender_fsm.specs.Places.{AreShared, claims_of, least_of, planned_now, queued, unfinished}
use Rattle.wdt_sender_fsm.specs.Rules.{every, judged}
use Rattle.wdt_sender_fsm.specs.SenderHistory.{LanePast, past_of, end_of}

-- all that a step of a sender hangs on
pub record PlainSender : Type 0 where
  -- the files of the tree, in the order of their paths
  pub manifest : List Entry
  -- the greatest length of a block
  pub block : ℕ
  -- the number of the transfer
  pub session : ℕ
  -- what the destination has, once a lane read it
  pub have : Option (List HaveFile)
  -- the blocks that are to be sent, once they are planned
  pub planned : Option (List Block)
  -- of each lane its state, and whether it asked on its connection what the destination has
  pub lanes : List SendLane
  pub history : List SendEvent
  pub answer : EndAnswer

-- a lane that begins
abbrev pub new_lane : SendLane
new_lane = record { state = states.Connect; ask = false }

-- an end that begins, with these lanes
abbrev pub opened : List Entry → ℕ → ℕ → List SendLane → PlainSender
opened manifest block session lanes =
    record {
      manifest = manifest;
      block = block;
      session = session;
      have = None;
      planned = None;
      lanes = lanes;
      history = [];
      answer = Going;
    }

-- ---- its lanes

-- a lane that isn't there counts as one that has ended
abbrev pub lane_or_ended : Option SendLane → SendLane
lane_or_ended None = record { state = states.Ended; ask = false }
lane_or_ended (Some lane) = lane

-- how lane l stands
abbrev pub lane_at : PlainSender → ℕ → SendLane
lane_at s l = lane_or_ended (slice_get s.lanes l)

-- its state
abbrev pub state_at : PlainSender → ℕ → SendState
state_at s l = (lane_at s l).state

-- what the history says of it
abbrev pub past_at : PlainSender → ℕ → LanePast
past_at s l = past_of s.history l

-- a lane is closed where the receiver told so
abbrev pub is_closed : PlainSender → ℕ → Bool
is_closed s l = is_some (past_at s l).claims.closed

-- the lane is through with everything
abbrev pub is_ended : SendState → Bool
is_ended states.Ended = true
is_ended _ = false

-- ---- its blocks

-- the blocks of a plan, none where there is no plan
abbrev pub listed_blocks : Option (List Block) → List Block
listed_blocks None = []
listed_blocks (Some blocks) = blocks

-- the blocks that are to be sent: none before they are planned
abbrev pub blocks_of : PlainSender → List Block
blocks_of s = listed_blocks s.planned

-- what each lane has claimed
abbrev pub lanes_claims : PlainSender → List Claims
lanes_claims s = claims_of (length s.lanes) s.history

-- the blocks that wait for a lane
abbrev pub waiting_blocks : PlainSender → List Block
waiting_blocks s = queued (length s.lanes) (blocks_of s) s.history

-- where a block stands
abbrev pub block_place : PlainSender → Block → Place
block_place s b = place_of b (lanes_claims s)

-- each block of the plan stands once, in the queue or in one lane's list, and no other block stands there
pub record HasPlaces (s : PlainSender) : Type 0 where
  pub distinct : AreDistinct (planned_now (blocks_of s) s.history)
  pub shared : AreShared (planned_now (blocks_of s) s.history) (waiting_blocks s) (lanes_claims s)

-- the least block that waits
abbrev pub least_queued : PlainSender → Option Block
least_queued s = least_of (waiting_blocks s)

-- how many blocks wait or are being written
abbrev pub unfinished_blocks : PlainSender → ℕ
unfinished_blocks s = unfinished (length s.lanes) (blocks_of s) s.history

-- ---- its frames

-- what it says of itself on a connection of a lane
abbrev pub settings_of : PlainSender → Lane → Conn → Bool → Frame
settings_of s l conn ask =
    frames.Settings record {
      version = 1;
      session = s.session;
      lane = l;
      lanes = length s.lanes;
      conn = conn;
      block = s.block;
      ask = ask;
    }

-- what is sent in all
abbrev pub size_of_tree : PlainSender → Frame
size_of_tree s = frames.Size (length s.manifest) (sum_by size_of s.manifest)

-- what is told of a block of this file
abbrev pub header_by : Option Entry → Block → Header
header_by None b = record { path = []; size = 0; stamp = 0; offset = b.offset; length = b.length }
header_by (Some entry) b =
    record { path = entry.path; size = entry.size; stamp = entry.stamp; offset = b.offset; length = b.length }

-- what is told of a block before its bytes
abbrev pub header_of : PlainSender → Block → Header
header_of s b = header_by (slice_get s.manifest b.file) b

-- ---- what a step changes

-- the entries stand in the history
abbrev pub noted : PlainSender → List SendEvent → PlainSender
noted s es = record s { history = s.history ++ es }

-- the lane is acknowledged or closed, and it has ended or is closed
abbrev pub is_done_with : PlainSender → ℕ → Bool
is_done_with s l = (past_at s l).is_acked || is_closed s l

-- the lane has ended or is closed
abbrev pub is_out : PlainSender → ℕ → Bool
is_out s l = is_ended (state_at s l) || is_closed s l

-- it holds of each lane
abbrev pub every_lane : PlainSender → (PlainSender → ℕ → Bool) → Bool
every_lane s f = every (length s.lanes) (f s)

-- the answer, as it follows from the lanes: Done where a lane read the receiver's last word and each
-- is acknowledged or closed, Link where it isn't and each has ended or is closed
abbrev pub answer_of : PlainSender → EndAnswer
answer_of s = judged s.answer ((end_of s.history).has_finish && every_lane s is_done_with) (every_lane s is_out)

-- the answer follows from the lanes again
abbrev pub settled : PlainSender → PlainSender
settled s = record s { answer = answer_of s }

-- the lane stands so now
abbrev pub with_lane : PlainSender → Lane → SendLane → PlainSender
with_lane s l lane = settled record s { lanes = slice_set s.lanes l.0 lane }

-- the lane goes on to a state
abbrev pub goes : PlainSender → Lane → SendState → PlainSender
goes s l state = with_lane s l record { state = state; ask = (lane_at s l.0).ask }

-- the end fails
abbrev pub failed : PlainSender → EndAnswer → PlainSender
failed s answer = record s { answer = answer }
