-- Why a step of a lane comes to its outcome, by the tests of the table and of the rules before it.
use Rattle.std.specs.Prelude.{◌≡◌, ◌⊎◌, ℕ, ◌==◌, ◌||◌, not, Bool, true, false, List, [], ◌∷◌, length, is_some, Some, None}
use Rattle.wdt_units.specs.Have.{HaveFile}
use Rattle.wdt_units.specs.declared.numbers.Lane.{Lane}
use Rattle.wdt_codec.specs.declared.frames.Frame.{Frame}
use Rattle.wdt_codec.specs.declared.frames.Frame.TheVariants as frames
use Rattle.wdt_codec.specs.declared.frames.Mark.{Mark}
use Rattle.wdt_sender_fsm.specs.declared.answers.EndAnswer.{EndAnswer}
use Rattle.wdt_sender_fsm.specs.declared.answers.EndAnswer.TheVariants as answers
use Rattle.wdt_sender_fsm.specs.declared.answers.RefusedKind.{RefusedKind}
use Rattle.wdt_sender_fsm.specs.declared.events.SendEvent.{SendEvent}
use Rattle.wdt_sender_fsm.specs.declared.events.SendEvent.TheVariants as events
use Rattle.wdt_sender_fsm.specs.declared.inputs.SendIn.{SendIn}
use Rattle.wdt_sender_fsm.specs.declared.inputs.SendIn.TheVariants as inputs
use Rattle.wdt_sender_fsm.specs.declared.peers.PeerKind.{PeerKind}
use Rattle.wdt_sender_fsm.specs.declared.peers.PeerKind.TheVariants as peers
use Rattle.wdt_sender_fsm.specs.declared.states.SendState.{SendState}
use Rattle.wdt_sender_fsm.specs.declared.states.SendState.TheVariants as states
use Rattle.wdt_sender_fsm.specs.Causes.{Refuses}
use Rattle.wdt_sender_fsm.specs.Chunks.{unordered_at, different_at, refusal}
use Rattle.wdt_sender_fsm.specs.Faults.{count_fault, marks_fault, has_stranger, is_unexpected, unexpected_in}
use Rattle.wdt_sender_fsm.specs.PlainSender.{PlainSender, state_at, past_at, is_closed, is_ended, least_queued, unfinished_blocks, noted, failed}
use Rattle.wdt_sender_fsm.specs.Rows.{is_allowed, is_mute, is_mute_at, is_reading, row_of}
use Rattle.wdt_sender_fsm.specs.Rules.{is_failure, starved}
use Rattle.wdt_sender_fsm.specs.Turn.{Step, rests, leaves, tells_failure, is_used_up, globals}
use Rattle.wdt_sender_fsm.specs.Outcomes.{Outcome, Rested, Waited, Left, Warned, Failed, GivenUp, Redialed, Introduced, Presented, Greeted, Listed, Planned, Claimed, Emptied, Concluded, Finished, Acknowledged, came_to}

-- the table has the lane's step: the lane isn't closed, the end hasn't failed, and the lane stands in this
-- state
pub record Serves (s : PlainSender) (l : Lane) (state : SendState) : Type 0 where
  pub is_open : is_closed s l.0 ≡ false
  pub sound : is_failure s.answer ≡ false
  pub here : state_at s l.0 ≡ state

-- nothing changes: the lane has ended, the input doesn't belong to its state, or memory ran out on an end
-- that is done or has no lane left
pub data Rests (s : PlainSender) (l : Lane) (input : SendIn) : Type 0 where
  WasOver : state_at s l.0 ≡ states.Ended → Rests s l input
  WasStray : (state : SendState) → Serves s l state → is_allowed state input ≡ false → Rests s l input
  WasSettled : (state : SendState) → Serves s l state → is_ended state ≡ false → input ≡ inputs.Starved → is_failure (starved s.answer) ≡ false → Rests s l input

-- the lane ends: it is closed, or on a failed end it can tell nothing more, or it has told of the failure
pub data Leaves (s : PlainSender) (l : Lane) (input : SendIn) : Type 0 where
  WasClosed : is_closed s l.0 ≡ true → Leaves s l input
  WasMute : is_closed s l.0 ≡ false → is_failure s.answer ≡ true → is_mute (row_of (state_at s l.0) input) ≡ true → Leaves s l input
  WasTold : Serves s l states.SendAbort → input ≡ inputs.Wrote → Leaves s l input

-- on a failed end the lane tells it
pub record Warns (s : PlainSender) (l : Lane) (input : SendIn) : Type 0 where
  pub is_open : is_closed s l.0 ≡ false
  pub failed : is_failure s.answer ≡ true
  pub voice : is_mute (row_of (state_at s l.0) input) ≡ false

-- what the receiver said that it may not say, where a lane stands in a state
pub data Mistakes (s : PlainSender) (l : Lane) (state : SendState) (input : SendIn) (kind : PeerKind) : Type 0 where
  -- no frame
  NoFrame : (at : ℕ) → input ≡ inputs.Bad at → kind ≡ peers.BadFrame at → Mistakes s l state input kind
  -- a frame that may not come
  NoPlace : (frame : Frame) → input ≡ inputs.Got frame → is_unexpected (length s.lanes) l.0 (is_some s.have) (row_of state input) ≡ true → kind ≡ unexpected_in state frame → Mistakes s l state input kind
  -- a Greeting with a count that can't be right
  WrongCount : (mark : Mark) → input ≡ inputs.Got (frames.Greeting mark) → state ≡ states.ReadLocalCheckpoint → mark.lane.0 ≡ l.0 → count_fault (past_at s l.0).claims mark.count ≡ Some kind → Mistakes s l state input kind
  -- ErrMarks with such a count
  WrongMarks : (marks : List Mark) → input ≡ inputs.Got (frames.ErrMarks marks) → state ≡ states.ReadReceiverCmd → has_stranger (length s.lanes) l.0 marks ≡ false → marks_fault s.history marks ≡ Some kind → Mistakes s l state input kind
  -- Chunks out of order
  WrongOrder : (have : List HaveFile) (at : ℕ) → input ≡ inputs.Got (frames.Chunks have) → state ≡ states.ReadFileChunks → unordered_at have ≡ Some at → kind ≡ peers.BadChunks at → Mistakes s l state input kind
  -- Chunks that were told otherwise before
  OtherList : (have first : List HaveFile) (at : ℕ) → input ≡ inputs.Got (frames.Chunks have) → state ≡ states.ReadFileChunks → unordered_at have ≡ None → s.have ≡ Some first → different_at first have ≡ Some at → kind ≡ peers.ChunksDiffer at → Mistakes s l state input kind
  -- Done while blocks wait or are being written
  TooEarly : input ≡ inputs.Got frames.Done → is_some s.have ≡ true ⊎ state ≡ states.ReadReceiverCmd → (unfinished_blocks s == 0) ≡ false → kind ≡ peers.EarlyDone (unfinished_blocks s) → Mistakes s l state input kind

-- the end fails
pub data Fails (s : PlainSender) (l : Lane) (input : SendIn) : EndAnswer → Bool → Type 0 where
  -- memory ran out; a closed lane ends in any case
  OfMemory : (mute : Bool) → s.answer ≡ answers.Going → input ≡ inputs.Starved → is_ended (state_at s l.0) ≡ false → mute ≡ (is_closed s l.0 || is_mute_at (state_at s l.0)) → Fails s l input answers.NoMemory mute
  -- the receiver has failed
  OfReceiver : (state : SendState) (code : ℕ) → Serves s l state → is_reading state ≡ true → input ≡ inputs.Got (frames.Abort code) → Fails s l input (answers.Aborted code) true
  -- the source failed
  OfSource : (unwritten : Bool) → Serves s l states.SendBlocks → input ≡ inputs.SourceLost unwritten → Fails s l input answers.Source (not unwritten)
  -- the tree isn't sent to such a destination
  OfPlan : (kind : RefusedKind) → Serves s l states.ReadFileChunks → Refuses s l.0 input kind → Fails s l input (answers.Refused kind) false
  -- the receiver said what it may not say
  OfPeer : (state : SendState) (kind : PeerKind) → Serves s l state → is_reading state ≡ true → Mistakes s l state input kind → Fails s l input (answers.Peer kind) false

-- the lane wants a connection, behind these entries: it begins, no connection could be made, or the one
-- that it had is lost
pub data Dials (s : PlainSender) (l : Lane) (input : SendIn) : List SendEvent → Type 0 where
  AtFirst : Serves s l states.Connect → input ≡ inputs.Start → Dials s l input []
  ByNoLink : Serves s l states.Connect → input ≡ inputs.NoLink → Dials s l input (events.NoLink l ∷ [])
  ByLoss : (state : SendState) → Serves s l state → is_allowed state inputs.Lost ≡ true → input ≡ inputs.Lost → Dials s l input (events.Lost l ∷ [])

-- the lane is free for the next block, behind these entries: what is sent in all is written, or its block,
-- or it read which lanes the receiver has closed
pub data Frees (s : PlainSender) (l : Lane) (input : SendIn) : List SendEvent → Type 0 where
  BySize : Serves s l states.SendSize → input ≡ inputs.Wrote → Frees s l input []
  ByBlock : Serves s l states.SendBlocks → input ≡ inputs.Wrote → Frees s l input (events.Sent l ∷ [])
  ByMarks : (marks : List Mark) → Serves s l states.ReadReceiverCmd → input ≡ inputs.Got (frames.ErrMarks marks) → has_stranger (length s.lanes) l.0 marks ≡ false → marks_fault s.history marks ≡ None → Frees s l input (globals l marks)

-- the receiver's last word: behind the lane's own, or for the settings where the blocks are planned
pub data Ends (s : PlainSender) (l : Lane) : Type 0 where
  Behind : Serves s l states.ReadReceiverCmd → Ends s l
  AtOnce : Serves s l states.ReadLocalCheckpoint → is_some s.have ≡ true → Ends s l

-- the lane reads what the destination has, in order
pub record Reads (s : PlainSender) (l : Lane) (input : SendIn) (have : List HaveFile) : Type 0 where
  pub serves : Serves s l states.ReadFileChunks
  pub read : input ≡ inputs.Got (frames.Chunks have)
  pub ordered : unordered_at have ≡ None

-- a step of a lane with an input comes to this outcome for such a reason
abbrev pub ComesOf : PlainSender → Lane → SendIn → Outcome → Type 0
ComesOf s l input Rested = Rests s l input
ComesOf s l input Waited = Serves s l states.ReadReceiverCmd × (input ≡ inputs.Got frames.Wait)
ComesOf s l input Left = (is_ended (state_at s l.0) ≡ false) × Leaves s l input
ComesOf s l input Warned = (is_ended (state_at s l.0) ≡ false) × Warns s l input
ComesOf s l input (Failed answer mute) = Fails s l input answer mute
ComesOf s l input (GivenUp es) = Dials s l input es × (is_used_up (past_at (noted s es) l.0) ≡ true)
ComesOf s l input (Redialed es) = Dials s l input es × (is_used_up (past_at (noted s es) l.0) ≡ false)
ComesOf s l input Introduced = Serves s l states.Connect × (input ≡ inputs.Linked)
ComesOf s l input Presented = Serves s l states.SendSettings × (input ≡ inputs.Wrote)
ComesOf s l input (Greeted count) = Serves s l states.ReadLocalCheckpoint × (input ≡ inputs.Got (frames.Greeting record { lane = l; count = count })) × (count_fault (past_at s l.0).claims count ≡ None)
ComesOf s l input Listed = (have : List HaveFile) × Reads s l input have × (s.have ≡ Some have)
ComesOf s l input (Planned have) = Reads s l input have × (s.have ≡ None) × (refusal s.manifest have s.block ≡ None)
ComesOf s l input (Claimed es b) = Frees s l input es × (least_queued (noted s es) ≡ Some b)
ComesOf s l input (Emptied es) = Frees s l input es × (least_queued (noted s es) ≡ None)
ComesOf s l input Concluded = Serves s l states.SendDone × (input ≡ inputs.Wrote)
ComesOf s l input Finished = Ends s l × (input ≡ inputs.Got frames.Done) × (unfinished_blocks s ≡ 0)
ComesOf s l input Acknowledged = Serves s l states.AnswerDone × (input ≡ inputs.Wrote)

-- a step is one of the outcomes
pub record Comes (s : PlainSender) (l : Lane) (input : SendIn) (step : Step) : Type 0 where
  pub outcome : Outcome
  pub is : step ≡ came_to s l outcome
  pub of : ComesOf s l input outcome

-- ---- the rules before the table

-- a step of a lane of a failed end: nothing changes, or the lane ends, or it tells of the failure
abbrev pub GivesUp : PlainSender → Lane → Step → Type 0
GivesUp s l step = (step ≡ rests s) ⊎ ((step ≡ leaves s l) ⊎ (step ≡ tells_failure s l))

-- a step of a closed lane: nothing changes, or the lane ends, where memory may have run out
abbrev pub LeavesClosed : PlainSender → Lane → Step → Type 0
LeavesClosed s l step = (step ≡ rests s) ⊎ ((step ≡ leaves s l) ⊎ (step ≡ leaves (failed s answers.NoMemory) l))
