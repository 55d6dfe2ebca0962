-- What a step of a lane comes to, in one word: how the lane stands behind it, which act it gets, and why.
use Rattle.std.specs.Prelude.{◌≡◌, ℕ, ◌-◌, Bool, true, false, List, [], ◌∷◌, length, is_some, Some, None, Option}
use Rattle.wdt_units.specs.declared.blocks.Block.{Block}
use Rattle.wdt_units.specs.declared.blocks.Header.{Header}
use Rattle.wdt_units.specs.declared.numbers.Lane.{Lane}
use Rattle.wdt_codec.specs.declared.frames.Frame.{Frame}
use Rattle.wdt_codec.specs.declared.frames.Frame.TheVariants as frames
use Rattle.wdt_codec.specs.declared.frames.Settings.{Settings}
use Rattle.wdt_logfmt.specs.Beginning.{block_of, is_new}
use Rattle.wdt_logfmt.specs.Marks.{bytes_in, files_in}
use Rattle.wdt_sender_fsm.specs.declared.answers.EndAnswer.{EndAnswer}
use Rattle.wdt_sender_fsm.specs.declared.answers.EndAnswer.TheVariants as answers
use Rattle.wdt_sender_fsm.specs.declared.peers.PeerKind.{PeerKind}
use Rattle.wdt_sender_fsm.specs.declared.peers.PeerKind.TheVariants as peers
use Rattle.wdt_sender_fsm.specs.Rules.{is_failure, starved, by_voice}
use Rattle.wdt_receiver_fsm.specs.declared.acts.RecvAct.TheVariants as acts
use Rattle.wdt_receiver_fsm.specs.declared.events.RecvEvent.TheVariants as events
use Rattle.wdt_receiver_fsm.specs.declared.inputs.RecvIn.TheVariants as inputs
use Rattle.wdt_receiver_fsm.specs.declared.states.RecvState.{RecvState}
use Rattle.wdt_receiver_fsm.specs.declared.states.RecvState.TheVariants as states
use Rattle.wdt_receiver_fsm.specs.Frames.{short_fault, size_fault}
use Rattle.wdt_receiver_fsm.specs.Logging.{all_logged}
use Rattle.wdt_receiver_fsm.specs.PlainReceiver.{PlainReceiver, can_finish, failed, goes, has_finish, is_batch_full, is_ended, lane_at, marks_at, noted, past_at, state_at, untold_at, with_lane}
use Rattle.wdt_receiver_fsm.specs.ReceiverHistory.{end_of}
use Rattle.wdt_receiver_fsm.specs.Rows.{Unexpected, is_mute, is_mute_at, is_reading, is_stray, place_of, row_of}
use Rattle.wdt_receiver_fsm.specs.Turn.{Put, Given, Bytes, Step, begins, block_fault_at, drops_lane, given_up, greets_by, idles_lane, is_used_up, knows, lands, leaves, links, lists_by, meets, reads, rests, row_at, says_done, settings_fault_at, sized_by, takes_piece, tells_by, tells_failure, waited_lane, waits_by}

-- ---- the outcomes

-- Where one carries a plain receiver, the step goes on from that one: the receiver with what the step
-- noted, made or logged before.
pub data Outcome : Type 0 where
  -- nothing changes, and the lane does nothing more
  Rested : Outcome
  -- the lane ends
  Left : Outcome
  -- the end had failed, and the lane tells the sender
  Warned : Outcome
  -- the end fails with this answer; then the lane ends, or tells the sender
  Failed : PlainReceiver → EndAnswer → Bool → Outcome
  -- the lane is given up
  GivenUp : PlainReceiver → Outcome
  -- it waits for a connection
  Listened : PlainReceiver → Outcome
  -- its connection stands, and it reads what the sender says of itself
  Linked : Outcome
  -- it read that: it writes how many blocks have landed or, after the finish, the last word
  Greeted : Settings → Outcome
  -- it writes what the destination had
  Listed : Outcome
  -- it reads what is to come next
  ReadOn : PlainReceiver → Outcome
  -- it read what is sent in all
  Sized : ℕ → ℕ → Outcome
  -- this block begins, and an empty one lands
  Begun : PlainReceiver → Block → Outcome
  -- so many bytes of the block are left, and the next are taken
  Taken : ℕ → Outcome
  -- it writes the last word
  Concluded : PlainReceiver → Outcome
  -- it tells of these closed lanes
  Told : PlainReceiver → ℕ → List ℕ → Outcome
  -- it has the sender wait, or waits itself
  Waited : PlainReceiver → Bool → Outcome
  -- the last word is written, and it reads the answer
  Ended : Outcome
  -- the last word is answered: the lane is acknowledged, and ends
  Acknowledged : Outcome

-- the act and the plain receiver that an outcome is
abbrev pub came_to : PlainReceiver → Lane → Outcome → Step
came_to r l Rested = rests r
came_to r l Left = leaves r l
came_to r l Warned = tells_failure r l
came_to r l (Failed t answer mute) = by_voice mute (leaves (failed t answer) l) (tells_failure (failed t answer) l)
came_to r l (GivenUp t) = (acts.Stop, goes (noted t (given_up l (has_finish t) ∷ [])) l.0 states.Ended)
came_to r l (Listened t) = (acts.Accept, goes t l.0 states.Listen)
came_to r l Linked = links r l
came_to r l (Greeted settings) = greets_by (meets r l settings) l settings (has_finish r)
came_to r l Listed = lists_by r l true
came_to r l (ReadOn t) = reads (goes t l.0 states.ReadNextCmd)
came_to r l (Sized files bytes) = reads (with_lane (sized_by r l files bytes (is_some (end_of r.history).sized)) l.0 record (lane_at r l.0) { is_sized = true })
came_to r l (Begun t b) = begins t l b
came_to r l (Taken left) = takes_piece r l left
came_to r l (Concluded t) = says_done t l
came_to r l (Told t q qs) = tells_by t l (q ∷ qs)
came_to r l (Waited t again) = waits_by t l again
came_to r l Ended = reads (goes r l.0 states.ReadAck)
came_to r l Acknowledged = leaves (noted r (events.Acked l ∷ [])) l

-- ---- why a step comes to it

-- once all that landed is logged, what is there is otherwise than what was to be sent
abbrev pub short_after : PlainReceiver → Option PeerKind
short_after t = short_fault (end_of t.history).sized (files_in (marks_at (all_logged t))) (bytes_in (marks_at (all_logged t)))

-- the table has the lane's step: the end hasn't failed, and the lane stands in this state
pub record Serves (r : PlainReceiver) (l : Lane) (state : RecvState) : Type 0 where
  pub sound : is_failure r.answer ≡ false
  pub here : state_at r l.0 ≡ state

-- the lane has a connection in this state
abbrev pub is_linked : RecvState → Bool
is_linked states.Listen = false
is_linked states.Ended = false
is_linked _ = true

-- nothing changes: the lane has ended, what it handed in doesn't belong to its state, or memory ran out on
-- an end that is done or has no lane left
pub data Rests (r : PlainReceiver) (l : Lane) (put : Put) : Type 0 where
  WasOver : state_at r l.0 ≡ states.Ended → Rests r l put
  WasStray : is_failure r.answer ≡ false → is_stray (row_at r l put) ≡ true → Rests r l put
  WasSettled : is_failure r.answer ≡ false → is_ended (state_at r l.0) ≡ false → put ≡ Given inputs.Starved → is_failure (starved r.answer) ≡ false → Rests r l put
  WasNoBlock : (bytes : List ℕ) → Serves r l states.TakeBlock → put ≡ Bytes bytes → (past_at r l.0).begun ≡ None → Rests r l put

-- the lane ends: on a failed end it can tell nothing more, or it has told of the failure
pub data Leaves (r : PlainReceiver) (l : Lane) (put : Put) : Type 0 where
  WasMute : is_failure r.answer ≡ true → is_mute (row_at r l put) ≡ true → Leaves r l put
  WasTold : Serves r l states.SendAbort → put ≡ Given inputs.Wrote → Leaves r l put

-- on a failed end the lane tells it
pub record Warns (r : PlainReceiver) (l : Lane) (put : Put) : Type 0 where
  pub failed : is_failure r.answer ≡ true
  pub voice : is_mute (row_at r l put) ≡ false

-- the lane takes the piece that completes this block, which has landed
pub record Lands (r : PlainReceiver) (l : Lane) (put : Put) (b : Block) : Type 0 where
  pub serves : Serves r l states.TakeBlock
  pub bytes : List ℕ
  pub handed : put ≡ Bytes bytes
  pub begun : (past_at r l.0).begun ≡ Some b
  pub last : (lane_at r l.0).left - length bytes ≡ 0

-- the receiver behind the last piece of a block
abbrev pub landed_by : PlainReceiver → Lane → Block → PlainReceiver
landed_by r l b = lands (with_lane r l.0 record (lane_at r l.0) { left = 0 }) l b

-- the lane is idle, and the receiver is this one as it chooses what the lane does
pub data Idles (r : PlainReceiver) (l : Lane) (put : Put) (t : PlainReceiver) : Type 0 where
  ByDone : Serves r l states.ReadNextCmd → (lane_at r l.0).is_sized ≡ true → put ≡ Given (inputs.Got frames.Done) → t ≡ idles_lane r l → Idles r l put t
  ByWait : Serves r l states.SendWait → put ≡ Given inputs.Wrote → t ≡ waited_lane r l → Idles r l put t
  ByWaking : Serves r l states.WaitForFinish → put ≡ Given inputs.Woken → t ≡ r → Idles r l put t

-- the finish is ready
pub record Finishes (r : PlainReceiver) (l : Lane) (put : Put) (t : PlainReceiver) : Type 0 where
  pub idles : Idles r l put t
  pub first : has_finish t ≡ false
  pub ready : can_finish t ≡ true

-- what the sender said that it may not say, where a lane stands in a state
pub data Mistakes (r : PlainReceiver) (l : Lane) (state : RecvState) (put : Put) (kind : PeerKind) : Type 0 where
  -- bytes that are no frame
  NoFrame : (at : ℕ) → put ≡ Given (inputs.Bad at) → kind ≡ peers.BadFrame at → Mistakes r l state put kind
  -- a frame that has no row
  NoPlace : (frame : Frame) (command : ℕ) → put ≡ Given (inputs.Got frame) → row_of (lane_at r l.0).is_sized state (inputs.Got frame) ≡ Unexpected (place_of state) command
      → kind ≡ peers.Unexpected (place_of state) command → Mistakes r l state put kind
  -- settings with a wrong field
  WrongSettings : (settings : Settings) (field : ℕ) → put ≡ Given (inputs.Got (frames.Settings settings)) → state ≡ states.ReadSettings → settings_fault_at r l settings ≡ Some field
      → kind ≡ peers.BadSettings field → Mistakes r l state put kind
  -- other totals than the first
  OtherSize : (files bytes : ℕ) → put ≡ Given (inputs.Got (frames.Size files bytes)) → state ≡ states.ReadNextCmd → (lane_at r l.0).is_sized ≡ false
      → size_fault (end_of r.history).sized files bytes ≡ Some kind → Mistakes r l state put kind
  -- a block that may not begin
  WrongBlock : (header : Header) → put ≡ Given (inputs.Got (frames.Block header)) → state ≡ states.ReadNextCmd → (lane_at r l.0).is_sized ≡ true → block_fault_at r l header ≡ Some kind
      → Mistakes r l state put kind

-- the end fails with this answer, from this plain receiver on
pub data Fails (r : PlainReceiver) (l : Lane) (put : Put) : PlainReceiver → EndAnswer → Bool → Type 0 where
  -- memory ran out
  OfMemory : (mute : Bool) → r.answer ≡ answers.Going → put ≡ Given inputs.Starved → is_ended (state_at r l.0) ≡ false → mute ≡ is_mute_at (state_at r l.0)
      → Fails r l put r answers.NoMemory mute
  -- the sender has failed
  OfSender : (state : RecvState) (code : ℕ) → Serves r l state → is_reading state ≡ true → put ≡ Given (inputs.Got (frames.Abort code))
      → Fails r l put (noted r (events.Abort l code ∷ [])) (answers.Aborted code) true
  -- the sender said what it may not say
  OfPeer : (state : RecvState) (kind : PeerKind) → Serves r l state → is_reading state ≡ true → Mistakes r l state put kind
      → Fails r l put (noted r (events.Peer l kind ∷ [])) (answers.Peer kind) false
  -- at the finish something else is there than was to be sent; what landed is logged
  OfShort : (t : PlainReceiver) (kind : PeerKind) → Finishes r l put t → short_after t ≡ Some kind
      → Fails r l put (noted (record (all_logged t) { history = r.history }) (events.Peer l kind ∷ [])) (answers.Peer kind) false
  -- the disk failed as a file was made
  OfMake : (header : Header) → Serves r l states.ReadNextCmd → (lane_at r l.0).is_sized ≡ true → put ≡ Given (inputs.Got (frames.Block header)) → block_fault_at r l header ≡ None
      → is_new r.known header ≡ true → Fails r l put r answers.Disk false
  -- as a piece was written
  OfWrite : (bytes : List ℕ) (b : Block) → Serves r l states.TakeBlock → put ≡ Bytes bytes → (past_at r l.0).begun ≡ Some b → Fails r l put r answers.Disk false
  -- as a landed block was logged
  OfLog : (b : Block) → Lands r l put b → is_batch_full (landed_by r l b) ≡ true → Fails r l put (landed_by r l b) answers.Disk false
  -- and at the finish
  OfFinish : (t : PlainReceiver) → Finishes r l put t → Fails r l put t answers.Disk false

-- the lane wants a connection: it begins, none could be taken, or the one that it had is lost
pub data Listens (r : PlainReceiver) (l : Lane) (put : Put) : PlainReceiver → Type 0 where
  AtFirst : Serves r l states.Listen → put ≡ Given inputs.Start → Listens r l put r
  ByNoLink : Serves r l states.Listen → put ≡ Given inputs.NoLink → Listens r l put (noted r (events.NoLink l ∷ []))
  ByLoss : (state : RecvState) → Serves r l state → is_linked state ≡ true → put ≡ Given inputs.Lost → Listens r l put (drops_lane r l)

-- the lane reads on: what it had to write is written, or a block has landed and, where the batch was full,
-- was logged
pub data ReadsOn (r : PlainReceiver) (l : Lane) (put : Put) : PlainReceiver → Type 0 where
  ByGreeting : Serves r l states.SendLocalCheckpoint → put ≡ Given inputs.Wrote → (lane_at r l.0).ask ≡ false → ReadsOn r l put r
  ByChunks : Serves r l states.SendFileChunks → put ≡ Given inputs.Wrote → ReadsOn r l put r
  ByMarks : Serves r l states.SendGlobalCheckpoint → put ≡ Given inputs.Wrote → ReadsOn r l put r
  ByLanding : (b : Block) → Lands r l put b → is_batch_full (landed_by r l b) ≡ false → ReadsOn r l put (landed_by r l b)
  ByLogging : (b : Block) → Lands r l put b → is_batch_full (landed_by r l b) ≡ true → ReadsOn r l put (all_logged (landed_by r l b))

-- the last word is due: the finish has come, or it comes now
pub data Concludes (r : PlainReceiver) (l : Lane) (put : Put) : PlainReceiver → Type 0 where
  WasFinished : (t : PlainReceiver) → Idles r l put t → has_finish t ≡ true → Concludes r l put t
  IsFinished : (t : PlainReceiver) → Finishes r l put t → short_after t ≡ None → Concludes r l put (noted (all_logged t) (events.Finish ∷ []))

-- a block begins whose file is known, or was made now
pub data Begins (r : PlainReceiver) (l : Lane) (put : Put) : PlainReceiver → Block → Type 0 where
  OfKnown : (header : Header) → Serves r l states.ReadNextCmd → (lane_at r l.0).is_sized ≡ true → put ≡ Given (inputs.Got (frames.Block header)) → block_fault_at r l header ≡ None
      → is_new r.known header ≡ false → Begins r l put r (block_of r.known header)
  OfNew : (header : Header) → Serves r l states.ReadNextCmd → (lane_at r l.0).is_sized ≡ true → put ≡ Given (inputs.Got (frames.Block header)) → block_fault_at r l header ≡ None
      → is_new r.known header ≡ true → Begins r l put (knows r header) (block_of r.known header)

-- an idle lane on an end whose finish isn't ready
pub record IsIdle (r : PlainReceiver) (l : Lane) (put : Put) (t : PlainReceiver) (untold : List ℕ) : Type 0 where
  pub idles : Idles r l put t
  pub first : has_finish t ≡ false
  pub unready : can_finish t ≡ false
  pub told : untold_at t l.0 ≡ untold

-- more of the block that the lane takes is to come
pub record Takes (r : PlainReceiver) (l : Lane) (put : Put) (left : ℕ) : Type 0 where
  pub serves : Serves r l states.TakeBlock
  pub bytes : List ℕ
  pub block : Block
  pub handed : put ≡ Bytes bytes
  pub begun : (past_at r l.0).begun ≡ Some block
  pub rest : (lane_at r l.0).left - length bytes ≡ left
  pub more : (left ≡ 0) → ⊥

-- a step of a lane comes to this outcome for such a reason
abbrev pub ComesOf : PlainReceiver → Lane → Put → Outcome → Type 0
ComesOf r l put Rested = Rests r l put
ComesOf r l put Left = (is_ended (state_at r l.0) ≡ false) × Leaves r l put
ComesOf r l put Warned = (is_ended (state_at r l.0) ≡ false) × Warns r l put
ComesOf r l put (Failed t answer mute) = Fails r l put t answer mute
ComesOf r l put (GivenUp t) = Listens r l put t × (is_used_up (past_at t l.0) ≡ true)
ComesOf r l put (Listened t) = Listens r l put t × (is_used_up (past_at t l.0) ≡ false)
ComesOf r l put Linked = Serves r l states.Listen × (put ≡ Given inputs.Linked)
ComesOf r l put (Greeted settings) = Serves r l states.ReadSettings × (put ≡ Given (inputs.Got (frames.Settings settings))) × (settings_fault_at r l settings ≡ None)
ComesOf r l put Listed = Serves r l states.SendLocalCheckpoint × (put ≡ Given inputs.Wrote) × ((lane_at r l.0).ask ≡ true)
ComesOf r l put (ReadOn t) = ReadsOn r l put t
ComesOf r l put (Sized files bytes) = Serves r l states.ReadNextCmd × ((lane_at r l.0).is_sized ≡ false) × (put ≡ Given (inputs.Got (frames.Size files bytes))) × (size_fault (end_of r.history).sized files bytes ≡ None)
ComesOf r l put (Begun t b) = Begins r l put t b
ComesOf r l put (Taken left) = Takes r l put left
ComesOf r l put (Concluded t) = Concludes r l put t
ComesOf r l put (Told t q qs) = IsIdle r l put t (q ∷ qs)
ComesOf r l put (Waited t again) = IsIdle r l put t [] × ((lane_at t l.0).has_waited ≡ again)
ComesOf r l put Ended = Serves r l states.SendDone × (put ≡ Given inputs.Wrote)
ComesOf r l put Acknowledged = Serves r l states.ReadAck × (put ≡ Given (inputs.Got frames.Done))

-- a step is one of the outcomes
pub record Comes (r : PlainReceiver) (l : Lane) (put : Put) (step : Step) : Type 0 where
  pub outcome : Outcome
  pub is : step ≡ came_to r l outcome
  pub of : ComesOf r l put outcome
