-- What never goes wrong at a lane of a world: what is read may come, counts are right, and the finish isn't early.
use Rattle.std.specs.Prelude.{◌≡◌, ℕ, true, false, List, [], length, take, None}
use Rattle.wdt_codec.specs.declared.frames.Frame.{Frame}
use Rattle.wdt_codec.specs.declared.frames.Frame.TheVariants as frames
use Rattle.wdt_codec.specs.declared.frames.Mark.{Mark}
use Rattle.wdt_sender_fsm.specs.declared.inputs.SendIn.TheVariants as inputs
use Rattle.wdt_sender_fsm.specs.declared.states.SendState.TheVariants as states
use Rattle.wdt_sender_fsm.specs.Faults.{count_fault, has_stranger, marks_fault}
use Rattle.wdt_sender_fsm.specs.Phases.{is_abort, is_named}
use Rattle.wdt_sender_fsm.specs.PlainSender.{past_at, state_at, unfinished_blocks, waiting_blocks}
use Rattle.wdt_sender_fsm.specs.Rows.{row_of}
use Rattle.wdt_receiver_fsm.specs.declared.inputs.RecvIn.TheVariants.{Got}
use Rattle.wdt_receiver_fsm.specs.Phases as recv_phases
use Rattle.wdt_receiver_fsm.specs.PlainReceiver as recv
use Rattle.wdt_receiver_fsm.specs.Rows as recv_rows
use Rattle.wdt_pact.specs.Conversation.{receiving, sending}
use Rattle.wdt_pact.specs.Pairs.{RecvHas, SendHas}
use Rattle.wdt_pact.specs.World.{PlainWorld, pair_at}

-- nothing goes wrong at lane l
pub record IsRight (w : PlainWorld) (l : ℕ) : Type 0 where
  -- a frame that either end has read tells of a failure, or has its row of the table
  pub receives : (frame : Frame) → (pair_at w l).recv ≡ RecvHas (Got frame) → is_abort frame ≡ false → recv_phases.is_named (recv_rows.row_of (recv.lane_at w.receiver l).is_sized (recv.state_at w.receiver l) (Got frame)) ≡ true
  pub sends : (frame : Frame) → (pair_at w l).send ≡ SendHas (inputs.Got frame) → is_abort frame ≡ false → is_named (row_of (state_at w.sender l) (inputs.Got frame)) ≡ true
  -- a count that the sender has read is of this lane, or of others that are there, and right
  pub count : (mark : Mark) → state_at w.sender l ≡ states.ReadLocalCheckpoint → (pair_at w l).send ≡ SendHas (inputs.Got (frames.Greeting mark)) → (mark.lane.0 ≡ l) × (count_fault (past_at w.sender l).claims mark.count ≡ None)
  pub counts : (marks : List Mark) → state_at w.sender l ≡ states.ReadReceiverCmd → (pair_at w l).send ≡ SendHas (inputs.Got (frames.ErrMarks marks)) → (has_stranger (length w.sender.lanes) l marks ≡ false) × (marks_fault w.sender.history marks ≡ None)
  -- the receiver's last word is read only where no block waits or is being written
  pub last : (pair_at w l).send ≡ SendHas (inputs.Got frames.Done) → unfinished_blocks w.sender ≡ 0
  -- what has landed are the first blocks that the lane claimed; behind the finish they are all, and no block waits
  pub order : take (length (receiving w.receiver l).landed) (sending w.sender l).kept ≡ (receiving w.receiver l).landed
  pub landed : recv.has_finish w.receiver ≡ true → ((sending w.sender l).kept ≡ (receiving w.receiver l).landed) × (waiting_blocks w.sender ≡ [])
