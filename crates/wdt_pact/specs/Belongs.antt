-- What each lane holds belongs to its state.
use Rattle.std.specs.Prelude.{◌≡◌, ℕ, ◌<◌, Bool, true, false, length}
use Rattle.wdt_codec.specs.Frames.{Fits}
use Rattle.wdt_codec.specs.declared.frames.Frame.{Frame}
use Rattle.wdt_codec.specs.declared.frames.Frame.TheVariants as frames
use Rattle.wdt_sender_fsm.specs.declared.acts.SendAct.TheVariants as acts
use Rattle.wdt_sender_fsm.specs.declared.inputs.SendIn.TheVariants as inputs
use Rattle.wdt_sender_fsm.specs.declared.states.SendLane.{SendLane}
use Rattle.wdt_sender_fsm.specs.declared.states.SendState.{SendState}
use Rattle.wdt_sender_fsm.specs.declared.states.SendState.TheVariants as states
use Rattle.wdt_sender_fsm.specs.PlainSender.{lane_at}
use Rattle.wdt_sender_fsm.specs.Rows.{is_reading}
use Rattle.wdt_receiver_fsm.specs.declared.inputs.RecvIn.TheVariants as recv_inputs
use Rattle.wdt_receiver_fsm.specs.declared.states.RecvLane.{RecvLane}
use Rattle.wdt_receiver_fsm.specs.declared.states.RecvState.{RecvState}
use Rattle.wdt_receiver_fsm.specs.declared.states.RecvState.TheVariants as recv_states
use Rattle.wdt_receiver_fsm.specs.Outcomes.{is_linked}
use Rattle.wdt_receiver_fsm.specs.Phases as recv_phases
use Rattle.wdt_receiver_fsm.specs.PlainReceiver as recv
use Rattle.wdt_receiver_fsm.specs.ReceiverHistory.{RecvPast}
use Rattle.wdt_receiver_fsm.specs.Rows as recv_rows
use Rattle.wdt_pact.specs.Pairs.{SendHold, SendDoes, SendHas, RecvHold, RecvDoes, RecvHas, RecvTook}
use Rattle.wdt_pact.specs.World.{PlainWorld, pair_at}

-- ---- the receiver

-- the receiver's lane writes in this state
abbrev pub receives_writing : RecvState → Bool
receives_writing recv_states.SendLocalCheckpoint = true
receives_writing recv_states.SendFileChunks = true
receives_writing recv_states.SendWait = true
receives_writing recv_states.SendGlobalCheckpoint = true
receives_writing recv_states.SendDone = true
receives_writing recv_states.SendAbort = true
receives_writing _ = false

-- an act of the receiver's lane fits how it stands, and an input is one that comes in its state: what it was to
-- write is written, a frame is read where it reads, a connection is taken or not where it has none, and is lost
-- where it has one, and a piece is taken where it takes a block
abbrev pub RecvBelongs : RecvHold → RecvLane → RecvPast → Type 0
RecvBelongs (RecvDoes act) lane past = recv_phases.FitsLane lane past act
RecvBelongs (RecvHas recv_inputs.Wrote) lane past = receives_writing lane.state ≡ true
RecvBelongs (RecvHas (recv_inputs.Got frame)) lane past = recv_rows.is_reading lane.state ≡ true
RecvBelongs (RecvHas recv_inputs.Linked) lane past = lane.state ≡ recv_states.Listen
RecvBelongs (RecvHas recv_inputs.NoLink) lane past = lane.state ≡ recv_states.Listen
RecvBelongs (RecvHas recv_inputs.Lost) lane past = is_linked lane.state ≡ true
RecvBelongs (RecvHas _) lane past = ⊥
RecvBelongs (RecvTook n) lane past = lane.state ≡ recv_states.TakeBlock

-- what the receiver's lane l of a world holds belongs to its state
abbrev pub RecvBelongsAt : PlainWorld → ℕ → Type 0
RecvBelongsAt w l = RecvBelongs (pair_at w l).recv (recv.lane_at w.receiver l) (recv.past_at w.receiver l)

-- a frame that the receiver's lane has read lies in the grammar's ranges
abbrev pub RecvFits : RecvHold → Type 0
RecvFits (RecvHas (recv_inputs.Got frame)) = Fits frame
RecvFits _ = Unit {0}

-- ---- the sender

-- the sender's lane writes in this state
abbrev pub sends_writing : SendState → Bool
sends_writing states.SendSettings = true
sends_writing states.SendSize = true
sends_writing states.SendBlocks = true
sends_writing states.SendDone = true
sends_writing states.AnswerDone = true
sends_writing states.SendAbort = true
sends_writing _ = false

-- the sender's lane has a connection in this state
abbrev pub sends_linked : SendState → Bool
sends_linked states.Connect = false
sends_linked states.Ended = false
sends_linked _ = true

-- what a lane writes in a state: what the sender is, with the question that it asks, what is sent in all, that nothing
-- more is to come, its answer to the last word, and that its end has failed
abbrev pub SendFrameIn : SendLane → SendState → Frame → Type 0
SendFrameIn lane states.SendSettings (frames.Settings settings) = settings.ask ≡ lane.ask
SendFrameIn lane states.SendSize (frames.Size files bytes) = Unit {0}
SendFrameIn lane states.SendDone frames.Done = Unit {0}
SendFrameIn lane states.AnswerDone frames.Done = Unit {0}
SendFrameIn lane states.SendAbort (frames.Abort code) = Unit {0}
SendFrameIn lane state frame = ⊥

-- an act of the sender's lane belongs to its state, and an input is one that comes in it: the source may fail where a
-- block is written
abbrev pub SendBelongs : SendHold → SendLane → Type 0
SendBelongs (SendDoes (acts.Dial conn)) lane = lane.state ≡ states.Connect
SendBelongs (SendDoes (acts.Write frame)) lane = SendFrameIn lane lane.state frame
SendBelongs (SendDoes (acts.SendBlock header)) lane = lane.state ≡ states.SendBlocks
SendBelongs (SendDoes acts.Read) lane = is_reading lane.state ≡ true
SendBelongs (SendDoes acts.Stop) lane = lane.state ≡ states.Ended
SendBelongs (SendHas inputs.Wrote) lane = sends_writing lane.state ≡ true
SendBelongs (SendHas (inputs.Got frame)) lane = is_reading lane.state ≡ true
SendBelongs (SendHas inputs.Linked) lane = lane.state ≡ states.Connect
SendBelongs (SendHas inputs.NoLink) lane = lane.state ≡ states.Connect
SendBelongs (SendHas inputs.Lost) lane = sends_linked lane.state ≡ true
SendBelongs (SendHas (inputs.SourceLost unwritten)) lane = lane.state ≡ states.SendBlocks
SendBelongs (SendHas _) lane = ⊥

-- what the sender's lane l of a world holds belongs to its state
abbrev pub SendBelongsAt : PlainWorld → ℕ → Type 0
SendBelongsAt w l = SendBelongs (pair_at w l).send (lane_at w.sender l)

-- ---- a world

-- what each lane holds belongs to its state
pub record Belongs (w : PlainWorld) : Type 0 where
  pub send : (l : ℕ) → l < length w.pairs → SendBelongsAt w l
  pub recv : (l : ℕ) → l < length w.pairs → RecvBelongsAt w l
