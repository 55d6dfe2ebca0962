-- The receiver's end of what the two ends of a connection say in turn.
use Rattle.std.specs.Prelude.{◌≡◌, ◌⊎◌, ℕ, min, Bool, true, false, length, Option, Some, None}
use Rattle.std.specs.Option.{option_and_then}
use Rattle.wdt_units.specs.declared.numbers.Lane.{Lane}
use Rattle.wdt_codec.specs.declared.frames.Frame.{Frame}
use Rattle.wdt_sender_fsm.specs.Phases.{Phase, Open, Met, Listing, Told, Sending, Mid, Asked, Bye, Message, Framed, Piece, down, is_abort, over_if, piece_most, told, up}
use Rattle.wdt_sender_fsm.specs.Rules.{is_failure}
use Rattle.wdt_receiver_fsm.specs.declared.acts.RecvAct.{RecvAct}
use Rattle.wdt_receiver_fsm.specs.declared.acts.RecvAct.TheVariants as acts
use Rattle.wdt_receiver_fsm.specs.declared.inputs.RecvIn.{RecvIn}
use Rattle.wdt_receiver_fsm.specs.declared.inputs.RecvIn.TheVariants as inputs
use Rattle.wdt_receiver_fsm.specs.declared.states.RecvLane.{RecvLane}
use Rattle.wdt_receiver_fsm.specs.declared.states.RecvState.{RecvState}
use Rattle.wdt_receiver_fsm.specs.declared.states.RecvState.TheVariants as states
use Rattle.wdt_receiver_fsm.specs.PlainReceiver.{PlainReceiver, lane_at, past_at}
use Rattle.wdt_receiver_fsm.specs.ReceiverHistory.{RecvPast}
use Rattle.wdt_receiver_fsm.specs.Rows.{Aborted, BadFrame, Over, Row, Starved, Stray, Unexpected, is_reading}
use Rattle.wdt_receiver_fsm.specs.Turn.{Bytes, Given, Put}

-- whether what is sent in all was read
abbrev pub sized_by : Bool → Phase
sized_by true = Sending
sized_by false = Told

-- whether the sender said that nothing more is to come: else the last word answers the settings
abbrev pub asked_by : Bool → Bool → Phase
asked_by true ask = Asked
asked_by false ask = Met ask

-- the phase of a lane that holds its act; a lane that has ended has one only where it is acknowledged.
-- Whether it is idle, and acknowledged, is of its past.
abbrev pub phase_by : RecvLane → Bool → Bool → RecvState → Option Phase
phase_by lane idle acked states.ReadSettings = Some Open
phase_by lane idle acked states.SendLocalCheckpoint = Some (Met lane.ask)
phase_by lane idle acked states.SendFileChunks = Some Listing
phase_by lane idle acked states.ReadNextCmd = Some (sized_by lane.is_sized)
phase_by lane idle acked states.TakeBlock = Some (Mid lane.left)
phase_by lane idle acked states.SendWait = Some Asked
phase_by lane idle acked states.WaitForFinish = Some Asked
phase_by lane idle acked states.SendGlobalCheckpoint = Some Asked
phase_by lane idle acked states.SendDone = Some (asked_by idle lane.ask)
phase_by lane idle acked states.ReadAck = Some Bye
phase_by lane idle acked states.Ended = over_if acked
phase_by lane idle acked _ = None

-- the phase of a lane that wrote what its act says
abbrev pub phase_written : Bool → RecvState → Option Phase
phase_written ask states.SendLocalCheckpoint = Some (told ask)
phase_written ask states.SendFileChunks = Some Told
phase_written ask states.SendWait = Some Asked
phase_written ask states.SendGlobalCheckpoint = Some Sending
phase_written ask states.SendDone = Some Bye
phase_written ask _ = None

-- the phase behind a message of the sender
abbrev pub phase_heard : Message → Option Phase → Option Phase
phase_heard message phase = option_and_then (λ p. down p message) phase

-- the phase of a connection that was just taken
abbrev pub phase_linked : RecvState → Option Phase
phase_linked states.Listen = Some Open
phase_linked _ = None

-- the phase of a lane that holds this input: what it wrote or read counts as said
abbrev pub phase_holding : RecvLane → Bool → RecvIn → Option Phase
phase_holding lane idle inputs.Wrote = phase_written lane.ask lane.state
phase_holding lane idle (inputs.Got frame) = phase_heard (Framed frame) (phase_by lane idle false lane.state)
phase_holding lane idle inputs.Linked = phase_linked lane.state
phase_holding lane idle _ = None

-- and of one that holds so many bytes of its block
abbrev pub phase_taking : RecvLane → ℕ → Option Phase
phase_taking lane count = phase_heard (Piece count) (phase_by lane false false lane.state)

-- ---- what a lane does by its phase

-- the phase of a lane that stands so, with such a past
abbrev pub phase_of : RecvLane → RecvPast → Option Phase
phase_of lane past = phase_by lane past.is_idle past.is_acked lane.state

-- the phase of a lane that holds what it hands in
abbrev pub phase_with : RecvLane → RecvPast → Put → Option Phase
phase_with lane past (Given input) = phase_holding lane past.is_idle input
phase_with lane past (Bytes bytes) = phase_taking lane (length bytes)

-- a frame is a move of a phase that is there, and leads to the one that follows its writing
pub record Leads (frame : Frame) (phase written : Option Phase) : Type 0 where
  pub from : Phase
  pub to : Phase
  pub before : phase ≡ Some from
  pub moves : up from frame ≡ Some to
  pub after : written ≡ Some to

-- a lane that stands so has the word, and this frame leads from its phase to the one behind it
abbrev pub LeadsOn : RecvLane → RecvPast → Frame → Type 0
LeadsOn lane past frame = Leads frame (phase_by lane past.is_idle false lane.state) (phase_written lane.ask lane.state)

-- so many bytes are the next piece of the lane's block: as many as are left, up to the most
pub record AsksPiece (lane : RecvLane) (count : ℕ) : Type 0 where
  pub at : lane.state ≡ states.TakeBlock
  pub next : count ≡ min lane.left piece_most

-- an act fits the lane that gets it: a lane takes a connection where it has none, reads a frame or bytes where
-- the sender has the word, writes what are moves of its phase, and waits where it waits for other lanes; or it
-- tells that the end has failed
abbrev pub FitsLane : RecvLane → RecvPast → RecvAct → Type 0
FitsLane lane past acts.Accept = lane.state ≡ states.Listen
FitsLane lane past (acts.Write frame) = ((is_abort frame ≡ true) × (lane.state ≡ states.SendAbort)) ⊎ LeadsOn lane past frame
FitsLane lane past acts.Read = is_reading lane.state ≡ true
FitsLane lane past (acts.TakePiece count) = AsksPiece lane count
FitsLane lane past acts.Park = lane.state ≡ states.WaitForFinish
FitsLane lane past acts.Stop = lane.state ≡ states.Ended

-- a row of the table, and not one of the rules before it
abbrev pub is_named : Row → Bool
is_named Over = false
is_named (Starved mute) = false
is_named Stray = false
is_named (Aborted code) = false
is_named (BadFrame at) = false
is_named (Unexpected state command) = false
is_named _ = true

-- behind a step the end has failed, or its lane stands in this phase
abbrev pub StandsIn : Phase → Lane → PlainReceiver → Type 0
StandsIn phase l r = (is_failure r.answer ≡ true) ⊎ (phase_of (lane_at r l.0) (past_at r l.0) ≡ Some phase)
