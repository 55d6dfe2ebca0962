-- What the two ends of a connection say in turn.
use Rattle.std.specs.Prelude.{◌≡◌, ◌⊎◌, ℕ, ◌+◌, ◌-◌, ◌*◌, ◌/◌, ◌==◌, min, Bool, true, false, if◌then◌else◌, List, [], ◌∷◌, Option, Some, None}
use Rattle.std.specs.Option.{option_and_then}
use Rattle.wdt_units.specs.declared.limits.TheConstants.{PIECE}
use Rattle.wdt_units.specs.declared.numbers.Lane.{Lane}
use Rattle.wdt_codec.specs.declared.frames.Frame.{Frame}
use Rattle.wdt_codec.specs.declared.frames.Frame.TheVariants as frames
use Rattle.wdt_sender_fsm.specs.declared.acts.SendAct.{SendAct}
use Rattle.wdt_sender_fsm.specs.declared.acts.SendAct.TheVariants as acts
use Rattle.wdt_sender_fsm.specs.declared.inputs.SendIn.{SendIn}
use Rattle.wdt_sender_fsm.specs.declared.inputs.SendIn.TheVariants as inputs
use Rattle.wdt_sender_fsm.specs.declared.states.SendLane.{SendLane}
use Rattle.wdt_sender_fsm.specs.declared.states.SendState.{SendState}
use Rattle.wdt_sender_fsm.specs.declared.states.SendState.TheVariants as states
use Rattle.wdt_sender_fsm.specs.Places.{tabulate}
use Rattle.wdt_sender_fsm.specs.PlainSender.{PlainSender, lane_at, past_at}
use Rattle.wdt_sender_fsm.specs.Rows.{Row, Over as RowOver, Starved, Stray, Aborted, BadFrame, SourceLost, Unexpected, is_reading}
use Rattle.wdt_sender_fsm.specs.Rules.{is_failure}
use Rattle.wdt_sender_fsm.specs.Talk.{Talk, moved}

-- what a connection is at; in each phase one end has the word
pub data Phase : Type 0 where
  -- the sender says what it is
  Open : Phase
  -- the receiver tells its count, or says its last word; whether it was asked what it has
  Met : Bool → Phase
  -- it tells what it has
  Listing : Phase
  -- the sender tells what is sent in all
  Told : Phase
  -- it sends blocks, or says that nothing more is to come
  Sending : Phase
  -- it sends so many more bytes of a block
  Mid : ℕ → Phase
  -- the receiver makes it wait, tells of closed lanes, or says its last word
  Asked : Phase
  -- the sender answers the last word
  Bye : Phase
  -- nothing more is said
  Over : Phase

-- a frame, or a piece of a block's bytes with its length
pub data Message : Type 0 where
  Framed : Frame → Message
  Piece : ℕ → Message

-- the most bytes of a piece
abbrev pub piece_most : ℕ
piece_most = PIECE

-- behind a block's header or a piece so many bytes of the block are left
abbrev pub with_left : ℕ → Phase
with_left n = if n == 0 then Sending else Mid n

-- the next piece has as many bytes as are left, up to the most
abbrev pub piece_from : ℕ → ℕ → Option Phase
piece_from left n = if n == min left piece_most then Some (with_left (left - n)) else None

-- what the sender may say
abbrev pub down : Phase → Message → Option Phase
down Open (Framed (frames.Settings settings)) = Some (Met settings.ask)
down Told (Framed (frames.Size files bytes)) = Some Sending
down Sending (Framed (frames.Block header)) = Some (with_left header.length)
down Sending (Framed frames.Done) = Some Asked
down (Mid left) (Piece n) = piece_from left n
down Bye (Framed frames.Done) = Some Over
down _ _ = None

-- the receiver told its count
abbrev pub told : Bool → Phase
told true = Listing
told false = Told

-- what the receiver may say
abbrev pub up : Phase → Frame → Option Phase
up (Met ask) (frames.Greeting mark) = Some (told ask)
up (Met ask) frames.Done = Some Bye
up Listing (frames.Chunks have) = Some Told
up Asked frames.Wait = Some Asked
up Asked (frames.ErrMarks marks) = Some Sending
up Asked frames.Done = Some Bye
up _ _ = None

-- the two ends of a connection agree
abbrev pub Agree : Phase → Phase → List Message → List Frame → Type 0
Agree = Talk down up

-- the phase after the sender said these, where each has its move
abbrev pub said : List Message → Phase → Option Phase
said = moved down

-- ---- the sender's end

-- what a sender writes for an act: of a block the header, and its bytes in pieces
abbrev pub pieces_in : ℕ → ℕ
pieces_in n = (n + (PIECE - 1)) / PIECE

-- piece k of a block of n bytes
abbrev pub piece_at : ℕ → ℕ → Message
piece_at n k = Piece (min (n - piece_most * k) piece_most)

-- a block's bytes in pieces
abbrev pub pieces_of : ℕ → List Message
pieces_of n = tabulate (pieces_in n) (piece_at n)

-- what is written by an act
abbrev pub written_by : SendAct → List Message
written_by (acts.Write frame) = Framed frame ∷ []
written_by (acts.SendBlock header) = Framed (frames.Block header) ∷ pieces_of header.length
written_by _ = []

-- nothing more is said, where that is so
abbrev pub over_if : Bool → Option Phase
over_if true = Some Over
over_if false = None

-- the phase of a lane that holds its act; a lane that has ended has one only where it is acknowledged
abbrev pub phase_by : Bool → Bool → SendState → Option Phase
phase_by ask acked states.SendSettings = Some Open
phase_by ask acked states.ReadLocalCheckpoint = Some (Met ask)
phase_by ask acked states.ReadFileChunks = Some Listing
phase_by ask acked states.SendSize = Some Told
phase_by ask acked states.SendBlocks = Some Sending
phase_by ask acked states.SendDone = Some Sending
phase_by ask acked states.ReadReceiverCmd = Some Asked
phase_by ask acked states.AnswerDone = Some Bye
phase_by ask acked states.Ended = over_if acked
phase_by ask acked _ = None

-- the phase of a lane that stands so
abbrev pub phase_of : SendLane → Bool → Option Phase
phase_of lane acked = phase_by lane.ask acked lane.state

-- the phase of a lane that wrote what its act says
abbrev pub phase_written : Bool → SendState → Option Phase
phase_written ask states.SendSettings = Some (Met ask)
phase_written ask states.SendSize = Some Sending
phase_written ask states.SendBlocks = Some Sending
phase_written ask states.SendDone = Some Asked
phase_written ask states.AnswerDone = Some Over
phase_written ask _ = None

-- the phase behind a frame that is read in a phase, where it is a move
abbrev pub phase_heard : Frame → Option Phase → Option Phase
phase_heard frame phase = option_and_then (λ p. up p frame) phase

-- the phase of a lane whose connection stands
abbrev pub phase_linked : SendState → Option Phase
phase_linked states.Connect = Some Open
phase_linked _ = None

-- the phase of a lane that holds this input: what it wrote or read counts as said
abbrev pub phase_holding : SendLane → SendIn → Option Phase
phase_holding lane inputs.Wrote = phase_written lane.ask lane.state
phase_holding lane (inputs.Got frame) = phase_heard frame (phase_by lane.ask false lane.state)
phase_holding lane inputs.Linked = phase_linked lane.state
phase_holding lane _ = None

-- the frame tells that the end has failed
abbrev pub is_abort : Frame → Bool
is_abort (frames.Abort code) = true
is_abort _ = false

-- what is written are moves of a phase that is there, and leads to the one that follows the writing
pub record Leads (messages : List Message) (phase written : Option Phase) : Type 0 where
  pub from : Phase
  pub to : Phase
  pub before : phase ≡ Some from
  pub moves : said messages from ≡ Some to
  pub after : written ≡ Some to

-- a lane that stands so has the word, and these messages lead from its phase to the one behind them
abbrev pub LeadsOn : SendLane → List Message → Type 0
LeadsOn lane messages = Leads messages (phase_of lane false) (phase_written lane.ask lane.state)

-- an act fits the lane that gets it: a lane dials where it has no connection, reads where the receiver has
-- the word, and writes what are moves of its phase; or it tells that the end has failed
abbrev pub FitsLane : SendLane → SendAct → Type 0
FitsLane lane (acts.Dial conn) = lane.state ≡ states.Connect
FitsLane lane (acts.Write frame) = ((is_abort frame ≡ true) × (lane.state ≡ states.SendAbort)) ⊎ LeadsOn lane (written_by (acts.Write frame))
FitsLane lane (acts.SendBlock header) = LeadsOn lane (written_by (acts.SendBlock header))
FitsLane lane acts.Read = is_reading lane.state ≡ true
FitsLane lane acts.Stop = Unit {0}

-- a row of the table, and not one of the rules before it
abbrev pub is_named : Row → Bool
is_named RowOver = false
is_named (Starved mute) = false
is_named Stray = false
is_named (Aborted code) = false
is_named (BadFrame at) = false
is_named (SourceLost unwritten) = false
is_named (Unexpected state command) = false
is_named _ = true

-- behind a step the end has failed, or its lane stands in this phase
abbrev pub StandsIn : Phase → Lane → PlainSender → Type 0
StandsIn phase l s = (is_failure s.answer ≡ true) ⊎ (phase_of (lane_at s l.0) (past_at s l.0).is_acked ≡ Some phase)
