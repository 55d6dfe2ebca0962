-- What holds in every world without a stop: how the two ends of each lane fit together.
use Rattle.std.specs.Prelude.{◌≡◌, ℕ, ◌<◌, ◌≤◌, ◌||◌, min, Bool, true, false, List, []}
use Rattle.std.specs.Prelude.{◌∷◌, ◌++◌, length, map, slice_get, is_some, Option, Some, None, option_map, if◌then◌else◌}
use Rattle.wdt_units.specs.Have.{HaveFile}
use Rattle.wdt_units.specs.declared.blocks.Block.{Block}
use Rattle.wdt_units.specs.declared.blocks.Header.{Header}
use Rattle.wdt_codec.specs.Frames.{Fits}
use Rattle.wdt_codec.specs.declared.frames.Frame.{Frame}
use Rattle.wdt_codec.specs.declared.frames.Frame.TheVariants as frames
use Rattle.wdt_codec.specs.declared.frames.Mark.{Mark}
use Rattle.wdt_tree.specs.declared.entry.Entry.{Entry}
use Rattle.wdt_logfmt.specs.Beginning.{KnownFile, known_at}
use Rattle.wdt_sender_fsm.specs.declared.inputs.SendIn.TheVariants as inputs
use Rattle.wdt_sender_fsm.specs.declared.states.SendLane.{SendLane}
use Rattle.wdt_sender_fsm.specs.declared.states.SendState.{SendState}
use Rattle.wdt_sender_fsm.specs.declared.states.SendState.TheVariants as states
use Rattle.wdt_sender_fsm.specs.Phases.{Phase, Framed, is_abort, phase_by, phase_heard, piece_most}
use Rattle.wdt_sender_fsm.specs.PlainSender.{PlainSender, lane_at, past_at, header_by}
use Rattle.wdt_sender_fsm.specs.Sender.{IsSender}
use Rattle.wdt_sender_fsm.specs.SenderHistory.{LanePast}
use Rattle.wdt_receiver_fsm.specs.declared.acts.RecvAct.TheVariants as recv_acts
use Rattle.wdt_receiver_fsm.specs.declared.inputs.RecvIn.TheVariants as recv_inputs
use Rattle.wdt_receiver_fsm.specs.declared.states.RecvLane.{RecvLane}
use Rattle.wdt_receiver_fsm.specs.declared.states.RecvState.{RecvState}
use Rattle.wdt_receiver_fsm.specs.declared.states.RecvState.TheVariants as recv_states
use Rattle.wdt_receiver_fsm.specs.Phases as recv_phases
use Rattle.wdt_receiver_fsm.specs.PlainReceiver.{PlainReceiver, has_finish, have_now}
use Rattle.wdt_receiver_fsm.specs.PlainReceiver as recv
use Rattle.wdt_receiver_fsm.specs.Receiver.{IsReceiver}
use Rattle.wdt_receiver_fsm.specs.ReceiverHistory.{RecvPast}
use Rattle.wdt_pact.specs.Each.{Each}
use Rattle.wdt_pact.specs.Links.{Link}
use Rattle.wdt_pact.specs.Pairs.{SendHold, SendHas, RecvHold, RecvDoes, RecvHas, RecvTook, Pair, top_by}
use Rattle.wdt_pact.specs.World.{PlainWorld, pair_at}
use Rattle.wdt_pact.specs.Stances.{Stance, Talks, Silent, Agrees, IsLate, send_stance, recv_stance}
use Rattle.wdt_pact.specs.Lists.{Splits, in_hand, ListsBy, UnsentBy, AskedBy}

-- ---- what of an end a lane's part speaks of

-- the sender's side of a lane: the blocks that it keeps are told of by headers
pub record Sending : Type 0 where
  pub lane : SendLane
  pub past : LanePast
  pub kept : List Header

-- the receiver's side of a lane: so are the blocks that landed, and the one that is begun
pub record Receiving : Type 0 where
  pub lane : RecvLane
  pub past : RecvPast
  pub landed : List Header
  pub begun : Option Header

-- what all lanes know of the receiver: what the destination had, whether the finish has come, and of each
-- closed lane how many blocks have landed. It only grows.
pub record Common : Type 0 where
  pub have : List HaveFile
  pub finish : Bool
  pub closed : ℕ → Option ℕ

-- it has grown, and the finish hasn't come meanwhile
pub record Grows (old new : Common) : Type 0 where
  pub have : new.have ≡ old.have
  pub finish : new.finish ≡ old.finish
  pub closed : (l n : ℕ) → old.closed l ≡ Some n → new.closed l ≡ Some n

-- what is told of a block of the sender's tree
abbrev pub sent_header : List Entry → Block → Header
sent_header manifest b = header_by (slice_get manifest b.file) b

-- what was told of a block of a file that the receiver knows
abbrev pub header_from : Option KnownFile → Block → Header
header_from None b = record { path = []; size = 0; stamp = 0; offset = b.offset; length = b.length }
header_from (Some file) b = record { path = file.path; size = file.size; stamp = file.stamp; offset = b.offset; length = b.length }

-- what was told of a block, by the files that the receiver knows
abbrev pub known_header : List (Option KnownFile) → Block → Header
known_header known b = header_from (known_at known b.file) b

-- the sender's side of a lane that stands so
abbrev pub sending_of : List Entry → SendLane → LanePast → Sending
sending_of manifest lane past = record { lane = lane; past = past; kept = map (sent_header manifest) past.claims.kept }

-- the sender's side of lane l
abbrev pub sending : PlainSender → ℕ → Sending
sending s l = sending_of s.manifest (lane_at s l) (past_at s l)

-- the receiver's side of a lane that stands so
abbrev pub receiving_of : List (Option KnownFile) → RecvLane → RecvPast → Receiving
receiving_of known lane past =
    record { lane = lane; past = past; landed = map (known_header known) past.landed; begun = option_map (known_header known) past.begun }

-- the receiver's side of lane l
abbrev pub receiving : PlainReceiver → ℕ → Receiving
receiving r l = receiving_of r.known (recv.lane_at r l) (recv.past_at r l)

-- how many blocks have landed on a lane, where it is closed
abbrev pub closed_by : RecvPast → Option ℕ
closed_by past = if past.is_closed then Some (length past.landed) else None

-- what all lanes know of a receiver
abbrev pub common : PlainReceiver → Common
common r = record { have = have_now r.opening r.history; finish = has_finish r; closed = λ l. closed_by (recv.past_at r l) }

-- each block that landed on a lane, or is begun, is of a file that the receiver knows
pub record IsNamed (known : List (Option KnownFile)) (past : RecvPast) : Type 0 where
  pub landed : Each (λ (b : Block). is_some (known_at known b.file) ≡ true) past.landed
  pub begun : (b : Block) → past.begun ≡ Some b → is_some (known_at known b.file) ≡ true

-- ---- what goes up

-- a mark tells of another lane, which is closed, how many of its blocks have landed
abbrev pub Marks : Common → ℕ → Mark → Type 0
Marks g l m = (g.closed m.lane.0 ≡ Some m.count) × ((m.lane.0 ≡ l) → ⊥)

-- what is told of the receiver on lane l, where so much has landed, is so
abbrev pub Tells : Common → ℕ → List Header → Frame → Type 0
Tells g l landed (frames.Greeting m) = (m.lane.0 ≡ l) × (m.count ≡ length landed)
Tells g l landed (frames.Chunks have) = have ≡ g.have
Tells g l landed (frames.ErrMarks ms) = Each (Marks g l) ms
Tells g l landed frames.Done = g.finish ≡ true
Tells g l landed _ = Unit {0}

-- what the sender's lane has read and not stepped
abbrev pub send_in_hand : SendHold → List Frame
send_in_hand (SendHas (inputs.Got frame)) = frame ∷ []
send_in_hand _ = []

-- what the receiver's lane is about to write
abbrev pub to_say : RecvHold → List Frame
to_say (RecvDoes (recv_acts.Write frame)) = frame ∷ []
to_say _ = []

-- what goes up on a connection
abbrev pub up_sent : Option Link → List Frame
up_sent None = []
up_sent (Some k) = k.up.sent

-- only where the receiver took the sender's connection it says something there
abbrev pub said_there : Option Link → List Frame → List Frame
said_there None us = us
said_there (Some t) us = []

-- on the connection of the sender: read and not stepped, on its way, and about to be written
abbrev pub upward_by : Option Link → Option Link → SendHold → RecvHold → List Frame
upward_by newest taken s r = send_in_hand s ++ (up_sent (top_by newest taken) ++ said_there newest (to_say r))

-- it holds of each frame, where the sender listens
abbrev pub AllTell : Stance → (Frame → Type 0) → List Frame → Type 0
AllTell (Talks p) Tell us = Each Tell us
AllTell _ Tell us = Unit {0}

-- ---- what is known of the sender's connection

-- the connection knows whether the sender was told its count on it
abbrev pub Notes : SendState → SendHold → (is_greeted greeted : Bool) → Type 0
Notes states.Connect (SendHas inputs.Linked) is_greeted greeted = greeted ≡ false
Notes states.Connect held is_greeted greeted = Unit {0}
Notes states.SendAbort held is_greeted greeted = Unit {0}
Notes states.Ended held is_greeted greeted = Unit {0}
Notes state held is_greeted greeted = greeted ≡ is_greeted

-- the same, where there is one
abbrev pub NotesBy : SendState → SendHold → LanePast → Option Link → Type 0
NotesBy state held past None = Unit {0}
NotesBy state held past (Some k) = Notes state held past.is_greeted k.greeted

-- ---- what was read

-- it leads to a phase, or it need not
abbrev pub IsWord : Option Phase → Bool → Type 0
IsWord (Some p) free = Unit {0}
IsWord None true = Unit {0}
IsWord None false = ⊥

-- the sender's lane is through, or about to say that its end failed
abbrev pub is_send_out : SendState → Bool
is_send_out states.SendAbort = true
is_send_out states.Ended = true
is_send_out _ = false

-- a frame that the sender's lane has read is a move of its phase, or tells of a failure
abbrev pub HeardUp : SendHold → SendLane → Type 0
HeardUp (SendHas (inputs.Got frame)) lane = IsWord (phase_heard frame (phase_by lane.ask false lane.state)) (is_send_out lane.state || is_abort frame)
HeardUp _ lane = Unit {0}

-- the receiver's lane is through, or about to say that its end failed
abbrev pub is_recv_out : RecvState → Bool
is_recv_out recv_states.SendAbort = true
is_recv_out recv_states.Ended = true
is_recv_out _ = false

-- a frame or a piece that the receiver's lane has read is a move of its phase, or tells of a failure
abbrev pub HeardDown : RecvHold → RecvLane → Bool → Type 0
HeardDown (RecvHas (recv_inputs.Got frame)) lane idle = IsWord (recv_phases.phase_heard (Framed frame) (recv_phases.phase_by lane idle false lane.state)) (is_recv_out lane.state || is_abort frame)
HeardDown (RecvTook n) lane idle = IsWord (recv_phases.phase_taking lane n) (is_recv_out lane.state)
HeardDown _ lane idle = Unit {0}

-- ---- closed lanes, and the finish

-- what the sender knows as closed the receiver has closed, and both lists are one
pub record Closed (kept landed : List Header) (is_closed : Bool) : Type 0 where
  pub there : is_closed ≡ true
  pub same : Splits kept landed []

-- behind the finish all that the lane has claimed has landed, and it holds no block
pub record Final (kept landed : List Header) (held : Bool) : Type 0 where
  pub same : Splits kept landed []
  pub holds : held ≡ false

-- a frame tells of no closed lanes
abbrev pub IsNoMarks : Frame → Type 0
IsNoMarks (frames.ErrMarks ms) = ⊥
IsNoMarks _ = Unit {0}

-- a lane that is idle at the receiver, whatever that holds now: all that it has claimed has landed, the sender
-- has said its last word there, and nothing on its way makes it go on
pub record IsIdle (kept landed : List Header) (held : Bool) (newest : Option Link) (ss : Stance) (up : List Frame) : Type 0 where
  pub same : Splits kept landed []
  pub holds : held ≡ false
  pub late : newest ≡ None → IsLate ss
  pub quiet : AllTell ss IsNoMarks up

-- a lane that the receiver has closed says nothing more there, and has begun no block
pub record Shut (rs : Stance) (begun : Option Header) : Type 0 where
  pub silent : rs ≡ Silent
  pub none : begun ≡ None

-- ---- pieces

-- the piece that is wanted, and that was taken, is the next one
abbrev pub Pieces : ℕ → RecvHold → Type 0
Pieces left (RecvDoes (recv_acts.TakePiece n)) = n ≡ min left piece_most
Pieces left (RecvTook n) = n ≡ min left piece_most
Pieces left _ = Unit {0}

-- ---- connections that wait

-- the sender wasn't told its count on it
abbrev pub IsFresh : Link → Type 0
IsFresh k = k.greeted ≡ false

-- the same, where there is one
abbrev pub FreshBy : Option Link → Type 0
FreshBy None = Unit {0}
FreshBy (Some t) = IsFresh t

-- on none of them the sender was told its count, and the sender's is the last of them
pub record Waits (between : List Link) (newest : Option Link) : Type 0 where
  pub fresh : Each IsFresh between
  pub fresh_newest : FreshBy newest
  pub order : newest ≡ None → between ≡ []

-- ---- a lane

-- the two ends' stances on their connections
abbrev pub sends : Sending → Pair → Stance
sends s p = send_stance s.lane s.past.is_acked p.send

-- and the receiver's
abbrev pub receives : Receiving → Pair → Stance
receives r p = recv_stance r.lane r.past.is_idle r.past.is_acked p.recv

-- the two ends of lane l fit together
pub record Converses (g : Common) (l : ℕ) (s : Sending) (r : Receiving) (p : Pair) : Type 0 where
  -- what is on its way leads from one end's phase to the other's
  pub agrees : Agrees (sends s p) (receives r p) p.taken p.between p.newest
  -- what was claimed is what has landed, what flies, and what isn't sent yet
  pub lists : ListsBy (receives r p) p.taken s.kept r.landed r.begun (in_hand p.recv) (UnsentBy p.newest s.lane.state p.send)
  -- what has surely landed has landed
  pub sure : s.past.claims.sure ≤ length r.landed
  -- what goes up to a sender that listens is true
  pub upward : AllTell (sends s p) (Tells g l r.landed) (upward_by p.newest p.taken p.send p.recv)
  -- and lies in the grammar's ranges
  pub fits : Each Fits (upward_by p.newest p.taken p.send p.recv)
  pub notes : NotesBy s.lane.state p.send s.past (top_by p.newest p.taken)
  pub closed : is_some s.past.claims.closed ≡ true → Closed s.kept r.landed r.past.is_closed
  -- behind a last word that is read or on its way nothing is left to send
  pub asked : AskedBy (receives r p) p.taken s.kept r.landed r.begun (in_hand p.recv) s.past.claims.held
  pub finished : g.finish ≡ true → Final s.kept r.landed s.past.claims.held
  pub pieces : Pieces r.lane.left p.recv
  pub waits : Waits p.between p.newest
  pub idle : r.past.is_idle ≡ true → IsIdle s.kept r.landed s.past.claims.held p.newest (sends s p) (upward_by p.newest p.taken p.send p.recv)
  pub shut : r.past.is_closed ≡ true → Shut (receives r p) r.begun
  pub heard_up : HeardUp p.send s.lane
  pub heard_down : HeardDown p.recv r.lane r.past.is_idle

-- the two ends of lane l of a world fit together
abbrev pub ConversesAt : PlainWorld → ℕ → Type 0
ConversesAt w l = Converses (common w.receiver) l (sending w.sender l) (receiving w.receiver l) (pair_at w l)

-- each end is as its steps leave it, both have as many lanes as the world, and the ends of each fit together
pub record Conversation (w : PlainWorld) : Type 0 where
  pub sender : IsSender w.sender
  pub receiver : IsReceiver w.receiver
  pub send_lanes : length w.sender.lanes ≡ length w.pairs
  pub recv_lanes : length w.receiver.lanes ≡ length w.pairs
  pub named : (l : ℕ) → l < length w.pairs → IsNamed w.receiver.known (recv.past_at w.receiver l)
  pub lanes : (l : ℕ) → l < length w.pairs → ConversesAt w l
