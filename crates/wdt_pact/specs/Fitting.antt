-- What goes down lies in the grammar's ranges, both ends keep to theirs, and what every world without a stop keeps.
use Rattle.std.specs.Prelude.{◌≡◌, ℕ, ◌<◌, ◌≤◌, ◌-◌, ◌^◌, List, length, slice_get, Option, Some, None}
use Rattle.wdt_codec.specs.Frames.{Fits}
use Rattle.wdt_codec.specs.declared.frames.Frame.TheVariants as frames
use Rattle.wdt_sender_fsm.specs.declared.acts.SendAct.TheVariants as acts
use Rattle.wdt_sender_fsm.specs.Phases.{Message, Framed, Piece}
use Rattle.wdt_sender_fsm.specs.PlainSender as sender
use Rattle.wdt_sender_fsm.specs.Writes.{IsLawful}
use Rattle.wdt_tree.specs.declared.entry.Entry.{Entry}
use Rattle.wdt_receiver_fsm.specs.PlainReceiver as recv
use Rattle.wdt_receiver_fsm.specs.Writes.{CanTell}
use Rattle.wdt_pact.specs.Belongs.{Belongs}
use Rattle.wdt_pact.specs.Conversation.{Conversation}
use Rattle.wdt_pact.specs.Each.{Each}
use Rattle.wdt_pact.specs.Links.{Link}
use Rattle.wdt_pact.specs.Lists.{in_hand}
use Rattle.wdt_pact.specs.Pairs.{Pair, SendHold, SendDoes}
use Rattle.wdt_pact.specs.Progress.{AreCut, AreEven}
use Rattle.wdt_pact.specs.World.{PlainWorld, WorldEvent, Sends, Receives, Cut, Deny, Refuse, pair_at}

-- a message lies in the grammar's ranges
abbrev pub FitsMessage : Message → Type 0
FitsMessage (Framed frame) = Fits frame
FitsMessage (Piece n) = Unit {0}

-- what goes down on a connection is of a kind
abbrev pub DownOf : (Message → Type 0) → Link → Type 0
DownOf P k = Each P k.down.sent

-- the same, where there is one
abbrev pub DownBy : (Message → Type 0) → Option Link → Type 0
DownBy P None = Unit {0}
DownBy P (Some k) = DownOf P k

-- so is what the sender's lane is about to write: of a block its header is
abbrev pub SaysOf : (Message → Type 0) → SendHold → Type 0
SaysOf P (SendDoes (acts.Write frame)) = P (Framed frame)
SaysOf P (SendDoes (acts.SendBlock header)) = P (Framed (frames.Block header))
SaysOf P _ = Unit {0}

-- of a kind is all that the sender's lane writes, what goes down on its connections, and what the receiver's lane has read
pub record GoesDown (P : Message → Type 0) (p : Pair) : Type 0 where
  pub hand : Each P (in_hand p.recv)
  pub says : SaysOf P p.send
  pub taken : DownBy P p.taken
  pub between : Each (DownOf P) p.between
  pub newest : DownBy P p.newest

-- all of it lies in the grammar's ranges
abbrev pub FitsDown : Pair → Type 0
FitsDown = GoesDown FitsMessage

-- the sender is within its limits, each stamp is one of 64 bits, the receiver can tell what its log said as it was
-- opened, and what goes down on each lane lies in the grammar's ranges
pub record Fitting (w : PlainWorld) : Type 0 where
  pub sender : IsLawful w.sender
  pub stamps : (file : ℕ) (entry : Entry) → slice_get w.sender.manifest file ≡ Some entry → entry.stamp ≤ 2 ^ 64 - 1
  pub receiver : CanTell w.receiver
  pub down : (l : ℕ) → l < length w.pairs → FitsDown (pair_at w l)

-- The ends of each lane fit together, what each lane holds belongs to its state, what is said lies in the grammar, and
-- what was left behind is cut, in both directions.
pub record IsSound (w : PlainWorld) : Type 0 where
  pub talk : Conversation w
  pub belongs : Belongs w
  pub fits : Fitting w
  pub cut : (l : ℕ) → l < length w.pairs → AreCut (sender.state_at w.sender l) (recv.state_at w.receiver l) (pair_at w l)
  pub even : (l : ℕ) → l < length w.pairs → AreEven (pair_at w l)

-- the lane that an event is of
abbrev pub lane_of : WorldEvent → ℕ
lane_of (Sends l lost) = l
lane_of (Receives l broken) = l
lane_of (Cut l down up) = l
lane_of (Deny l) = l
lane_of (Refuse l) = l

-- each of some events is of one of n lanes
abbrev pub AreOfLanes : ℕ → List WorldEvent → Type 0
AreOfLanes n es = Each (λ (e : WorldEvent). lane_of e < n) es
