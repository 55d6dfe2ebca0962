-- What the sender says of itself, of all that is sent and of its blocks is so, and what the receiver knows of it is what it said.
use Rattle.std.specs.Prelude.{◌≡◌, ◌⊎◌, ℕ, ◌<◌, ◌≤◌, true, List, [], ◌∷◌, ◌++◌, length, sum_by, Option, Some, None}
use Rattle.wdt_codec.specs.declared.frames.Frame.{Frame}
use Rattle.wdt_codec.specs.declared.frames.Frame.TheVariants as frames
use Rattle.wdt_codec.specs.declared.frames.Settings.{Settings}
use Rattle.wdt_logfmt.specs.Beginning.{KnownFile, known_at, known_files}
use Rattle.wdt_logfmt.specs.View.{NamedFile, is_view}
use Rattle.wdt_rest.specs.Fitting.{found_in}
use Rattle.wdt_sender_fsm.specs.declared.acts.SendAct.TheVariants as acts
use Rattle.wdt_sender_fsm.specs.Phases.{Message, Framed, Piece}
use Rattle.wdt_sender_fsm.specs.PlainSender.{PlainSender, past_at}
use Rattle.wdt_tree.specs.declared.entry.Entry.{Entry}
use Rattle.wdt_tree.specs.Listing.{size_of}
use Rattle.wdt_receiver_fsm.specs.PlainReceiver as recv
use Rattle.wdt_receiver_fsm.specs.ReceiverHistory.{end_of}
use Rattle.wdt_pact.specs.Fitting.{GoesDown}
use Rattle.wdt_pact.specs.Links.{Link}
use Rattle.wdt_pact.specs.Lists.{in_hand}
use Rattle.wdt_pact.specs.Pairs.{Pair, SendHold, SendDoes}
use Rattle.wdt_pact.specs.World.{PlainWorld, pair_at}

-- ---- what is said of the transfer

-- what a sender is, whatever its steps: its tree, the greatest length of a block, the transfer's number, and how many lanes it has
pub record Transfer : Type 0 where
  pub manifest : List Entry
  pub block : ℕ
  pub session : ℕ
  pub lanes : ℕ

-- a sender's
abbrev pub transfer_of : PlainSender → Transfer
transfer_of s = record { manifest = s.manifest; block = s.block; session = s.session; lanes = length s.lanes }

-- how many files and bytes a tree has
abbrev pub totals_of : List Entry → ℕ × ℕ
totals_of manifest = (length manifest, sum_by size_of manifest)

-- settings of lane l of a transfer
pub record IsOwn (t : Transfer) (l : ℕ) (s : Settings) : Type 0 where
  pub version : s.version ≡ 1
  pub session : s.session ≡ t.session
  pub lane : s.lane.0 ≡ l
  pub lanes : s.lanes ≡ t.lanes
  pub block : s.block ≡ t.block

-- a message of lane l tells what is so: of the transfer, of all that is sent, and of a file of the tree
abbrev pub IsTrueOf : Transfer → ℕ → Message → Type 0
IsTrueOf t l (Framed (frames.Settings s)) = IsOwn t l s
IsTrueOf t l (Framed (frames.Size files bytes)) = (files, bytes) ≡ totals_of t.manifest
IsTrueOf t l (Framed (frames.Block h)) = found_in t.manifest h.path ≡ Some (h.size, h.stamp)
IsTrueOf t l message = Unit {0}

-- ---- the numbers of connections

-- the number that a frame tells, and others
abbrev pub conn_by : Frame → List ℕ → List ℕ
conn_by (frames.Settings s) ns = s.conn.0 ∷ ns
conn_by _ ns = ns

-- the numbers that messages tell
abbrev pub conns_in : List Message → List ℕ
conns_in [] = []
conns_in (Framed frame ∷ ms) = conn_by frame (conns_in ms)
conns_in (Piece n ∷ ms) = conns_in ms

-- those that go down on a connection
abbrev pub conns_on : Option Link → List ℕ
conns_on None = []
conns_on (Some k) = conns_in k.down.sent

-- those that go down on connections, one after the other
abbrev pub conns_along : List Link → List ℕ
conns_along [] = []
conns_along (k ∷ ks) = conns_in k.down.sent ++ conns_along ks

-- the number that the sender's lane is about to tell
abbrev pub conns_said : SendHold → List ℕ
conns_said (SendDoes (acts.Write frame)) = conn_by frame []
conns_said _ = []

-- the numbers on their way between two ends, in the order in which they were told
abbrev pub conns_of : Pair → List ℕ
conns_of p = conns_in (in_hand p.recv) ++ (conns_on p.taken ++ (conns_along p.between ++ (conns_on p.newest ++ conns_said p.send)))

-- numbers rise from above the first on, to the last at most
abbrev pub Climbs : ℕ → List ℕ → ℕ → Type 0
Climbs low [] high = low ≤ high
Climbs low (n ∷ ns) high = (low < n) × Climbs n ns high

-- ---- what the receiver knows

-- a file is one of the tree, or one that the log named as it was opened
abbrev pub IsKnownOf : List Entry → List NamedFile → KnownFile → Type 0
IsKnownOf manifest opening file = (found_in manifest file.path ≡ Some (file.size, file.stamp)) ⊎ ((number : ℕ) × (known_at (known_files opening) number ≡ Some file))

-- ---- a world

pub record Meeting (w : PlainWorld) : Type 0 where
  -- what the sender says on each lane is so
  pub says : (l : ℕ) → l < length w.pairs → GoesDown (IsTrueOf (transfer_of w.sender) l) (pair_at w l)
  -- the numbers that it tells of its connections are above those that were read, rise, and are none of connections to come
  pub conns : (l : ℕ) → l < length w.pairs → Climbs (recv.lane_at w.receiver l).conn (conns_of (pair_at w l)) (past_at w.sender l).connections
  -- the settings and totals that the receiver read first are the sender's, and the files that it knows are of the tree or of the log
  pub met : (s : Settings) → (end_of w.receiver.history).met ≡ Some s → (s.session ≡ w.sender.session) × (s.block ≡ w.sender.block)
  pub sized : (totals : ℕ × ℕ) → (end_of w.receiver.history).sized ≡ Some totals → totals ≡ totals_of w.sender.manifest
  pub known : (number : ℕ) (file : KnownFile) → known_at w.receiver.known number ≡ Some file → IsKnownOf w.sender.manifest w.receiver.opening file
  -- each path is known once, where the log is one that can be read; and its files keep their numbers
  pub once : is_view w.receiver.opening ≡ true → (i j : ℕ) (x y : KnownFile) → known_at w.receiver.known i ≡ Some x → known_at w.receiver.known j ≡ Some y → x.path ≡ y.path → i ≡ j
  pub numbers : (number : ℕ) (file : KnownFile) → known_at (known_files w.receiver.opening) number ≡ Some file → known_at w.receiver.known number ≡ Some file
