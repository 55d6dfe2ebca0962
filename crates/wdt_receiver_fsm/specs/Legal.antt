-- Which entries may follow a receiver's history, and which histories are legal.
use Rattle.std.specs.Prelude.{◌≡◌, ◌≢◌, ◌⊎◌, ℕ, ◌+◌, ◌<◌, ◌≤◌, Bool, true, false, List, [], ◌∷◌, ◌++◌, length, slice_get, Option, Some, None}
use Rattle.std.proofs.Common.{subst, sym, append_assoc, append-nil}
use Rattle.std.specs.List.{flat_map}
use Rattle.wdt_units.specs.declared.limits.TheConstants.{MAX_CONNECTIONS, MAX_TRIES}
use Rattle.wdt_units.specs.declared.blocks.Block.{Block}
use Rattle.wdt_units.specs.declared.blocks.Header.{Header}
use Rattle.wdt_units.specs.declared.numbers.Lane.{Lane}
use Rattle.wdt_codec.specs.declared.frames.Frame.{Frame}
use Rattle.wdt_codec.specs.declared.frames.Settings.{Settings}
use Rattle.wdt_logfmt.specs.Beginning.{KnownFile, first_taken}
use Rattle.wdt_logfmt.specs.Marks.{Marked, bytes_in, files_in, marks_of}
use Rattle.wdt_logfmt.specs.View.{NamedFile}
use Rattle.wdt_sender_fsm.specs.declared.peers.PeerKind.{PeerKind}
use Rattle.wdt_sender_fsm.specs.declared.peers.PeerKind.TheVariants as peers
use Rattle.wdt_receiver_fsm.specs.declared.events.RecvEvent.{RecvEvent}
use Rattle.wdt_receiver_fsm.specs.declared.events.RecvEvent.TheVariants as events
use Rattle.wdt_receiver_fsm.specs.declared.inputs.RecvIn.TheVariants.{Got}
use Rattle.wdt_receiver_fsm.specs.declared.states.RecvState.{RecvState}
use Rattle.wdt_receiver_fsm.specs.declared.states.RecvState.TheVariants as states
use Rattle.wdt_receiver_fsm.specs.Frames.{block_fault, most_landed, settings_fault, short_fault, size_fault}
use Rattle.wdt_receiver_fsm.specs.Ready.{is_ready, untold}
use Rattle.wdt_receiver_fsm.specs.ReceiverHistory.{EndPast, RecvPast, begun_list, end_of, lane_of, landed_of, past_of, with_begun}
use Rattle.wdt_receiver_fsm.specs.Rows.{Unexpected, row_of}
use Rattle.wdt_receiver_fsm.specs.Sets.{numbers, set_of}

-- What a history is judged by beside itself: the number of lanes, what the log said as it was opened,
-- the files by number, and of each lane the greatest number of a connection that was read on it.
pub record Terms : Type 0 where
  pub lanes : ℕ
  pub opening : List NamedFile
  pub known : List (Option KnownFile)
  pub conns : List ℕ

-- a number that was read, 0 where none was
abbrev pub number_or_none : Option ℕ → ℕ
number_or_none None = 0
number_or_none (Some n) = n

-- the greatest number of a connection that was read on a lane
abbrev pub conn_at : Terms → ℕ → ℕ
conn_at t l = number_or_none (slice_get t.conns l)

-- ---- whose turn it may be

-- an entry of a lane may stand: the lane is one of n and isn't closed, given up or acknowledged, and it
-- has a connection or, for some entries, has none
pub record MaySpeak (n : ℕ) (g : List RecvEvent) (l : ℕ) (is_up : Bool) : Type 0 where
  pub within : l < n
  pub closed : (past_of g l).is_closed ≡ false
  pub quit : (past_of g l).has_quit ≡ false
  pub acked : (past_of g l).is_acked ≡ false
  pub link : (past_of g l).is_up ≡ is_up

-- an entry that has no lane may stand at any time, and one that has where its lane may speak
abbrev pub MayBe : ℕ → List RecvEvent → Option ℕ → Bool → Type 0
MayBe n g None is_up = Unit {0}
MayBe n g (Some l) is_up = MaySpeak n g l is_up

-- an entry stands where its lane has a connection, but for those that make one or do without
abbrev pub needs_link : RecvEvent → Bool
needs_link (events.Take l c) = false
needs_link (events.NoLink l) = false
needs_link (events.Close l) = false
needs_link (events.Quit l) = false
needs_link _ = true

-- ---- blocks

-- what is named and there
abbrev pub marks_by : Terms → List RecvEvent → List Marked
marks_by t g = marks_of t.opening (landed_of g)

-- the lane's block that is on its way
abbrev pub begun_on : List RecvEvent → ℕ → List Block
begun_on g l = begun_list (past_of g l).begun

-- the blocks that are on their way
abbrev pub begun_of : ℕ → List RecvEvent → List Block
begun_of n g = flat_map (begun_on g) (numbers n)

-- a block may begin: the finish hasn't come, the lane isn't idle and has no begun block, fewer than
-- 1,048,576 have landed on it, and no position of the block is there or on its way; an empty block's
-- file isn't named or on its way
pub record MayBegin (t : Terms) (g : List RecvEvent) (l : ℕ) (b : Block) : Type 0 where
  pub finish : (end_of g).has_finish ≡ false
  pub idle : (past_of g l).is_idle ≡ false
  pub begun : (past_of g l).begun ≡ None
  pub few : length (past_of g l).landed < most_landed
  pub clear : first_taken (marks_by t g) (begun_of t.lanes g) b ≡ None

-- ---- where a lane reads

-- it reads what comes next: the sender said what it is, the finish hasn't come, and more may come of it
pub record ReadsNext (past : RecvPast) (end : EndPast) : Type 0 where
  pub begun : past.begun ≡ None
  pub idle : past.is_idle ≡ false
  pub met : end.met ≢ None
  pub finish : end.has_finish ≡ false

-- a lane with such a past may read in this state, where the totals were read on its connection or not
abbrev pub ReadsIn : RecvState → Bool → RecvPast → EndPast → Type 0
ReadsIn states.ReadSettings sized past end = (past.begun ≡ None) × (past.is_idle ≡ false) × (sized ≡ false)
ReadsIn states.ReadNextCmd sized past end = ReadsNext past end × (sized ≡ true → end.sized ≢ None)
ReadsIn states.ReadAck sized past end = (past.begun ≡ None) × (end.has_finish ≡ true)
ReadsIn _ sized past end = ⊥

-- it may read in some state
pub record MayRead (past : RecvPast) (end : EndPast) : Type 0 where
  pub at : RecvState
  pub sized : Bool
  pub reads : ReadsIn at sized past end

-- the lane reads so behind this history
abbrev pub ReadsAt : RecvState → Bool → List RecvEvent → ℕ → Type 0
ReadsAt at sized g l = ReadsIn at sized (past_of g l) (end_of g)

-- ---- what the sender may not say

-- a frame that has no row in a state in which the lane may read
pub record IsUnexpected (g : List RecvEvent) (l state command : ℕ) : Type 0 where
  pub at : RecvState
  pub frame : Frame
  pub sized : Bool
  pub reads : ReadsAt at sized g l
  pub row : row_of sized at (Got frame) ≡ Unexpected state command

-- settings with a wrong field
pub record IsBadSettings (t : Terms) (g : List RecvEvent) (l field : ℕ) : Type 0 where
  pub settings : Settings
  pub reads : ReadsAt states.ReadSettings false g l
  pub wrong : settings_fault t.lanes (end_of g).met l (conn_at t l) settings ≡ Some field

-- totals that aren't the first
pub record IsOtherSize (g : List RecvEvent) (l : ℕ) (kind : PeerKind) : Type 0 where
  pub files : ℕ
  pub bytes : ℕ
  pub reads : ReadsAt states.ReadNextCmd false g l
  pub wrong : size_fault (end_of g).sized files bytes ≡ Some kind

-- a block that may not begin
pub record IsBadBlock (t : Terms) (g : List RecvEvent) (l : ℕ) (kind : PeerKind) : Type 0 where
  pub header : Header
  pub reads : ReadsAt states.ReadNextCmd true g l
  pub wrong : block_fault t.known (marks_by t g) (begun_of t.lanes g) (length (past_of g l).landed) header ≡ Some kind

-- the lane is idle and the finish ready, or it reads what comes next, and the finish is ready once it is idle
abbrev pub IsReadyOn : Terms → List RecvEvent → Lane → Type 0
IsReadyOn t g l =
    (((past_of g l.0).is_idle ≡ true) × (is_ready t.lanes g ≡ true))
    ⊎ (ReadsAt states.ReadNextCmd true g l.0 × (is_ready t.lanes (g ++ events.Idle l ∷ []) ≡ true))

-- the finish hadn't come and was ready, and what is there isn't what was to be sent
pub record IsShort (t : Terms) (g : List RecvEvent) (l : Lane) (kind : PeerKind) : Type 0 where
  pub first : (end_of g).has_finish ≡ false
  pub ready : IsReadyOn t g l
  pub wrong : short_fault (end_of g).sized (files_in (marks_by t g)) (bytes_in (marks_by t g)) ≡ Some kind

-- what a receiver may say that the sender did wrong
abbrev pub IsFault : Terms → List RecvEvent → Lane → PeerKind → Type 0
IsFault t g l (peers.BadFrame at) = MayRead (past_of g l.0) (end_of g)
IsFault t g l (peers.Unexpected state command) = IsUnexpected g l.0 state command
IsFault t g l (peers.BadSettings field) = IsBadSettings t g l.0 field
IsFault t g l (peers.SizesDiffer files bytes told_files told_bytes) = IsOtherSize g l.0 (peers.SizesDiffer files bytes told_files told_bytes)
IsFault t g l (peers.Overlap offset) = IsBadBlock t g l.0 (peers.Overlap offset)
IsFault t g l (peers.SizeDiffers size stamp told_size told_stamp) = IsBadBlock t g l.0 (peers.SizeDiffers size stamp told_size told_stamp)
IsFault t g l (peers.OverLimit count) = IsBadBlock t g l.0 (peers.OverLimit count)
IsFault t g l (peers.Short files bytes told_files told_bytes) = IsShort t g l (peers.Short files bytes told_files told_bytes)
IsFault t g l _ = ⊥

-- ---- each entry

-- the finish is ready, and what is there is what was to be sent
pub record MayFinish (t : Terms) (g : List RecvEvent) : Type 0 where
  pub first : (end_of g).has_finish ≡ false
  pub ready : is_ready t.lanes g ≡ true
  pub whole : (end_of g).sized ≡ Some (files_in (marks_by t g), bytes_in (marks_by t g))

-- the lane took as many connections as it may have, or as many tries failed
abbrev pub IsUsedUp : List RecvEvent → ℕ → Type 0
IsUsedUp g l = (MAX_CONNECTIONS ≤ (past_of g l).takes) ⊎ (MAX_TRIES ≤ (past_of g l).failed_tries)

-- what else must hold for an entry
abbrev pub Fits : Terms → List RecvEvent → RecvEvent → Type 0
Fits t g (events.Take l c) = (c.0 ≡ (past_of g l.0).takes + 1) × (c.0 ≤ MAX_CONNECTIONS)
Fits t g (events.NoLink l) = (past_of g l.0).failed_tries < MAX_TRIES
Fits t g (events.Met l s) = ((end_of g).met ≡ None) × (settings_fault t.lanes None l.0 0 s ≡ None)
Fits t g (events.Sized l files bytes) = ((end_of g).sized ≡ None) × ((end_of g).met ≢ None)
Fits t g (events.Begin l b) = MayBegin t g l.0 b
Fits t g (events.Land l) = (past_of g l.0).begun ≢ None
Fits t g (events.Dropped l) = Unit {0}
Fits t g (events.Idle l) = (past_of g l.0).begun ≡ None
Fits t g (events.Told l set) = ((past_of g l.0).is_idle ≡ true) × (set ≡ set_of (untold t.lanes g l.0)) × (untold t.lanes g l.0 ≢ [])
Fits t g (events.Close l) = ((end_of g).has_finish ≡ false) × IsUsedUp g l.0
Fits t g events.Finish = MayFinish t g
Fits t g (events.Acked l) = (end_of g).has_finish ≡ true
Fits t g (events.Quit l) = ((end_of g).has_finish ≡ true) × IsUsedUp g l.0
Fits t g (events.Abort l code) = MayRead (past_of g l.0) (end_of g)
Fits t g (events.Peer l kind) = IsFault t g l kind

-- an entry is allowed by those before it: the end met no fault, it may be its lane's turn, and it fits
pub record IsAllowed (t : Terms) (g : List RecvEvent) (e : RecvEvent) : Type 0 where
  pub fault : (end_of g).has_fault ≡ false
  pub speaks : MayBe t.lanes g (lane_of e) (needs_link e)
  pub fits : Fits t g e

-- each entry behind a history is allowed by those before it
abbrev pub legal_from : Terms → List RecvEvent → List RecvEvent → Type 0
legal_from t before [] = Unit {0}
legal_from t before (e ∷ es) = IsAllowed t before e × legal_from t (before ++ e ∷ []) es

-- each entry is allowed by those before it
unfoldable pub IsLegal : Terms → List RecvEvent → Type 0
IsLegal t g = legal_from t [] g

legal_from-more : (t : Terms) (b g : List RecvEvent) (e : RecvEvent) → legal_from t b g → IsAllowed t (b ++ g) e → legal_from t b (g ++ e ∷ [])
legal_from-more t b [] e l a = (subst (λ (x : List RecvEvent). IsAllowed t x e) (append-nil b) a, tt)
legal_from-more t b (d ∷ g) e l a = (l.0, legal_from-more t (b ++ d ∷ []) g e l.1 (subst (λ (x : List RecvEvent). IsAllowed t x e) (sym (append_assoc b (d ∷ []) g)) a))

-- a legal history with an entry that it allows
pub IsLegal-more : (t : Terms) (g : List RecvEvent) (e : RecvEvent) → IsLegal t g → IsAllowed t g e → IsLegal t (g ++ e ∷ [])
unfolding IsLegal
IsLegal-more t g e l a = legal_from-more t [] g e l a

-- nothing has happened
pub IsLegal-none : (t : Terms) → IsLegal t []
unfolding IsLegal
IsLegal-none t = tt

-- ---- what a legal history says of a lane

-- a lane with no connection has no begun block, isn't idle, and tells of no closed lane
pub record IsOff (past : RecvPast) : Type 0 where
  pub begun : past.begun ≡ None
  pub idle : past.is_idle ≡ false
  pub telling : past.telling ≡ []

-- what has landed on a lane, with the block that is begun, has its place in a frame; a lane with no connection
-- is off; an idle lane tells of no closed lane; and a lane that is closed or given up has no connection, and isn't
-- acknowledged where it is closed
pub record IsSound (past : RecvPast) : Type 0 where
  pub few : length (with_begun past.landed past.begun) ≤ most_landed
  pub off : past.is_up ≡ false → IsOff past
  pub idle : past.is_idle ≡ true → past.telling ≡ []
  pub closed : past.is_closed ≡ true → (past.is_up ≡ false) × (past.is_acked ≡ false)
  pub quit : past.has_quit ≡ true → past.is_up ≡ false
