-- Which entries may follow a history, and which histories are legal.
use Rattle.std.specs.Prelude.{◌≡◌, ◌≢◌, ◌⊎◌, ℕ, ◌+◌, ◌<◌, ◌≤◌, not, Bool, true, false, List, [], ◌∷◌, ◌++◌, length, Some, None}
use Rattle.std.proofs.Common.{subst, sym, append_assoc, append-nil}
use Rattle.wdt_units.specs.declared.blocks.Block.{Block}
use Rattle.wdt_units.specs.declared.limits.TheConstants.{MAX_CONNECTIONS, MAX_FILES, MAX_TRIES}
use Rattle.wdt_codec.specs.declared.frames.Frame.{Frame}
use Rattle.wdt_sender_fsm.specs.declared.events.SendEvent.{SendEvent}
use Rattle.wdt_sender_fsm.specs.declared.events.SendEvent.TheVariants.{Linked, NoLink, Lost, Greet, Chunks, Claim, Sent, Done, Global, Finish, Acked, Quit, Abort, Peer}
use Rattle.wdt_sender_fsm.specs.declared.peers.PeerKind.{PeerKind}
use Rattle.wdt_sender_fsm.specs.declared.peers.PeerKind.TheVariants as peers
use Rattle.wdt_sender_fsm.specs.declared.states.SendState.{SendState}
use Rattle.wdt_sender_fsm.specs.declared.states.SendState.TheVariants as states
use Rattle.wdt_sender_fsm.specs.Faults.{count_fault, has_no_row}
use Rattle.wdt_sender_fsm.specs.Places.{claims_of, holding, least_of, queued, unfinished}
use Rattle.wdt_sender_fsm.specs.Rows.{place_of, command_of}
use Rattle.wdt_sender_fsm.specs.SenderHistory.{LanePast, past_of, end_of, lane_of}

-- ---- whose turn it may be

-- an entry of a lane may stand: the lane is one of n and isn't closed, given up or acknowledged, the end
-- met no fault, and the lane has a connection or, for some entries, has none
pub record MaySpeak (n : ℕ) (h : List SendEvent) (l : ℕ) (is_up : Bool) : Type 0 where
  pub within : l < n
  pub is_open : (past_of h l).claims.closed ≡ None
  pub quit : (past_of h l).has_quit ≡ false
  pub acked : (past_of h l).is_acked ≡ false
  pub fault : (end_of h).has_fault ≡ false
  pub link : (past_of h l).is_up ≡ is_up

-- an entry stands where its lane has a connection, but for those that make one or do without
abbrev pub needs_link : SendEvent → Bool
needs_link (Linked l c) = false
needs_link (NoLink l) = false
needs_link (Quit l) = false
needs_link _ = true

-- ---- what the receiver may not say

-- the lane reads, and where it waits for a count none has been told
abbrev pub reads_in : SendState → Bool → Bool
reads_in states.ReadLocalCheckpoint is_greeted = not is_greeted
reads_in states.ReadFileChunks is_greeted = is_greeted
reads_in states.ReadReceiverCmd is_greeted = is_greeted
reads_in _ is_greeted = false

-- a frame that has no row where the lane stands
pub record IsUnexpected (n : ℕ) (h : List SendEvent) (l state command : ℕ) : Type 0 where
  pub at : SendState
  pub frame : Frame
  pub reads : reads_in at (past_of h l).is_greeted ≡ true
  pub place : state ≡ place_of at
  pub byte : command ≡ command_of frame
  pub no_row : has_no_row n l (end_of h).is_listed at frame ≡ true

-- a count that can't be right: of one of n lanes, of another than the lane that reads it or of that lane
-- while it isn't closed
pub record IsWrongCount (n : ℕ) (h : List SendEvent) (l : ℕ) (kind : PeerKind) : Type 0 where
  pub of : ℕ
  pub count : ℕ
  pub within : of < n
  pub whose : (of ≢ l) ⊎ ((past_of h of).claims.closed ≡ None)
  pub wrong : count_fault (past_of h of).claims count ≡ Some kind

-- a lane may read: behind its greeting it isn't writing a block
abbrev pub MayRead : LanePast → Type 0
MayRead past = (past.is_greeted ≡ false) ⊎ (past.claims.held ≡ false)

-- what a sender may say that the receiver did wrong. The place of a file is one of a list that is told, and
-- of lists that differ at most the length of the first.
abbrev pub IsFault : ℕ → List Block → List SendEvent → ℕ → PeerKind → Type 0
IsFault n planned h l (peers.BadFrame at) = MayRead (past_of h l)
IsFault n planned h l (peers.Unexpected state command) = IsUnexpected n h l state command
IsFault n planned h l (peers.BadCheckpoint count low high) = IsWrongCount n h l (peers.BadCheckpoint count low high)
IsFault n planned h l (peers.Differs count before) = IsWrongCount n h l (peers.Differs count before)
IsFault n planned h l (peers.BadChunks at) = ((past_of h l).is_greeted ≡ true) × (1 ≤ at) × (at < MAX_FILES)
IsFault n planned h l (peers.ChunksDiffer at) = ((past_of h l).is_greeted ≡ true) × ((end_of h).is_listed ≡ true) × (at ≤ MAX_FILES)
IsFault n planned h l (peers.EarlyDone count) = ((end_of h).is_listed ≡ true) × (count ≡ unfinished n planned h) × (1 ≤ count)
IsFault n planned h l _ = ⊥

-- ---- each entry

-- what else must hold, where of n lanes the blocks that were planned are to be sent
abbrev pub Fits : ℕ → List Block → List SendEvent → SendEvent → Type 0
Fits n planned h (Linked l c) = (c.0 ≡ (past_of h l.0).connections + 1) × (c.0 ≤ MAX_CONNECTIONS)
Fits n planned h (NoLink l) = (past_of h l.0).failed_tries < MAX_TRIES
Fits n planned h (Lost l) = Unit {0}
Fits n planned h (Greet l count) = count_fault (past_of h l.0).claims count ≡ None
Fits n planned h (Chunks l) = (past_of h l.0).is_greeted ≡ true
Fits n planned h (Claim l b) = ((end_of h).is_listed ≡ true) × (least_of (queued n planned h) ≡ Some b) × ((past_of h l.0).claims.held ≡ false)
Fits n planned h (Sent l) = (past_of h l.0).claims.held ≡ true
Fits n planned h (Done l) = (past_of h l.0).claims.held ≡ false
Fits n planned h (Global k l count) = (k.0 ≢ l.0) × (l.0 < n) × (count_fault (past_of h l.0).claims count ≡ None)
Fits n planned h (Finish l) = ((end_of h).is_listed ≡ true) × (queued n planned h ≡ []) × (holding (claims_of n h) ≡ 0)
Fits n planned h (Acked l) = ((end_of h).has_finish ≡ true) × ((past_of h l.0).has_finish ≡ true)
Fits n planned h (Quit l) = (MAX_CONNECTIONS ≤ (past_of h l.0).connections) ⊎ (MAX_TRIES ≤ (past_of h l.0).failed_tries)
Fits n planned h (Abort l code) = MayRead (past_of h l.0) × (code ≤ 255)
Fits n planned h (Peer l kind) = IsFault n planned h l.0 kind

-- an entry is allowed by those before it
abbrev pub IsAllowed : ℕ → List Block → List SendEvent → SendEvent → Type 0
IsAllowed n planned h e = MaySpeak n h (lane_of e) (needs_link e) × Fits n planned h e

-- behind a history each of some entries is allowed by those before it
abbrev pub legal_from : ℕ → List Block → List SendEvent → List SendEvent → Type 0
legal_from n planned before [] = Unit {0}
legal_from n planned before (e ∷ es) = IsAllowed n planned before e × legal_from n planned (before ++ e ∷ []) es

-- each entry is allowed by those before it
unfoldable pub IsLegal : ℕ → List Block → List SendEvent → Type 0
IsLegal n planned h = legal_from n planned [] h

legal_from-more : (n : ℕ) (planned : List Block) (b h : List SendEvent) (e : SendEvent) → legal_from n planned b h → IsAllowed n planned (b ++ h) e → legal_from n planned b (h ++ e ∷ [])
legal_from-more n planned b [] e l a = (subst (λ (x : List SendEvent). IsAllowed n planned x e) (append-nil b) a, tt)
legal_from-more n planned b (d ∷ h) e l a = (l.0, legal_from-more n planned (b ++ d ∷ []) h e l.1 (subst (λ (x : List SendEvent). IsAllowed n planned x e) (sym (append_assoc b (d ∷ []) h)) a))

-- a legal history with an entry that it allows
pub IsLegal-more : (n : ℕ) (planned : List Block) (h : List SendEvent) (e : SendEvent) → IsLegal n planned h → IsAllowed n planned h e → IsLegal n planned (h ++ e ∷ [])
unfolding IsLegal
IsLegal-more n planned h e l a = legal_from-more n planned [] h e l a

-- nothing has happened
pub IsLegal-none : (n : ℕ) (planned : List Block) → IsLegal n planned []
unfolding IsLegal
IsLegal-none n planned = tt

-- ---- what a legal history says of a lane

-- what has surely landed was claimed, and of a block that is being written it isn't known; the count of
-- a closed lane is all that it keeps; no lane has more than eight connections, or tries that failed; one
-- that was given up had eight of either; and one that is acknowledged read the receiver's last word on its
-- connection
pub record IsSound (s : LanePast) : Type 0 where
  pub sure : s.claims.sure ≤ length s.claims.kept
  pub held : s.claims.held ≡ true → s.claims.sure < length s.claims.kept
  pub closed : (n : ℕ) → s.claims.closed ≡ Some n → (n ≡ s.claims.sure) × (n ≡ length s.claims.kept)
  pub connections : s.connections ≤ MAX_CONNECTIONS
  pub failed_tries : s.failed_tries ≤ MAX_TRIES
  pub quit : s.has_quit ≡ true → (MAX_CONNECTIONS ≤ s.connections) ⊎ (MAX_TRIES ≤ s.failed_tries)
  pub acked : s.is_acked ≡ true → s.has_finish ≡ true

-- once a lane read the receiver's last word: what the destination has is known, no block waits, none is
-- being written, and all that lanes keep has surely landed
pub record HasLanded (n : ℕ) (planned : List Block) (h : List SendEvent) : Type 0 where
  pub listed : (end_of h).is_listed ≡ true
  pub none : queued n planned h ≡ []
  pub unheld : (l : ℕ) → (past_of h l).claims.held ≡ false
  pub sure : (l : ℕ) → (past_of h l).claims.sure ≡ length (past_of h l).claims.kept
