-- The tables of lanes with which histories are counted: how the code keeps them, which no clause above tells.
use Rattle.std.specs.Prelude.{◌≡◌, ℕ, ◌+◌, ◌-◌, ◌<◌, min, Bool, true, false, List, length, slice_index, slice_index_or, slice_set, is_some, Option, Some, None}
use Rattle.wdt_units.specs.declared.blocks.Block.{Block}
use Rattle.wdt_claims.specs.LaneWords.{Claims}
use Rattle.wdt_sender_fsm.specs.declared.events.SendEvent.{SendEvent}
use Rattle.wdt_sender_fsm.specs.declared.events.SendEvent.TheVariants.{Claim, Greet, Global}
use Rattle.wdt_receiver_fsm.specs.ReceiverHistory.{with_begun_at}
use Rattle.wdt_receiver_fsm.specs.declared.events.RecvEvent.{RecvEvent}
use Rattle.wdt_receiver_fsm.specs.declared.events.RecvEvent.TheVariants.{Begin, Land, Dropped}
use Rattle.wdt_report.specs.declared.sent.Listed.{Listed}

-- ---- senders

-- how many blocks are on a lane's list
abbrev pub count_of : Listed → ℕ
count_of listed = listed.count

-- a lane with no block
abbrev pub none_listed : Listed
none_listed = record { count = 0; is_closed = false }

-- a lane's place in the table
abbrev pub place : List Listed → ℕ → Listed
place lanes l = slice_index_or lanes l none_listed

-- the table where the lane keeps at most the first n blocks, and is closed or not
abbrev pub cut : List Listed → ℕ → ℕ → Bool → List Listed
cut lanes l n closed = slice_set lanes l (record { count = min (place lanes l).count n; is_closed = closed })

-- the table where the lane is closed with at most n blocks, unless it was closed before
abbrev pub cut_once : List Listed → ℕ → ℕ → Bool → List Listed
cut_once lanes l n true = lanes
cut_once lanes l n false = cut lanes l n true

-- the table behind an entry
abbrev pub noted : List Listed → SendEvent → List Listed
noted lanes (Claim l b) = slice_set lanes l.0 (record { count = (place lanes l.0).count + 1; is_closed = (place lanes l.0).is_closed })
noted lanes (Greet l n) = cut lanes l.0 n (place lanes l.0).is_closed
noted lanes (Global k l n) = cut_once lanes l.0 n (place lanes l.0).is_closed
noted lanes _ = lanes

-- how many blocks are taken off where a lane is closed, unless it was closed before
abbrev pub taken_once : Listed → ℕ → Bool → ℕ
taken_once listed n true = 0
taken_once listed n false = listed.count - n

-- how many blocks an entry takes off lists
abbrev pub taken : List Listed → SendEvent → ℕ
taken lanes (Greet l n) = (place lanes l.0).count - n
taken lanes (Global k l n) = taken_once (place lanes l.0) n (place lanes l.0).is_closed
taken lanes _ = 0

-- the lane whose place an entry changes is in the table
abbrev pub HasPlace : List Listed → SendEvent → Type 0
HasPlace lanes (Claim l b) = l.0 < length lanes
HasPlace lanes (Greet l n) = l.0 < length lanes
HasPlace lanes (Global k l n) = l.0 < length lanes
HasPlace lanes _ = Unit {0}

-- a lane's place in the table shows what it has claimed
pub record IsListed (s : Claims) (listed : Listed) : Type 0 where
  pub count : listed.count ≡ length s.kept
  pub closed : listed.is_closed ≡ is_some s.closed

-- each lane's place does
abbrev pub ShowsClaims : (ℕ → Claims) → List Listed → Type 0
ShowsClaims claims lanes = (l : ℕ) → l < length lanes → IsListed (claims l) (place lanes l)

-- ---- receivers

-- how many bytes a block has that may be begun
abbrev pub begun_bytes : Option Block → ℕ
begun_bytes None = 0
begun_bytes (Some b) = b.length

-- the table of how many bytes the lanes' begun blocks have, behind an entry
abbrev pub begun_noted : List ℕ → RecvEvent → List ℕ
begun_noted lanes (Begin l b) = slice_set lanes l.0 b.length
begun_noted lanes (Land l) = slice_set lanes l.0 0
begun_noted lanes (Dropped l) = slice_set lanes l.0 0
begun_noted lanes _ = lanes

-- the lane whose place an entry changes is in the table
abbrev pub HasBegunPlace : List ℕ → RecvEvent → Type 0
HasBegunPlace lanes (Begin l b) = l.0 < length lanes
HasBegunPlace lanes (Land l) = l.0 < length lanes
HasBegunPlace lanes (Dropped l) = l.0 < length lanes
HasBegunPlace lanes _ = Unit {0}

-- how many bytes land by an entry
abbrev pub landing : List ℕ → RecvEvent → ℕ
landing lanes (Land l) = slice_index lanes l.0
landing lanes _ = 0

-- the begun blocks of the lanes, behind an entry
abbrev pub begun_after : (ℕ → Option Block) → RecvEvent → ℕ → Option Block
begun_after begun (Begin k b) = with_begun_at begun k.0 (Some b)
begun_after begun (Land k) = with_begun_at begun k.0 None
begun_after begun (Dropped k) = with_begun_at begun k.0 None
begun_after begun _ = begun

-- each lane's place in the table shows how many bytes its begun block has
abbrev pub ShowsBegun : (ℕ → Option Block) → List ℕ → Type 0
ShowsBegun begun lanes = (l : ℕ) → l < length lanes → slice_index lanes l ≡ begun_bytes (begun l)
