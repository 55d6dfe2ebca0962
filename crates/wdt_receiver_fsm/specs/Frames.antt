-- What a sender may not say of itself, of what it sends in all, and of a block.
use Rattle.std.specs.Prelude.{ℕ, ◌+◌, ◌==◌, ◌&&◌, not, nat_le, List, Option, Some, None, option_map, if◌then◌else◌}
use Rattle.wdt_units.specs.declared.limits.TheConstants.{MAX_BLOCKS}
use Rattle.wdt_units.specs.declared.blocks.Block.{Block}
use Rattle.wdt_units.specs.declared.blocks.Header.{Header}
use Rattle.wdt_codec.specs.declared.frames.Settings.{Settings}
use Rattle.wdt_logfmt.specs.Beginning.{BeginFault, KnownFile, OverLimit, Overlap, SizeDiffers, begin_fault}
use Rattle.wdt_logfmt.specs.Marks.{Marked}
use Rattle.wdt_sender_fsm.specs.declared.peers.PeerKind.{PeerKind}
use Rattle.wdt_sender_fsm.specs.declared.peers.PeerKind.TheVariants as peers

-- ---- settings

-- the session that settings must have: that of the first, where some were read
abbrev pub session_by : Option Settings → Settings → ℕ
session_by None s = s.session
session_by (Some first) s = first.session

-- the greatest length of a block that they must have
abbrev pub block_by : Option Settings → Settings → ℕ
block_by None s = s.block
block_by (Some first) s = first.block

-- The least field that is wrong, where of n lanes lane l reads them, these were the first that were
-- read at the end, and conn is the greatest number of a connection that was read on the lane.
abbrev pub settings_fault : ℕ → Option Settings → ℕ → ℕ → Settings → Option ℕ
settings_fault n met l conn s =
    if not (s.version == 1) then Some 1
    else if not (s.session == session_by met s) then Some 2
    else if not (s.lane.0 == l) then Some 3
    else if not (s.lanes == n) then Some 4
    else if nat_le s.conn.0 conn then Some 5
    else if not (s.block == block_by met s) then Some 6
    else None

-- ---- totals

-- the first totals were others: they are told, and then those that were read now
abbrev pub size_fault : Option (ℕ × ℕ) → ℕ → ℕ → Option PeerKind
size_fault None files bytes = None
size_fault (Some first) files bytes =
    if first.0 == files && first.1 == bytes then None else Some (peers.SizesDiffer first.0 first.1 files bytes)

-- so much is there, and what was to be sent is otherwise
abbrev pub short_fault : Option (ℕ × ℕ) → ℕ → ℕ → Option PeerKind
short_fault None files bytes = None
short_fault (Some told) files bytes =
    if told.0 == files && told.1 == bytes then None else Some (peers.Short files bytes told.0 told.1)

-- ---- blocks

-- why a block may not begin, as the sender is told
abbrev pub kind_of : BeginFault → PeerKind
kind_of (SizeDiffers size stamp told_size told_stamp) = peers.SizeDiffers size stamp told_size told_stamp
kind_of (Overlap position) = peers.Overlap position
kind_of (OverLimit count) = peers.OverLimit count

-- the most blocks of a lane, so that a count of them has its place in a frame
abbrev pub most_landed : ℕ
most_landed = MAX_BLOCKS

-- What is wrong with a block that is to begin on a lane on which so many have landed.
abbrev pub block_fault : List (Option KnownFile) → List Marked → List Block → ℕ → Header → Option PeerKind
block_fault known ms begun landed h =
    if nat_le most_landed landed then Some (peers.OverLimit (landed + 1))
    else option_map kind_of (begin_fault known ms begun h)
