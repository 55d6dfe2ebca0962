-- What a row of the table may rest on, as each lane of a receiver stands.
use Rattle.std.specs.Prelude.{◌≡◌, ◌<◌, Bool, true, false}
use Rattle.wdt_units.specs.declared.limits.TheConstants.{MAX_CONNECTIONS, MAX_TRIES}
use Rattle.wdt_receiver_fsm.specs.ReceiverHistory.{RecvPast}
use Rattle.wdt_receiver_fsm.specs.Rows.{Row, Piece, NotLinked, Linked, Dropped, Block as BlockRead, Done, WaitWritten, Woken}

-- a lane whose connection is awaited has tries and connections left, and an idle one is open
abbrev pub MayServe : Row → RecvPast → Type 0
MayServe NotLinked past = past.failed_tries < MAX_TRIES
MayServe Linked past = past.takes < MAX_CONNECTIONS
MayServe Done past = past.is_closed ≡ false
MayServe WaitWritten past = past.is_closed ≡ false
MayServe Woken past = past.is_closed ≡ false
MayServe row past = Unit {0}

-- the row concerns the files, too: a block begins or is lost, bytes of it come, or the finish may be ready
abbrev pub is_of_files : Row → Bool
is_of_files (Piece bytes) = true
is_of_files Dropped = true
is_of_files (BlockRead header) = true
is_of_files Done = true
is_of_files WaitWritten = true
is_of_files Woken = true
is_of_files row = false
