-- What a row that is to be done rests on.
use Rattle.std.specs.Prelude.{◌≡◌, List, None}
use Rattle.wdt_units.specs.Headers.{FitsHeader, IsHeaderOf}
use Rattle.wdt_units.specs.Tree.{File}
use Rattle.wdt_receiver_fsm.specs.ReceiverHistory.{RecvPast}
use Rattle.wdt_receiver_fsm.specs.Rows.{Row, Block as BlockRead}
use Rattle.wdt_dock.specs.Serving.{MayServe}

-- a block begins on a lane on which none is begun, with a header in its ranges
abbrev pub MayGoOn : Row → RecvPast → Type 0
MayGoOn (BlockRead header) past = FitsHeader header × (past.begun ≡ None)
MayGoOn row past = MayServe row past

-- a header that is read is one of the tree's
abbrev pub IsTreesRow : List File → Row → Type 0
IsTreesRow T (BlockRead header) = IsHeaderOf T header
IsTreesRow T row = Unit {0}
