-- A block whose bytes are all written, as it lands.
use Rattle.std.specs.Prelude.{ℕ, List, Option, Some, None, IfSome}
use Rattle.wdt_units.specs.Tree.{File}
use Rattle.wdt_units.specs.declared.blocks.Block.{Block}
use Rattle.wdt_units.specs.declared.numbers.Lane.{Lane}
use Rattle.wdt_depot.specs.Disk.{Disk}
use Rattle.wdt_receiver_fsm.specs.Outcomes.{landed_by}
use Rattle.wdt_receiver_fsm.specs.Plan.{Plan, ends}
use Rattle.wdt_receiver_fsm.specs.PlainReceiver.{PlainReceiver, past_at}
use Rattle.wdt_receiver_fsm.specs.Rows.{Piece}
use Rattle.wdt_receiver_fsm.specs.Turn.{Step, logs, rests}
use Rattle.wdt_dock.specs.DockGood.{DockGood, HasPart}

-- the last bytes of the lane's block are written: it lands, and where it is time, what landed is logged
abbrev pub land_plan : PlainReceiver → Lane → List ℕ → Option Block → Plan Step
land_plan r l bytes None = ends (rests r)
land_plan r l bytes (Some b) = logs (landed_by r l b) l (Piece bytes)

-- the end and its disk are good for the tree, and all that was written of the lane's block is the tree's
pub record IsWholeOf (T : List File) (r : PlainReceiver) (l : ℕ) (d : Disk) : Type 0 where
  pub good : DockGood T r d
  pub whole : IfSome (past_at r l).begun (HasPart T r.known d 0)
