-- What a transfer over connections leaves of its depot, by the status that it ends with.
use Rattle.std.specs.Prelude.{◌≡◌, [], Option, IfSome}
use Rattle.wdt_tree.specs.Told.{ToldRun}
use Rattle.wdt_depot.specs.Moments.{IfTold}
use Rattle.wdt_depot.specs.State.{State}
use Rattle.wdt_good.specs.Logged.{GoodSince}
use Rattle.wdt_tool.specs.declared.status.Status.{Status}
use Rattle.wdt_tool.specs.declared.status.Status.TheVariants.{Done, DiskFault, OutFault}
use Rattle.wdt_cli.specs.Carried.{DepotRose, KeepsOthers, LandsIn, StaysGood}

-- The depot has the tree where the copy is done, also where only its lines couldn't be written; whatever it ends
-- with, at each moment each image is good for the tree, what is beside the tree reads as it did, no slip came, and no
-- file is entered; and the disk failed only where its count rose.
pub record LeavesDepot {D : Type 0} (state : D → State) (run : Option ToldRun) (before : State) (status : Status) (depot : Option D) : Type 0 where
  pub landed : status ≡ Done → IfSome run (λ r. LandsIn state r.tree depot)
  pub unwritten : status ≡ OutFault → IfSome run (λ r. LandsIn state r.tree depot)
  pub good : IfSome run (λ r. StaysGood state r.tree depot)
  pub images : IfSome run (λ r. IfSome depot (λ d. GoodSince r.tree [] before.told (state d).told))
  pub others : IfSome run (λ r. KeepsOthers state r.tree before.told depot)
  pub slips : IfSome run (λ r. IfSome depot (λ d. IfTold (λ t. (state d).slips ≡ before.slips) before.told))
  pub spots : IfSome depot (λ d. (state d).spots ≡ [])
  pub fault : status ≡ DiskFault → DepotRose state before depot
