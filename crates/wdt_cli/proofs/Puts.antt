-- What holds of a depot by a status holds of it by the status behind its lines.
use Rattle.std.proofs.Common.{◌≡◌, ℕ, Option}
use Rattle.wdt_tree.specs.Told.{ToldRun}
use Rattle.wdt_depot.specs.State.{State}
use Rattle.wdt_tool.specs.declared.status.Status.{Status}
use Rattle.wdt_tool.specs.declared.status.Status.TheVariants.{Done, DiskFault, OutFault}
use Rattle.wdt_sending.specs.Printed.{IsPut}
use Rattle.wdt_sending.proofs.ForCallers.{put_as}
use Rattle.wdt_cli.specs.Leaves.{LeavesDepot}

pub put_depot : {D : Type 0} {state : D → State} {run : Option ToldRun} {start : State} {status : Status} {depot : Option D} (more : Status) (before after : ℕ) → IsPut status more before after
    → LeavesDepot state run start status depot → LeavesDepot state run start more depot
put_depot {status = status} more before after put left =
    record {
      landed = λ is. left.landed (put_as status more before after Done put is);
      unwritten = λ is. left.landed (put_as status more before after OutFault put is).0;
      good = left.good;
      images = left.images;
      others = left.others;
      slips = left.slips;
      spots = left.spots;
      fault = λ is. left.fault (put_as status more before after DiskFault put is);
    }
