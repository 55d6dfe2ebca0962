use Rattle.std.proofs.Common.{◌≡◌, ◌≤◌, ◌-◌, length, take}
use Rattle.wdt_depot.specs.State.{at_spot}
use Rattle.wdt_rehearsal.specs.Storing.{IsWritten, LeavesBeside}
use Rattle.wdt_rehearsal.proofs.Stored.{IsFine}
use Rattle.wdt_rehearsal.proofs.storing.write.Given as goal

abbrev pub invariant-loop-done : goal.invariant-loop-done
invariant-loop-done g l = record {
  within : l.done ≤ length l.bytes;
  written : IsWritten (at_spot l.spot.0 (g.D.Depot.state l.fn.depot)) (take l.done l.bytes) (g.D.Depot.state l.fn.depot).told (g.D.Depot.state l.depot).told;
  beside : LeavesBeside (at_spot l.spot.0 (g.D.Depot.state l.fn.depot)) (g.D.Depot.state l.fn.depot).told (g.D.Depot.state l.depot).told;
  spots : (g.D.Depot.state l.depot).spots ≡ (g.D.Depot.state l.fn.depot).spots;
  fine : IsFine (g.D.Depot.state l.fn.depot) (g.D.Depot.state l.depot);
}

abbrev pub decreases-loop-done : goal.decreases-loop-done
decreases-loop-done g l = length l.bytes - l.done
