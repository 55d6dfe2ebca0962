use Rattle.std.proofs.Common.{◌≡◌, [], length, map}
use Rattle.wdt_tree.specs.Shown.{shown}
use Rattle.wdt_rehearsal.specs.Destination.{LeavesOthers}
use Rattle.wdt_rehearsal.specs.Storing.{HasLanded}
use Rattle.wdt_rehearsal.proofs.Stored.{IsFine}
use Rattle.wdt_rehearsal.proofs.storing.store.Given as goal

abbrev pub invariant-loop-file : goal.invariant-loop-file
invariant-loop-file g l = record {
  landed : HasLanded (map shown l.fn.files.items) (map shown l.files.items) (g.D.Depot.state l.fn.depot).told (g.D.Depot.state l.depot).told;
  others : LeavesOthers (map shown l.fn.files.items) (g.D.Depot.state l.fn.depot).told (g.D.Depot.state l.depot).told;
  spots : (g.D.Depot.state l.depot).spots ≡ [];
  fine : IsFine (g.D.Depot.state l.fn.depot) (g.D.Depot.state l.depot);
}

abbrev pub decreases-loop-file : goal.decreases-loop-file
decreases-loop-file g l = length l.files.items
