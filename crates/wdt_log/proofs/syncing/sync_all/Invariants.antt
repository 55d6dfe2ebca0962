use Rattle.std.proofs.Common.{◌≡◌, [], map, take, true}
use Rattle.wdt_depot.specs.Moments.{IfTold, Run}
use Rattle.wdt_depot.specs.Programs.{Calls, IsQuiet, drive_of}
use Rattle.wdt_depot.specs.State.{Counts}
use Rattle.wdt_good.specs.Sweeping.{Keeps, Swept}
use Rattle.wdt_good.specs.Calls.{run_syncs}
use Rattle.wdt_log.specs.Flushing.{AllStand}
use Rattle.wdt_log.proofs.syncing.sync_all.Given as goal

abbrev pub invariant-loop-path : goal.invariant-loop-path
invariant-loop-path g l = record {
  synced : Run Keeps (Swept (map (λ p. p.now) (take l.path-index l.paths))) (g.D.Depot.state l.fn.depot).told (g.D.Depot.state l.depot).told;
  exact : IsQuiet (g.D.Depot.state l.fn.depot) (g.D.Depot.state l.depot) → Calls (run_syncs (map (λ p. p.now) (take l.path-index l.paths))) true (drive_of (g.D.Depot.state l.fn.depot)) (drive_of (g.D.Depot.state l.depot));
  slips : IfTold (λ t. AllStand (map (λ p. p.now) l.paths) t.now → (g.D.Depot.state l.depot).slips ≡ (g.D.Depot.state l.fn.depot).slips) (g.D.Depot.state l.fn.depot).told;
  spots : (g.D.Depot.state l.depot).spots ≡ [];
  counts : Counts ⊥ (g.D.Depot.state l.fn.depot) (g.D.Depot.state l.depot);
}
