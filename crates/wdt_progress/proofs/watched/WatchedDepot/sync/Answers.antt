use Rattle.std.proofs.Common.{subst}
use Rattle.std.specs.Prelude.{is_ok}
use Rattle.wdt_depot.specs.Programs.{Calls, IsQuiet, drive_of, run_sync}
use Rattle.wdt_depot.specs.State.{at_spot}
use Rattle.wdt_progress.proofs.watched.WatchedDepot.sync.Goals as goal

pub returns-clause-exact : goal.returns-clause-exact
returns-clause-exact g c =
    let state = g.D.Depot.state in
    let new = state c.sync.new.self in
    subst (λ d. IsQuiet (state d) new → Calls (run_sync (at_spot c.args.spot.0 (state d))) (is_ok c.sync.result) (drive_of (state d)) (drive_of new))
    c.self.view_is
    c.sync.ensures.exact
