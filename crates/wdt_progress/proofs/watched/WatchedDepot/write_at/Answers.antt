use Rattle.std.proofs.Common.{subst}
use Rattle.wdt_depot.specs.Programs.{Ran, run_write}
use Rattle.wdt_depot.specs.State.{at_spot}
use Rattle.wdt_progress.proofs.watched.WatchedDepot.write_at.Goals as goal

pub returns-clause-exact : goal.returns-clause-exact
returns-clause-exact g c =
    let state = g.D.Depot.state in
    subst (λ d. Ran (run_write (at_spot c.args.spot.0 (state d)) c.args.offset c.args.bytes.now) c.write_at-written.result (state d) (state c.write_at-written.new.self))
    c.self.view_is
    c.write_at-written.ensures.exact
