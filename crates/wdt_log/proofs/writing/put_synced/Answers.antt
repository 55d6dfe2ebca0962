use Rattle.wdt_depot.specs.State.{at_spot}
use Rattle.wdt_depot.proofs.ForCallers.{spot_stays}
use Rattle.wdt_log.proofs.Steps.{put_done, put_ran, put_ran_failed, sync_failed, write_failed}
use Rattle.wdt_log.proofs.writing.put_synced.Goals as goal

pub returns-in_err-write_at-clause-moments : goal.returns-in_err-write_at-clause-moments
returns-in_err-write_at-clause-moments g c =
    write_failed (at_spot c.args.spot.0 (g.D.Depot.state c.args.depot.now)) c.args.offset c.args.bytes.now c.from_residual.result c.in_err-write_at.field-0.0 (g.D.Depot.state c.args.depot.now) (g.D.Depot.state c.write_at.new.self) c.from_residual.ensures.1
    c.in_err-write_at.ensures.step c.in_err-write_at.ensures.memory

pub returns-in_err-sync-clause-moments : goal.returns-in_err-sync-clause-moments
returns-in_err-sync-clause-moments g c =
    let s0 = g.D.Depot.state c.args.depot.now in
    let s1 = g.D.Depot.state c.write_at.new.self in
    sync_failed (at_spot c.args.spot.0 s0) c.args.offset c.args.bytes.now c.from_residual-in_err-sync.result c.in_ok-write_at.field-0 c.in_err-sync.field-0.0 (at_spot c.args.spot.0 s1) s0 s1 (g.D.Depot.state c.sync.new.self)
    (spot_stays c.args.spot.0 s0 s1 c.write_at.ensures.spots) c.from_residual-in_err-sync.ensures.1 c.in_ok-write_at.ensures.step c.in_err-sync.ensures.step

pub returns-in_err-sync-clause-exact : goal.returns-in_err-sync-clause-exact
returns-in_err-sync-clause-exact g c =
    let s0 = g.D.Depot.state c.args.depot.now in
    let s1 = g.D.Depot.state c.write_at.new.self in
    put_ran_failed (at_spot c.args.spot.0 s0) c.args.offset c.args.bytes.now c.from_residual-in_err-sync.result _ c.in_ok-write_at.field-0 (at_spot c.args.spot.0 s1) s0 s1 (g.D.Depot.state c.sync.new.self) c.from_residual-in_err-sync.ensures.1
    (spot_stays c.args.spot.0 s0 s1 c.write_at.ensures.spots) c.write_at.ensures.counts.own c.sync.ensures.counts.own c.in_ok-write_at.ensures.exact c.in_err-sync.ensures.exact

pub returns-clause-moments : goal.returns-clause-moments
returns-clause-moments g c =
    let s0 = g.D.Depot.state c.args.depot.now in
    let s1 = g.D.Depot.state c.write_at.new.self in
    put_done (at_spot c.args.spot.0 s0) c.args.offset c.args.bytes.now c.in_ok-write_at.field-0 c.in_ok-sync.field-0 (at_spot c.args.spot.0 s1) s0 s1 (g.D.Depot.state c.sync.new.self) (spot_stays c.args.spot.0 s0 s1 c.write_at.ensures.spots)
    c.in_ok-write_at.ensures.step c.in_ok-sync.ensures.step

pub returns-clause-exact : goal.returns-clause-exact
returns-clause-exact g c memory =
    let s0 = g.D.Depot.state c.args.depot.now in
    let s1 = g.D.Depot.state c.write_at.new.self in
    put_ran _ _ _ _ c.in_ok-write_at.field-0 (at_spot c.args.spot.0 s1) s0 s1 (g.D.Depot.state c.sync.new.self) (spot_stays c.args.spot.0 s0 s1 c.write_at.ensures.spots) c.write_at.ensures.counts.own c.sync.ensures.counts.own c.in_ok-write_at.ensures.exact
    c.in_ok-sync.ensures.exact
