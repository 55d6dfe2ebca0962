use Rattle.std.proofs.Common.{◌∙◌}
use Rattle.wdt_depot.specs.State.{at_spot}
use Rattle.wdt_depot.proofs.ForCallers.{spot_stays}
use Rattle.wdt_log.proofs.Steps.{both_put, both_ran, first_failed, first_ran}
use Rattle.wdt_log.proofs.writing.append_at_gate.Goals as goal

pub returns-in_err-put_synced-clause-moments : goal.returns-in_err-put_synced-clause-moments
returns-in_err-put_synced-clause-moments g c =
    first_failed c.args.end c.args.batch.now c.from_residual.result c.in_err-put_synced.field-0.0 (at_spot c.args.spot.0 (g.D.Depot.state c.args.depot.now)) _ _ c.requires.path c.from_residual.ensures.1 c.in_err-put_synced.ensures.moments

pub returns-in_err-put_synced-clause-exact : goal.returns-in_err-put_synced-clause-exact
returns-in_err-put_synced-clause-exact g c =
    first_ran c.args.end c.args.batch.now c.from_residual.result c.in_err-put_synced.field-0.0 (at_spot c.args.spot.0 (g.D.Depot.state c.args.depot.now)) (g.D.Depot.state c.args.depot.now) (g.D.Depot.state c.put_synced.new.depot) c.from_residual.ensures.1 c.requires.path
    c.in_err-put_synced.ensures.exact

pub returns-clause-moments : goal.returns-clause-moments
returns-clause-moments g c =
    let s0 = g.D.Depot.state c.args.depot.now in
    let s1 = g.D.Depot.state c.put_synced.new.depot in
    both_put c.args.end c.args.batch.now c.put_synced-2.result c.in_ok-put_synced.field-0 (at_spot c.args.spot.0 s0) (at_spot c.args.spot.0 s1) s0.told s1.told (g.D.Depot.state c.put_synced-2.new.depot).told c.requires.path (spot_stays c.args.spot.0 s0 s1 c.put_synced.ensures.depot.spots ∙ c.requires.path)
    c.in_ok-put_synced.ensures.moments c.put_synced-2.ensures.moments

pub returns-clause-exact : goal.returns-clause-exact
returns-clause-exact g c =
    let s0 = g.D.Depot.state c.args.depot.now in
    let s1 = g.D.Depot.state c.put_synced.new.depot in
    both_ran c.args.end c.args.batch.now c.put_synced-2.result c.in_ok-put_synced.field-0 (at_spot c.args.spot.0 s0) (at_spot c.args.spot.0 s1) s0 s1 (g.D.Depot.state c.put_synced-2.new.depot) c.requires.path (spot_stays c.args.spot.0 s0 s1 c.put_synced.ensures.depot.spots ∙ c.requires.path)
    c.put_synced.ensures.depot.counts.own c.put_synced-2.ensures.depot.counts.own c.in_ok-put_synced.ensures.exact c.put_synced-2.ensures.exact
