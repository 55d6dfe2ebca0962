use Rattle.wdt_depot.specs.State.{at_spot}
use Rattle.wdt_depot.proofs.ForCallers.{at_needed}
use Rattle.wdt_good.proofs.Calling.{not_made, write_rests, write_since, written}
use Rattle.wdt_good.proofs.beside.write_beside.Goals as goal

pub returns-in_err-spot-clause-step : goal.returns-in_err-spot-clause-step
returns-in_err-spot-clause-step g c = not_made _ c.from_residual.result _ _ _ c.from_residual.ensures.1 c.need.ensures.looks.told

pub returns-clause-step : goal.returns-clause-step
returns-clause-step g c =
    let s0 = g.D.Depot.state c.args.depot.now in
    let s1 = g.D.Depot.state c.need.new.self in
    written c.args.path.now (at_spot c.in_ok-spot.spot.0 s1) c.args.offset c.args.bytes.now c.write_at-result.result _ s0 s1 (g.D.Depot.state c.write_at-result.new.self) (g.D.Depot.state c.leave.new.self)
    (at_needed c.in_ok-spot.spot.0 c.args.path.now s0 s1 c.requires.spots c.in_ok-spot.ensures.spots) c.need.ensures.looks.told c.write_at-result.ensures.step c.leave.ensures

pub returns-clause-images : goal.returns-clause-images
returns-clause-images g c version T fs end size log fit may =
    write_since version fs end c.args.path.now c.args.offset c.args.bytes.now c.write_at-result.result T size (g.D.Depot.state c.args.depot.now).told _ (g.met.D.Depot.sound c.args.depot.now) log fit may (returns-clause-step g c)

pub returns-clause-log : goal.returns-clause-log
returns-clause-log g c version fs end log =
    write_rests version fs end c.args.path.now c.args.offset c.args.bytes.now c.write_at-result.result (g.D.Depot.state c.args.depot.now).told _ c.requires.other (returns-clause-step g c) log
