use Rattle.wdt_log.proofs.Steps.{need_ran}
use Rattle.wdt_log.proofs.writing.append_to_file.Goals as goal

pub returns-clause-exact : goal.returns-clause-exact
returns-clause-exact g c =
    need_ran c.args.end c.args.batch.now c.in_ok-spot.spot c.append_at_gate-result.result _ (g.D.Depot.state c.args.depot.now) (g.D.Depot.state c.need.new.self) (g.D.Depot.state c.append_at_gate-result.new.depot) (g.D.Depot.state c.leave.new.self) c.leave.ensures
    c.need.ensures.counts.own c.append_at_gate-result.ensures.depot.counts.own c.in_ok-spot.ensures.exact c.append_at_gate-result.ensures.exact
