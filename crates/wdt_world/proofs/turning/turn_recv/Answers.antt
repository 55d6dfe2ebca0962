use Rattle.wdt_units.specs.Counts.{Rises}
use Rattle.wdt_receiver_fsm.specs.Turn.{recv_plan}
use Rattle.wdt_world.proofs.Plans.{ends_by}
use Rattle.wdt_world.proofs.turning.turn_recv.Goals as goal

pub returns-clause-turned : goal.returns-clause-turned
returns-clause-turned g c = λ p here shows.
    let e = ends_by (Rises (g.D.Depot.state c.args.dock.now.depot).faults (g.D.Depot.state c.step.new.self.depot).faults) (recv_plan c.args.dock.now.plain c.args.lane c.args.input) (c.in-Ok.act, c.step.new.self.plain) c.in-Ok.ensures.turns in
    record { broken = e.broken; cause = e.cause; step = e.at; shows = c.leave_if.ensures p here shows }
