use Rattle.wdt_receiver_fsm.specs.Turn.{Given}
use Rattle.wdt_recv_lanes.proofs.Hearing.{came_of, err_same, leaves_of, put_said}
use Rattle.wdt_recv_lanes.proofs.turning.step.Goals as goal

pub returns-clause-turned : goal.returns-clause-turned
returns-clause-turned g c =
    let r = c.args.dock.now.plain in
    let t = c.step.new.self.plain in
    let l = c.args.lane in
    let put = Given c.args.input in
    let s0 = g.D.Depot.state c.args.dock.now.depot in
    let s1 = g.D.Depot.state c.step.new.self.depot in
    let says = c.step.ensures in
    record {
      was = says.was;
      said = c.requires.said;
      came = came_of r t l put c.step.result s0 s1 says.turns (err_same c.step.result _ _ says.err);
      leaves = leaves_of r t l put s0 s1 g.N.Run.told (put_said g.N.Run.told r l c.args.input c.requires.said) (λ T. record { images = λ of now. says.images T now; good = says.good T; slips = says.slips T }) record { others = says.others; untouched = says.untouched; counts = says.counts };
    }
