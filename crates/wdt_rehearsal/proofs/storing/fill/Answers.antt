use Rattle.wdt_depot.specs.State.{at_spot}
use Rattle.wdt_depot.proofs.ForCallers.{spot_stays}
use Rattle.wdt_rehearsal.proofs.Others.{beside-synced}
use Rattle.wdt_rehearsal.proofs.Stored.{settled-at}
use Rattle.wdt_rehearsal.proofs.storing.fill.Goals as goal

pub returns-in-Ok-clause-settled : goal.returns-in-Ok-clause-settled
returns-in-Ok-clause-settled g c =
    settled-at c.args.spot.0 c.args.bytes.now (g.D.Depot.state c.args.depot.now) (g.D.Depot.state c.write.new.depot) (g.D.Depot.state c.sync.new.self) c.write.ensures.spots c.in_ok-write.ensures.written c.in-Ok.ensures.step

pub returns-in-Ok-clause-beside : goal.returns-in-Ok-clause-beside
returns-in-Ok-clause-beside g c =
    let s0 = g.D.Depot.state c.args.depot.now in
    let s1 = g.D.Depot.state c.write.new.depot in
    beside-synced c.sync.result (at_spot c.args.spot.0 s0) (at_spot c.args.spot.0 s1) s0.told s1.told (g.D.Depot.state c.sync.new.self).told (spot_stays c.args.spot.0 s0 s1 c.write.ensures.spots) c.write.ensures.beside c.sync.ensures.step

pub returns-in-Err-clause-beside : goal.returns-in-Err-clause-beside
returns-in-Err-clause-beside g c =
    let s0 = g.D.Depot.state c.args.depot.now in
    let s1 = g.D.Depot.state c.write.new.depot in
    beside-synced c.sync.result (at_spot c.args.spot.0 s0) (at_spot c.args.spot.0 s1) s0.told s1.told (g.D.Depot.state c.sync.new.self).told (spot_stays c.args.spot.0 s0 s1 c.write.ensures.spots) c.write.ensures.beside c.sync.ensures.step
