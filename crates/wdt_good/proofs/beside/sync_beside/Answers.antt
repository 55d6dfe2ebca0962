use Rattle.std.specs.Prelude.{Ok}
use Rattle.wdt_depot.specs.State.{at_spot}
use Rattle.wdt_depot.proofs.ForCallers.{at_needed}
use Rattle.wdt_good.proofs.Calling.{not_synced, synced}
use Rattle.wdt_good.proofs.beside.sync_beside.Goals as goal

pub returns-in_err-file-clause-synced : goal.returns-in_err-file-clause-synced
returns-in_err-file-clause-synced g c = not_synced c.args.path.now c.from_residual.result _ _ _ c.from_residual.ensures.1 c.need.ensures.looks.told

pub returns-in-Ok-clause-synced : goal.returns-in-Ok-clause-synced
returns-in-Ok-clause-synced g c =
    let s0 = g.D.Depot.state c.args.depot.now in
    let s1 = g.D.Depot.state c.need.new.self in
    synced c.args.path.now (at_spot c.in_ok-file.file.0 s1) (Ok c.in-Ok.field-0) _ s0 s1 (g.D.Depot.state c.sync-synced.new.self) (g.D.Depot.state c.leave.new.self) c.requires.other
    (at_needed c.in_ok-file.file.0 c.args.path.now s0 s1 c.requires.spots c.in_ok-file.ensures.spots) c.need.ensures.looks.told (g.met.D.Depot.sound c.args.depot.now) c.in-Ok.ensures.step c.leave.ensures
