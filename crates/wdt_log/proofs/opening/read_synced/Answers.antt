use Rattle.std.proofs.Common.{◌≡◌, subst}
use Rattle.wdt_depot.specs.Disk.{IfFile}
use Rattle.wdt_depot.specs.Moments.{IfTold}
use Rattle.wdt_depot.specs.State.{at_spot}
use Rattle.wdt_depot.proofs.ForCallers.{run_same, spot_stays}
use Rattle.wdt_log.proofs.Making.{read_before, synced_there, syncs_as}
use Rattle.wdt_log.proofs.opening.read_synced.Goals as goal

pub returns-clause-bytes : goal.returns-clause-bytes
returns-clause-bytes g c =
    let s0 = g.D.Depot.state c.args.depot.now in
    let s1 = g.D.Depot.state c.sync.new.self in
    let bytes = c.in_ok-bytes.bytes.items in
    read_before bytes (at_spot c.args.spot.0 s0) c.in_ok-sync.field-0 s0.told s1.told c.requires.path c.in_ok-sync.ensures.step
    (subst (λ p. IfTold (λ t. IfFile (λ f. f.seen ≡ bytes) (t.now p)) s1.told) (spot_stays c.args.spot.0 s0 s1 c.sync.ensures.spots) c.in_ok-bytes.ensures.bytes)

pub returns-in_err-bytes-clause-moments : goal.returns-in_err-bytes-clause-moments
returns-in_err-bytes-clause-moments g c =
    let s0 = g.D.Depot.state c.args.depot.now in
    let s1 = g.D.Depot.state c.sync.new.self in
    syncs_as c.from_residual-in_err-bytes.result s0.told _ (run_same _ _ s0.told s1.told _ (synced_there c.in_ok-sync.field-0 (at_spot c.args.spot.0 s0) s0.told s1.told c.requires.path c.in_ok-sync.ensures.step) c.read_whole.ensures.looks.told)

pub returns-clause-moments : goal.returns-clause-moments
returns-clause-moments g c =
    let s0 = g.D.Depot.state c.args.depot.now in
    let s1 = g.D.Depot.state c.sync.new.self in
    run_same _ _ s0.told s1.told _ (synced_there c.in_ok-sync.field-0 (at_spot c.args.spot.0 s0) s0.told s1.told c.requires.path c.in_ok-sync.ensures.step) c.read_whole.ensures.looks.told
