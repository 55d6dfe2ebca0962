use Rattle.std.proofs.Common.{List, ℕ, Bor, map}
use Rattle.wdt_units.specs.declared.path.Name.{Name}
use Rattle.wdt_good.specs.Batch.{forgotten_of}
use Rattle.wdt_log.proofs.Landing.{all_good, part_good, ready_after, rests_after, rests_behind, rests_told}
use Rattle.wdt_log.proofs.flushing.flush.Goals as goal

abbrev path_of : Bor Name → List ℕ
path_of p = p.now

pub returns-in_err-sync_all-clause-images : goal.returns-in_err-sync_all-clause-images
returns-in_err-sync_all-clause-images g c T gs landed =
    part_good T c.args.log.now (map path_of c.args.paths.now) gs c.args.batch.now (forgotten_of c.args.batch.now) (g.D.Depot.state c.args.depot.now).told (g.D.Depot.state c.sync_all.new.depot).told c.sync_all.ensures.kept landed

pub returns-in_err-sync_all-clause-rests : goal.returns-in_err-sync_all-clause-rests
returns-in_err-sync_all-clause-rests g c = λ unshut rests. rests_after c.args.log.now (g.D.Depot.state c.args.depot.now).told (g.D.Depot.state c.sync_all.new.depot).told c.sync_all.ensures.kept rests

pub returns-clause-images : goal.returns-clause-images
returns-clause-images g c T gs landed =
    let log = c.args.log.now in
    let paths = map path_of c.args.paths.now in
    let es = c.args.batch.now in
    let a = (g.D.Depot.state c.args.depot.now).told in
    let b = (g.D.Depot.state c.sync_all.new.depot).told in
    all_good T log paths gs es (forgotten_of es) a b (g.D.Depot.state c.append.new.depot).told c.sync_all.ensures.kept landed
    (c.append.ensures.images T gs (rests_after log a b c.sync_all.ensures.kept (rests_told T log paths gs es a landed)) (ready_after T log paths gs es a b c.in_ok-sync_all.ensures.synced landed))

pub returns-clause-rests : goal.returns-clause-rests
returns-clause-rests g c = λ unshut rests.
    rests_behind c.append.result c.args.log.now c.append.new.self (g.D.Depot.state c.sync_all.new.depot).told (g.D.Depot.state c.append.new.depot).told c.append.ensures.logged c.append.ensures.unchanged c.append.ensures.version c.append.ensures.memory c.append.ensures.shut
    c.append.ensures.shuts c.append.ensures.not_bad unshut (rests_after c.args.log.now (g.D.Depot.state c.args.depot.now).told (g.D.Depot.state c.sync_all.new.depot).told c.sync_all.ensures.kept rests)
