use Rattle.std.proofs.Common.{◌∙◌, ap}
use Rattle.std.specs.Prelude.{IsErrOf}
use Rattle.wdt_depot.specs.State.{State, at_spot}
use Rattle.wdt_depot.specs.declared.failure.DepotFail.TheVariants.{Failed}
use Rattle.wdt_tree.specs.Shown.{shown}
use Rattle.wdt_depot.proofs.ForCallers.{at_needed}
use Rattle.wdt_rehearsal.proofs.Others.{beside-both, beside-made, beside-same}
use Rattle.wdt_rehearsal.proofs.Stored.{filled-landed, need-no_slip, needed-empty}
use Rattle.wdt_rehearsal.proofs.storing.store_file.Goals as goal

pub returns-in_err-spot-clause-slips : goal.returns-in_err-spot-clause-slips
returns-in_err-spot-clause-slips g c =
    let s0 = g.D.Depot.state c.args.depot.now in
    let s1 = g.D.Depot.state c.make.new.self in
    need-no_slip (IsErrOf c.need.result Failed) c.need.result (tt {0}) c.args.file.now.path s0.slips s0.told s1.told s1 (g.D.Depot.state c.need.new.self) c.in_ok-make.ensures.step c.need.ensures.slips c.make.ensures.slips

pub fill-result-requires-clause-empty : goal.fill-result-requires-clause-empty
fill-result-requires-clause-empty g c =
    let s1 = g.D.Depot.state c.make.new.self in
    let s2 = g.D.Depot.state c.need.new.self in
    needed-empty (tt {0}) c.args.file.now.path (at_spot c.in_ok-spot.spot.0 s2) (g.D.Depot.state c.args.depot.now) s1 s2 c.in_ok-make.ensures.step c.need.ensures.looks.told
    (at_needed c.in_ok-spot.spot.0 c.args.file.now.path s1 s2 (c.make.ensures.spots ∙ c.requires) c.in_ok-spot.ensures.spots)

pub returns-clause-landed : goal.returns-clause-landed
returns-clause-landed g c =
    let s1 = g.D.Depot.state c.make.new.self in
    let s2 = g.D.Depot.state c.need.new.self in
    filled-landed c.fill-result.result (shown c.args.file.now) (at_spot c.in_ok-spot.spot.0 s2) c.deref.result.now (g.D.Depot.state c.args.depot.now) s1 s2 (g.D.Depot.state c.fill-result.new.depot) (g.D.Depot.state c.leave.new.self) c.in_ok-make.ensures.step c.need.ensures.looks.told
    (at_needed c.in_ok-spot.spot.0 c.args.file.now.path s1 s2 (c.make.ensures.spots ∙ c.requires) c.in_ok-spot.ensures.spots) c.deref.ensures.value c.fill-result.ensures.settled (ap (λ (s : State). s.told) c.leave.ensures)

pub returns-in_err-make-clause-beside : goal.returns-in_err-make-clause-beside
returns-in_err-make-clause-beside g c =
    beside-made c.make.result c.args.file.now.path (g.D.Depot.state c.args.depot.now).told (g.D.Depot.state c.make.new.self).told c.make.ensures.step

pub returns-in_err-spot-clause-beside : goal.returns-in_err-spot-clause-beside
returns-in_err-spot-clause-beside g c =
    let s0 = g.D.Depot.state c.args.depot.now in
    let s1 = g.D.Depot.state c.make.new.self in
    beside-same c.args.file.now.path s0.told s1.told (g.D.Depot.state c.need.new.self).told (beside-made c.make.result c.args.file.now.path s0.told s1.told c.make.ensures.step) c.need.ensures.looks.told

pub returns-clause-beside : goal.returns-clause-beside
returns-clause-beside g c =
    let s0 = g.D.Depot.state c.args.depot.now in
    let s1 = g.D.Depot.state c.make.new.self in
    let s2 = g.D.Depot.state c.need.new.self in
    let path = c.args.file.now.path in
    beside-both path (at_spot c.in_ok-spot.spot.0 s2) s0.told s1.told s2.told (g.D.Depot.state c.fill-result.new.depot).told (g.D.Depot.state c.leave.new.self).told
    (beside-made c.make.result path s0.told s1.told c.make.ensures.step) c.need.ensures.looks.told
    (at_needed c.in_ok-spot.spot.0 path s1 s2 (c.make.ensures.spots ∙ c.requires) c.in_ok-spot.ensures.spots) c.fill-result.ensures.beside (ap (λ (s : State). s.told) c.leave.ensures)
