use Rattle.std.proofs.Common.{◌∙◌, ap, refl}
use Rattle.wdt_depot.specs.State.{State, at_spot}
use Rattle.wdt_depot.proofs.ForCallers.{at_needed, run_same}
use Rattle.wdt_log.proofs.Alone.{needed_stands}
use Rattle.wdt_log.proofs.Making.{is_made, is_placed, made_only, make_fails, makes_err, place_fails, put_fails, put_whole}
use Rattle.wdt_log.proofs.opening.make.Goals as goal

pub returns-in_err-make-clause-moments : goal.returns-in_err-make-clause-moments
returns-in_err-make-clause-moments g c =
    makes_err c.from_residual.result _ _ _ c.from_residual.ensures.1 (make_fails c.in_err-make.field-0.0 _ _ _ c.requires.new_path c.in_err-make.ensures.step)

pub returns-in_err-spot-clause-moments : goal.returns-in_err-spot-clause-moments
returns-in_err-spot-clause-moments g c =
    let s0 = g.D.Depot.state c.args.depot.now in
    let s1 = g.D.Depot.state c.make.new.self in
    makes_err c.from_residual-in_err-spot.result _ s0.told _ c.from_residual-in_err-spot.ensures.1
    (run_same _ _ s0.told s1.told _ (made_only s0.told s1.told (is_made c.in_ok-make.field-0 _ s0.told s1.told c.requires.new_path c.in_ok-make.ensures.step)) c.need.ensures.looks.told)

pub returns-in_err-result-clause-moments : goal.returns-in_err-result-clause-moments
returns-in_err-result-clause-moments g c =
    let s0 = g.D.Depot.state c.args.depot.now in
    let s1 = g.D.Depot.state c.make.new.self in
    let s2 = g.D.Depot.state c.need.new.self in
    let s3 = g.D.Depot.state c.put_synced-result.new.depot in
    let at = at_needed c.in_ok-spot.spot.0 c.args.new.now s1 s2 (c.make.ensures.spots ∙ c.requires.spots) c.in_ok-spot.ensures.spots ∙ c.requires.new_path in
    let run = run_same _ _ s0.told s1.told s2.told (is_made c.in_ok-make.field-0 _ s0.told s1.told c.requires.new_path c.in_ok-make.ensures.step) c.need.ensures.looks.told in
    makes_err c.from_residual-in_err-result.result _ s0.told _ c.from_residual-in_err-result.ensures.1
    (run_same _ _ s0.told s3.told _ (put_fails c.in_err-result.field-0.0 (at_spot c.in_ok-spot.spot.0 s2) _ s0.told s2.told s3.told at refl run c.in_err-result.ensures.moments) (ap (λ (s : State). s.told) c.leave.ensures))

pub returns-in_err-put_in_place-clause-moments : goal.returns-in_err-put_in_place-clause-moments
returns-in_err-put_in_place-clause-moments g c =
    let s0 = g.D.Depot.state c.args.depot.now in
    let s1 = g.D.Depot.state c.make.new.self in
    let s2 = g.D.Depot.state c.need.new.self in
    let s3 = g.D.Depot.state c.put_synced-result.new.depot in
    let s4 = g.D.Depot.state c.leave.new.self in
    let at = at_needed c.in_ok-spot.spot.0 c.args.new.now s1 s2 (c.make.ensures.spots ∙ c.requires.spots) c.in_ok-spot.ensures.spots ∙ c.requires.new_path in
    let run = run_same _ _ s0.told s1.told s2.told (is_made c.in_ok-make.field-0 _ s0.told s1.told c.requires.new_path c.in_ok-make.ensures.step) c.need.ensures.looks.told in
    let whole = run_same _ _ s0.told s3.told s4.told (put_whole c.in_ok-result.field-0 (at_spot c.in_ok-spot.spot.0 s2) _ s0.told s2.told s3.told at refl run c.in_ok-result.ensures.moments) (ap (λ (s : State). s.told) c.leave.ensures) in
    makes_err c.from_residual-in_err-put_in_place.result _ s0.told _ c.from_residual-in_err-put_in_place.ensures.1
    (place_fails c.in_err-put_in_place.field-0.0 _ _ s0.told s4.told _ c.requires.new_path c.requires.path whole c.in_err-put_in_place.ensures.step)

pub returns-clause-moments : goal.returns-clause-moments
returns-clause-moments g c =
    let s0 = g.D.Depot.state c.args.depot.now in
    let s1 = g.D.Depot.state c.make.new.self in
    let s2 = g.D.Depot.state c.need.new.self in
    let s3 = g.D.Depot.state c.put_synced-result.new.depot in
    let s4 = g.D.Depot.state c.leave.new.self in
    let at = at_needed c.in_ok-spot.spot.0 c.args.new.now s1 s2 (c.make.ensures.spots ∙ c.requires.spots) c.in_ok-spot.ensures.spots ∙ c.requires.new_path in
    let run = run_same _ _ s0.told s1.told s2.told (is_made c.in_ok-make.field-0 _ s0.told s1.told c.requires.new_path c.in_ok-make.ensures.step) c.need.ensures.looks.told in
    let whole = run_same _ _ s0.told s3.told s4.told (put_whole c.in_ok-result.field-0 (at_spot c.in_ok-spot.spot.0 s2) _ s0.told s2.told s3.told at refl run c.in_ok-result.ensures.moments) (ap (λ (s : State). s.told) c.leave.ensures) in
    is_placed c.in_ok-put_in_place.field-0 _ _ s0.told s4.told _ c.requires.new_path c.requires.path whole c.in_ok-put_in_place.ensures.step

pub returns-in_err-spot-clause-slips : goal.returns-in_err-spot-clause-slips
returns-in_err-spot-clause-slips g c =
    let s0 = g.D.Depot.state c.args.depot.now in
    let s1 = g.D.Depot.state c.make.new.self in
    let s2 = g.D.Depot.state c.need.new.self in
    needed_stands c.args.new.now c.in_ok-make.field-0 c.need.result s0 s1 s2 c.in_ok-make.ensures.step c.make.ensures.slips c.need.ensures.slips
