use Rattle.std.proofs.Common.{ℕ, List, length, subst, sym, ap, ◌∙◌}
use Rattle.wdt_units.specs.Counts.{Rises}
use Rattle.wdt_receiver_fsm.specs.PlainReceiver.{PlainReceiver}
use Rattle.wdt_receiver_fsm.specs.Turn.{Bytes, Given}
use Rattle.wdt_pact.specs.Pairs.{RecvTook, recv_stops}
use Rattle.wdt_pact.specs.World.{pair_at, some_bytes}
use Rattle.wdt_world.specs.declared.hands.RecvHand.{RecvHand}
use Rattle.wdt_world.specs.Hands.{recv_held}
use Rattle.wdt_world.specs.Stepping.{CanStepRecv, StepsRecv}
use Rattle.wdt_world.specs.Turning.{TurnsRecv}
use Rattle.wdt_world.proofs.WorldSteps.{gave, gave_bytes, received, through}
use Rattle.wdt_world.proofs.stepping.step_recv.Goals as goal

pub returns-in-Does-clause-steps : goal.returns-in-Does-clause-steps
returns-in-Does-clause-steps g c = λ w of within held same can shows.
    let does = sym held ∙ ap recv_held c.in-Does.is in
    let may = subst (λ (hand : RecvHand). CanStepRecv hand (pair_at w c.args.lane.0)) c.in-Does.is can in
    through c.perform_recv.result
    (λ next a. subst (λ (r : PlainReceiver). StepsRecv (Rises (g.D.Depot.state c.args.dock.now.depot).faults (g.D.Depot.state c.args.dock.now.depot).faults) w c.args.lane.0 r next c.perform_recv.new.lines) of
    (received (Rises (g.D.Depot.state c.args.dock.now.depot).faults (g.D.Depot.state c.args.dock.now.depot).faults) w c.args.lane.0 c.in-Does.act next c.perform_recv.new.lines within does may.1 a))
    (c.perform_recv.ensures.done (pair_at w c.args.lane.0) does same may.0 shows)

pub returns-in_ok-act-in-Has-clause-steps : goal.returns-in_ok-act-in-Has-clause-steps
returns-in_ok-act-in-Has-clause-steps g c = λ w of within held same can shows.
    let has = sym held ∙ ap recv_held c.in-Has.is in
    let Fails = Rises (g.D.Depot.state c.args.dock.now.depot).faults (g.D.Depot.state c.turn_recv.new.dock.depot).faults in
    gave Fails w c.args.lane.0 c.in-Has.input c.in_ok-act-in-Has.act c.turn_recv.new.dock.plain c.turn_recv.new.lines within has
    (subst (λ (r : PlainReceiver). TurnsRecv Fails r c.args.lane (pair_at w c.args.lane.0) (Given c.in-Has.input) c.in_ok-act-in-Has.act c.turn_recv.new.dock.plain c.turn_recv.new.lines) (sym of)
    (c.in_ok-act-in-Has.ensures.turned (pair_at w c.args.lane.0) (ap recv_stops has) shows))

pub returns-in_ok-act-in-Took-clause-steps : goal.returns-in_ok-act-in-Took-clause-steps
returns-in_ok-act-in-Took-clause-steps g c = λ w of within held same can shows.
    let has = sym held ∙ (ap recv_held c.in-Took.is ∙ ap (λ (xs : List ℕ). RecvTook (length xs)) (sym c.as_slice.ensures.value)) in
    let Fails = Rises (g.D.Depot.state c.args.dock.now.depot).faults (g.D.Depot.state c.turn_piece.new.dock.depot).faults in
    gave_bytes Fails w c.args.lane.0 (length c.as_slice.result.now) c.in_ok-act-in-Took.act c.turn_piece.new.dock.plain c.turn_piece.new.lines within has
    (subst (λ (r : PlainReceiver). TurnsRecv Fails r c.args.lane (pair_at w c.args.lane.0) (Bytes (some_bytes (length c.as_slice.result.now))) c.in_ok-act-in-Took.act c.turn_piece.new.dock.plain c.turn_piece.new.lines) (sym of)
    (c.in_ok-act-in-Took.ensures.turned (pair_at w c.args.lane.0) (ap recv_stops has) shows))
