use Rattle.std.proofs.Common.{subst, sym, ap, ◌∙◌}
use Rattle.wdt_units.specs.Counts.{Rises}
use Rattle.wdt_sender_fsm.specs.PlainSender.{PlainSender}
use Rattle.wdt_pact.specs.World.{pair_at}
use Rattle.wdt_world.specs.declared.hands.SendHand.{SendHand}
use Rattle.wdt_world.specs.Hands.{send_held}
use Rattle.wdt_world.specs.Stepping.{CanStep, StepsSend}
use Rattle.wdt_world.specs.Turning.{TurnsSend}
use Rattle.wdt_world.proofs.WorldSteps.{handed, performed, through}
use Rattle.wdt_world.proofs.stepping.step_send.Goals as goal

pub returns-in-Does-clause-steps : goal.returns-in-Does-clause-steps
returns-in-Does-clause-steps g c = λ w of within held same can shows.
    let does = sym held ∙ ap send_held c.in-Does.is in
    through c.perform_send.result
    (λ next a. subst (λ (s : PlainSender). StepsSend (Rises (g.S.Source.faults c.args.source.now) (g.S.Source.faults c.perform_send.new.source)) w c.args.lane.0 s next c.perform_send.new.lines) of
    (performed (Rises (g.S.Source.faults c.args.source.now) (g.S.Source.faults c.perform_send.new.source)) w c.args.lane.0 c.in-Does.act next c.perform_send.new.lines within does a))
    (c.perform_send.ensures.done (pair_at w c.args.lane.0) does same (subst (λ (hand : SendHand). CanStep hand (pair_at w c.args.lane.0)) c.in-Does.is can) shows)

pub returns-in_ok-act-in-Has-clause-steps : goal.returns-in_ok-act-in-Has-clause-steps
returns-in_ok-act-in-Has-clause-steps g c = λ w of within held same can shows.
    let has = sym held ∙ ap send_held c.in-Has.is in
    handed (Rises (g.S.Source.faults c.args.source.now) (g.S.Source.faults c.args.source.now)) w c.args.lane.0 c.in-Has.input c.in_ok-act-in-Has.act c.turn_send.new.yard c.turn_send.new.lines within has
    (subst (λ (s : PlainSender). TurnsSend s c.args.lane (pair_at w c.args.lane.0) c.in-Has.input c.in_ok-act-in-Has.act c.turn_send.new.yard c.turn_send.new.lines) (sym of)
    (c.in_ok-act-in-Has.ensures.turned (pair_at w c.args.lane.0) has shows))
