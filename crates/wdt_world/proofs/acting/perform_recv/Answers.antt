use Rattle.std.proofs.Common.{subst, sym, ap, ◌∙◌}
use Rattle.wdt_receiver_fsm.specs.declared.acts.RecvAct.{RecvAct}
use Rattle.wdt_pact.specs.Pairs.{RecvDoes}
use Rattle.wdt_world.specs.Acting.{ActsRecv, HasTaken}
use Rattle.wdt_world.proofs.Performing.{acts_accept}
use Rattle.wdt_world.proofs.acting.perform_recv.Goals as goal

pub returns-in-Accept : goal.returns-in-Accept
returns-in-Accept c =
    record {
      done = λ p does same has shows.
          subst (λ (act : RecvAct). ActsRecv p act c.accept_hand.result c.accept-answer.new.self) (sym c.in-Accept.is)
          (acts_accept c.args.lines.now c.accept-answer.new.self p c.args.has_stopped c.accept-answer.result c.accept_hand.result (does ∙ ap RecvDoes c.in-Accept.is) same (subst (λ (act : RecvAct). HasTaken act p) c.in-Accept.is has) shows
          c.accept-answer.ensures.answer c.accept-answer.ensures.accepted c.accept_hand.ensures);
    }
