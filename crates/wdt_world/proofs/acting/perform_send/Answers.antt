use Rattle.std.proofs.Common.{subst, sym, ap, ◌∙◌}
use Rattle.wdt_units.specs.Counts.{Rises}
use Rattle.wdt_sender_fsm.specs.declared.acts.SendAct.{SendAct}
use Rattle.wdt_pact.specs.Pairs.{SendDoes}
use Rattle.wdt_world.specs.Acting.{ActsSend}
use Rattle.wdt_world.proofs.Performing.{acts_dial}
use Rattle.wdt_world.proofs.acting.perform_send.Goals as goal

pub returns-in_ok-works-in-Dial-clause-done : goal.returns-in_ok-works-in-Dial-clause-done
returns-in_ok-works-in-Dial-clause-done g c = λ p does same has shows.
    subst (λ (act : SendAct). ActsSend (Rises (g.S.Source.faults c.args.source.now) (g.S.Source.faults c.args.source.now)) p act c.dial_hand.result c.dial.new.self) (sym c.in-Dial.is)
    (acts_dial (Rises (g.S.Source.faults c.args.source.now) (g.S.Source.faults c.args.source.now)) c.args.lines.now c.dial.new.self p c.in-Dial.field-0 c.args.has_stopped c.in_ok-works-in-Dial.works c.dial_hand.result (does ∙ ap SendDoes c.in-Dial.is) same shows
    c.in_ok-works-in-Dial.ensures.answer c.in_ok-works-in-Dial.ensures.dialed c.dial_hand.ensures)
