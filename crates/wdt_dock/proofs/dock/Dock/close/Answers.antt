use Rattle.std.proofs.Common.{◌≡◌, true, false, ap, subst}
use Rattle.wdt_depot.specs.Moments.{IfTold}
use Rattle.wdt_sender_fsm.specs.Rules.{is_failure}
use Rattle.wdt_receiver_fsm.specs.PlainReceiver.{PlainReceiver, has_finish}
use Rattle.wdt_dock.specs.DockView.{HasLostDisk}
use Rattle.wdt_dock.specs.Landed.{AllLogged, EachLogged}
use Rattle.wdt_dock.proofs.Keeping.{not_lost}
use Rattle.wdt_dock.proofs.LandedLogged.{told_all, told_each}
use Rattle.std.specs.Prelude.{◌↔◌}
use Rattle.wdt_sender_fsm.specs.declared.answers.EndAnswer.TheVariants as answers
use Rattle.wdt_receiver_fsm.specs.Answered.{HasNoLane, IsHeard, has_all_done}
use Rattle.wdt_dock.specs.Desk.{plain_of}
use Rattle.wdt_receiver_fsm.proofs.ForCallers.{answered_done, answered_link}
use Rattle.wdt_dock.specs.Dock.{LogRests}
use Rattle.wdt_good.specs.LogState.{LogOf}
use Rattle.wdt_dock.proofs.dock.Dock.close.Goals as goal

pub returns-clause-logged : goal.returns-clause-logged
returns-clause-logged g c =
    let e = c.self.inside.end in
    subst (λ (r : PlainReceiver). is_failure r.answer ≡ false → IfTold (λ t. AllLogged r t.now) (g.D.Depot.state c.self.inside.depot).told)
    (ap (λ v. v.plain) c.self.view_is)
    (λ sound. told_all e c.self.inside.log c.self.inside.writer c.self.invariant.desk c.self.invariant.batched c.opening-opening.ensures.view (g.D.Depot.state c.self.inside.depot).told (c.self.invariant.rest.rests (not_lost e.answer sound)) sound)

pub returns-clause-finished : goal.returns-clause-finished
returns-clause-finished g c =
    let e = c.self.inside.end in
    subst (λ (r : PlainReceiver). has_finish r ≡ true → (HasLostDisk r.answer → ⊥) → IfTold (λ t. EachLogged r t.now) (g.D.Depot.state c.self.inside.depot).told)
    (ap (λ v. v.plain) c.self.view_is)
    (λ finish here. told_each e c.self.inside.log c.self.inside.writer c.self.invariant.desk c.self.invariant.batched c.opening-opening.ensures.view (g.D.Depot.state c.self.inside.depot).told (c.self.invariant.rest.rests here) c.self.invariant.receiver finish)

pub returns-clause-done : goal.returns-clause-done
returns-clause-done g c =
    let i = c.self.inside in
    subst (λ (r : PlainReceiver). (r.answer ≡ answers.Done) ↔ (has_all_done r ≡ true)) (ap (λ v. v.plain) c.self.view_is) (answered_done (plain_of i.end i.log i.writer) c.self.invariant.answered)

pub returns-clause-link : goal.returns-clause-link
returns-clause-link g c =
    let i = c.self.inside in
    subst (λ (r : PlainReceiver). (r.answer ≡ answers.Link) ↔ HasNoLane r) (ap (λ v. v.plain) c.self.view_is) (answered_link (plain_of i.end i.log i.writer) c.self.invariant.answered)

pub returns-clause-heard : goal.returns-clause-heard
returns-clause-heard g c = subst (λ (r : PlainReceiver). IsHeard r.answer r.history) (ap (λ v. v.plain) c.self.view_is) c.self.invariant.answered.heard

pub returns-clause-rests : goal.returns-clause-rests
returns-clause-rests g c =
    let log = c.self.inside.log in
    let told = (g.D.Depot.state c.self.inside.depot).told in
    subst (λ (r : PlainReceiver). (HasLostDisk r.answer → ⊥) → LogRests r (g.D.Depot.state c.self.inside.depot))
    (ap (λ v. v.plain) c.self.view_is)
    (λ here. subst (λ version. IfTold (λ t. LogOf version log.meaning.files log.meaning.end t.now) told) c.self.invariant.desk.books.version (c.self.invariant.rest.rests here))
