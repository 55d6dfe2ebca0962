use Rattle.std.proofs.Common.{◌≡◌, true, false, subst}
use Rattle.wdt_depot.specs.Moments.{IfTold}
use Rattle.wdt_sender_fsm.specs.Rules.{is_failure}
use Rattle.wdt_receiver_fsm.specs.PlainReceiver.{has_finish}
use Rattle.wdt_dock.specs.DockView.{HasLostDisk}
use Rattle.wdt_dock.specs.Landed.{AllLogged, EachLogged}
use Rattle.wdt_dock.proofs.Keeping.{not_lost}
use Rattle.wdt_dock.proofs.LandedLogged.{told_all, told_each}
use Rattle.std.specs.Prelude.{◌↔◌}
use Rattle.wdt_sender_fsm.specs.declared.answers.EndAnswer.TheVariants as answers
use Rattle.wdt_receiver_fsm.specs.Answered.{HasNoLane, IsHeard, has_all_done}
use Rattle.wdt_dock.specs.Desk.{plain_of}
use Rattle.wdt_receiver_fsm.proofs.ForCallers.{answered_done, answered_link}
use Rattle.wdt_dock.proofs.dock.Dock.answer.Goals as goal

pub returns-clause-logged : goal.returns-clause-logged
returns-clause-logged g c =
    let e = c.self.inside.end in
    subst (λ v. is_failure v.plain.answer ≡ false → IfTold (λ t. AllLogged v.plain t.now) (g.D.Depot.state v.depot).told)
    c.self.view_is
    (λ sound. told_all e c.self.inside.log c.self.inside.writer c.self.invariant.desk c.self.invariant.batched c.opening-opening.ensures.view (g.D.Depot.state c.self.inside.depot).told (c.self.invariant.rest.rests (not_lost e.answer sound)) sound)

pub returns-clause-finished : goal.returns-clause-finished
returns-clause-finished g c =
    let e = c.self.inside.end in
    subst (λ v. has_finish v.plain ≡ true → (HasLostDisk v.plain.answer → ⊥) → IfTold (λ t. EachLogged v.plain t.now) (g.D.Depot.state v.depot).told)
    c.self.view_is
    (λ finish here. told_each e c.self.inside.log c.self.inside.writer c.self.invariant.desk c.self.invariant.batched c.opening-opening.ensures.view (g.D.Depot.state c.self.inside.depot).told (c.self.invariant.rest.rests here) c.self.invariant.receiver finish)

pub returns-clause-done : goal.returns-clause-done
returns-clause-done g c =
    let i = c.self.inside in
    subst (λ v. (v.plain.answer ≡ answers.Done) ↔ (has_all_done v.plain ≡ true)) c.self.view_is (answered_done (plain_of i.end i.log i.writer) c.self.invariant.answered)

pub returns-clause-link : goal.returns-clause-link
returns-clause-link g c =
    let i = c.self.inside in
    subst (λ v. (v.plain.answer ≡ answers.Link) ↔ HasNoLane v.plain) c.self.view_is (answered_link (plain_of i.end i.log i.writer) c.self.invariant.answered)

pub returns-clause-heard : goal.returns-clause-heard
returns-clause-heard g c = subst (λ v. IsHeard v.plain.answer v.plain.history) c.self.view_is c.self.invariant.answered.heard
