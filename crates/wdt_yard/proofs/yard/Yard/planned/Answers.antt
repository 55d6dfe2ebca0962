use Rattle.std.proofs.Common.{is_some, sym, ap, ◌∙◌}
use Rattle.wdt_sender_fsm.specs.PlainSender.{PlainSender}
use Rattle.wdt_sender_fsm.specs.SenderHistory.{end_of}
use Rattle.wdt_yard.proofs.Results.{some_mapped}
use Rattle.wdt_yard.proofs.yard.Yard.planned.Goals as goal

pub returns-clause-listed : goal.returns-clause-listed
returns-clause-listed c =
    sym (some_mapped _ c.planned.result)
    ∙ ap (λ o. is_some o) c.planned.ensures
    ∙ ap (λ o. is_some o) c.self.invariant.sender.plan.planned
    ∙ some_mapped _ c.self.inside.end.plain.have
    ∙ c.self.invariant.sender.plan.listed
    ∙ ap (λ (s : PlainSender). (end_of s.history).is_listed) c.self.view_is
