use Rattle.std.proofs.Common.{ℕ, refl, sym, ap, ◌∙◌}
use Rattle.wdt_sender_fsm.specs.Places.{least_of, queued}
use Rattle.wdt_sender_fsm.specs.PlainSender.{least_queued, listed_blocks}
use Rattle.wdt_yard.specs.End.{EndView}
use Rattle.wdt_yard.specs.Ledger.{Ledger}
use Rattle.wdt_sender_fsm.specs.declared.events.SendEvent.TheVariants as events
use Rattle.wdt_yard.proofs.Ends.{end_noted}
use Rattle.wdt_yard.proofs.end.SendEnd.sent.Goals as goal

pub invariant_of-self : goal.invariant_of-self
invariant_of-self c = rw c.sent.ensures.noted (end_noted (events.Sent c.args.lane) (λ l past. refl) c.self.invariant)

pub returns-clause-waiting : goal.returns-clause-waiting
returns-clause-waiting c =
    ap (λ (n : ℕ). least_of (queued n (listed_blocks c.sent.new.self.planned) c.sent.new.self.history)) (c.self.invariant.same ∙ sym (ap (λ (j : Ledger). j.lanes) c.sent.ensures.noted))
    ∙ c.sent.ensures.waiting
    ∙ ap (λ (n : ℕ). least_of (queued n (listed_blocks c.self.inside.journal.planned) c.self.inside.journal.history)) (sym c.self.invariant.same)
    ∙ ap (λ (v : EndView). least_queued v.plain) c.self.view_is
