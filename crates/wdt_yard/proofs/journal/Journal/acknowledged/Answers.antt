use Rattle.std.proofs.Common.{◌<◌, true, length, sym, ap, ◌∙◌, subst, refl}
use Rattle.wdt_sender_fsm.specs.SenderHistory.{past_of}
use Rattle.wdt_yard.specs.declared.tally.Tally.{Tally}
use Rattle.wdt_yard.specs.Ledger.{Ledger}
use Rattle.wdt_sender_fsm.specs.declared.events.SendEvent.TheVariants as events
use Rattle.wdt_yard.proofs.Keeps.{tally_keeps, acked_here, acked_other}
use Rattle.wdt_yard.proofs.Readings.{tally_read}
use Rattle.wdt_yard.proofs.journal.Journal.acknowledged.Goals as goal

pub invariant_of-self : goal.invariant_of-self
invariant_of-self c =
    let lt : c.args.lane.0 < length c.self.inside.tallies.items = subst (λ (j : Ledger). c.args.lane.0 < j.lanes) (sym c.self.view_is) c.requires.lane in
    rw c.push_reserved.ensures.items
    (tally_keeps (events.Acked c.args.lane) c.args.lane.0 (record c.index_mut.result.now { acknowledged = true }) c.self.invariant lt
    (ap (λ (t : Tally). record t { acknowledged = true }) (tally_read c.args.lane.0 c.index_mut.result.now c.self.invariant lt c.index_mut.ensures.value) ∙ acked_here c.args.lane (past_of c.self.inside.events.items c.args.lane.0))
    (λ k past o. acked_other c.args.lane k past o) (λ j s. refl) (λ b. refl))
