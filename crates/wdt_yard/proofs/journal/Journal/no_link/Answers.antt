use Rattle.std.proofs.Common.{◌+◌, ◌<◌, length, sym, ap, ◌∙◌, subst, refl, arith}
use Rattle.wdt_sender_fsm.specs.SenderHistory.{past_of}
use Rattle.wdt_yard.specs.declared.tally.Tally.{Tally}
use Rattle.wdt_yard.specs.Ledger.{Ledger}
use Rattle.wdt_sender_fsm.specs.declared.events.SendEvent.TheVariants as events
use Rattle.wdt_yard.proofs.Keeps.{tally_keeps, no_link_here, no_link_other}
use Rattle.wdt_yard.proofs.Readings.{tally_read, tries-le}
use Rattle.wdt_yard.proofs.journal.Journal.no_link.Goals as goal

pub overflow_add-index_mut : goal.overflow_add-index_mut
overflow_add-index_mut c =
    let lt : c.args.lane.0 < length c.self.inside.tallies.items = subst (λ (j : Ledger). c.args.lane.0 < j.lanes) (sym c.self.view_is) c.requires.lane in
    omega (arith, ap (λ (t : Tally). t.failed_tries) (tally_read c.args.lane.0 c.index_mut.result.now c.self.invariant lt c.index_mut.ensures.value), tries-le c.self.inside.events.items c.args.lane.0, c.self.inside.events.ok.0, c.self.inside.events.ok.1, c.self.inside.events.small)

pub invariant_of-self : goal.invariant_of-self
invariant_of-self c =
    let lt : c.args.lane.0 < length c.self.inside.tallies.items = subst (λ (j : Ledger). c.args.lane.0 < j.lanes) (sym c.self.view_is) c.requires.lane in
    rw c.push_reserved.ensures.items
    (tally_keeps (events.NoLink c.args.lane) c.args.lane.0 (record c.index_mut.result.now { failed_tries = c.index_mut.result.now.failed_tries + 1 }) c.self.invariant lt
    (ap (λ (t : Tally). record t { failed_tries = t.failed_tries + 1 }) (tally_read c.args.lane.0 c.index_mut.result.now c.self.invariant lt c.index_mut.ensures.value) ∙ no_link_here c.args.lane (past_of c.self.inside.events.items c.args.lane.0))
    (λ k past o. no_link_other c.args.lane k past o) (λ j s. refl) (λ b. refl))
