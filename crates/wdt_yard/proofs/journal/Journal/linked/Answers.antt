use Rattle.std.proofs.Common.{◌≡◌, ◌+◌, ◌<◌, length, sym, ap, ◌∙◌, subst, refl, arith}
use Rattle.wdt_sender_fsm.specs.SenderHistory.{past_of}
use Rattle.wdt_yard.specs.declared.tally.Tally.{Tally}
use Rattle.wdt_yard.specs.Ledger.{Ledger}
use Rattle.wdt_sender_fsm.specs.declared.events.SendEvent.TheVariants as events
use Rattle.wdt_yard.proofs.Keeps.{tally_keeps, linked_here, linked_other}
use Rattle.wdt_yard.proofs.Readings.{tally_read}
use Rattle.wdt_yard.proofs.journal.Journal.linked.Goals as goal

counted : (c : goal.After-index_mut-tally) → c.index_mut-tally.result.now.connections ≡ (past_of c.args.self.now.history c.args.lane.0).connections
counted c =
    let lt : c.args.lane.0 < length c.self.inside.tallies.items = subst (λ (j : Ledger). c.args.lane.0 < j.lanes) (sym c.self.view_is) c.requires.lane in
    ap (λ (t : Tally). t.connections) (tally_read c.args.lane.0 c.index_mut-tally.result.now c.self.invariant lt c.index_mut-tally.ensures.value)
    ∙ ap (λ (j : Ledger). (past_of j.history c.args.lane.0).connections) c.self.view_is

pub overflow_add-tally : goal.overflow_add-tally
overflow_add-tally c = omega (arith, counted c, c.requires.few)

pub returns-clause-conn : goal.returns-clause-conn
returns-clause-conn c =
    let lt : c.args.lane.0 < length c.self.inside.tallies.items = subst (λ (j : Ledger). c.args.lane.0 < j.lanes) (sym c.self.view_is) c.requires.lane in
    ap (λ (t : Tally). t.connections + 1) (tally_read c.args.lane.0 c.index_mut-tally.result.now c.self.invariant lt c.index_mut-tally.ensures.value)
    ∙ ap (λ (j : Ledger). (past_of j.history c.args.lane.0).connections + 1) c.self.view_is

pub invariant_of-self : goal.invariant_of-self
invariant_of-self c =
    let lt : c.args.lane.0 < length c.self.inside.tallies.items = subst (λ (j : Ledger). c.args.lane.0 < j.lanes) (sym c.self.view_is) c.requires.lane in
    rw c.push_reserved.ensures.items
    (tally_keeps (events.Linked c.args.lane record { 0 = c.index_mut-tally.result.now.connections + 1 }) c.args.lane.0 (record c.index_mut-tally.result.now { connections = c.index_mut-tally.result.now.connections + 1 }) c.self.invariant lt
    (ap (λ (t : Tally). record t { connections = t.connections + 1 }) (tally_read c.args.lane.0 c.index_mut-tally.result.now c.self.invariant lt c.index_mut-tally.ensures.value) ∙ linked_here c.args.lane record { 0 = c.index_mut-tally.result.now.connections + 1 } (past_of c.self.inside.events.items c.args.lane.0))
    (λ k past o. linked_other c.args.lane record { 0 = c.index_mut-tally.result.now.connections + 1 } k past o) (λ j s. refl) (λ b. refl))
