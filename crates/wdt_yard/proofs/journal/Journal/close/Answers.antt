use Rattle.std.proofs.Common.{◌≡◌, ◌<◌, length, None, sym, subst, arith}
use Rattle.wdt_sender_fsm.specs.SenderHistory.{past_of}
use Rattle.wdt_yard.specs.Ledger.{Ledger}
use Rattle.wdt_sender_fsm.specs.Faults.{count_fault}
use Rattle.wdt_yard.proofs.Keeps.{closing_keeps}
use Rattle.wdt_yard.proofs.Readings.{back_absent, lanes_within}
use Rattle.wdt_yard.proofs.journal.Journal.close.Goals as goal

pub global-requires-clause-lane : goal.global-requires-clause-lane
global-requires-clause-lane c = omega (arith, lanes_within c.self.invariant, subst (λ (j : Ledger). c.args.mark.lane.0 < j.lanes) (sym c.self.view_is) c.requires.lane)

pub global-requires-clause-absent : goal.global-requires-clause-absent
global-requires-clause-absent c = back_absent c.args.mark.lane.0 c.args.mark.count c.self.invariant (subst (λ (j : Ledger). c.args.mark.lane.0 < j.lanes) (sym c.self.view_is) c.requires.lane)

pub invariant_of-self : goal.invariant_of-self
invariant_of-self c =
    let lt : c.args.mark.lane.0 < length c.self.inside.tallies.items = subst (λ (j : Ledger). c.args.mark.lane.0 < j.lanes) (sym c.self.view_is) c.requires.lane in
    rw c.push_reserved.ensures.items
    (closing_keeps c.args.reader c.args.mark.lane c.args.mark.count c.global.result c.self.inside.claims c.global.new.self c.global.new.queue c.self.invariant lt
    (subst (λ (j : Ledger). (past_of j.history c.args.mark.lane.0).claims.closed ≡ None → count_fault (past_of j.history c.args.mark.lane.0).claims c.args.mark.count ≡ None) (sym c.self.view_is) c.requires.right)
    c.global.ensures.fault c.global.ensures.closes c.global.ensures.closed c.global.ensures.rising c.global.ensures.count c.global.ensures.room c.global.ensures.kept)
