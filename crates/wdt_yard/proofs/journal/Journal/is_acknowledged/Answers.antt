use Rattle.std.proofs.Common.{◌<◌, length, sym, ap, ◌∙◌, subst}
use Rattle.wdt_sender_fsm.specs.SenderHistory.{past_of}
use Rattle.wdt_yard.specs.declared.tally.Tally.{Tally}
use Rattle.wdt_yard.specs.Ledger.{Ledger}
use Rattle.wdt_yard.proofs.Readings.{tally_read}
use Rattle.wdt_yard.proofs.journal.Journal.is_acknowledged.Goals as goal

pub returns : goal.returns
returns c =
    let lt : c.args.lane.0 < length c.self.inside.tallies.items = subst (λ (j : Ledger). c.args.lane.0 < j.lanes) (sym c.self.view_is) c.requires in
    ap (λ (t : Tally). t.acknowledged) (tally_read c.args.lane.0 c.index.result.now c.self.invariant lt c.index.ensures) ∙ ap (λ (j : Ledger). (past_of j.history c.args.lane.0).is_acked) c.self.view_is
