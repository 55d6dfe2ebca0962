use Rattle.std.proofs.Common.{◌<◌, length, sym, ap, ◌∙◌, subst}
use Rattle.wdt_sender_fsm.specs.SenderHistory.{past_of}
use Rattle.wdt_yard.specs.declared.tally.Tally.{Tally}
use Rattle.wdt_yard.specs.Ledger.{Ledger}
use Rattle.std.specs.Prelude.{nat_le, ◌||◌}
use Rattle.wdt_sender_fsm.specs.Turn.{is_used_up}
use Rattle.wdt_yard.proofs.Readings.{tally_read}
use Rattle.wdt_yard.proofs.journal.Journal.is_used_up.Goals as goal

pub returns : goal.returns
returns c =
    let lt : c.args.lane.0 < length c.self.inside.tallies.items = subst (λ (j : Ledger). c.args.lane.0 < j.lanes) (sym c.self.view_is) c.requires in
    c.is_used_up.ensures
    ∙ ap (λ (t : Tally). nat_le 8 t.connections || nat_le 8 t.failed_tries) (tally_read c.args.lane.0 c.index.result.now c.self.invariant lt c.index.ensures)
    ∙ ap (λ (j : Ledger). is_used_up (past_of j.history c.args.lane.0)) c.self.view_is
