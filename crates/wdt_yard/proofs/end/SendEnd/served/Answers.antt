use Rattle.std.proofs.Common.{refl, ap, ◌∙◌}
use Rattle.wdt_sender_fsm.specs.declared.rows.SendRow.{SendRow}
use Rattle.wdt_sender_fsm.specs.Rows.{Finished, shown}
use Rattle.wdt_sender_fsm.specs.Turn.{turn_row}
use Rattle.wdt_yard.proofs.Results.{if_ok}
use Rattle.wdt_yard.proofs.end.SendEnd.served.Goals as goal

pub returns-in-Finished-clause-ok : goal.returns-in-Finished-clause-ok
returns-in-Finished-clause-ok c =
    if_ok c.read_done.result _ _ (λ act f. ap (λ (row : SendRow). turn_row c.args.self.now.plain c.args.lane (shown row)) c.in-Finished.is ∙ f Finished refl) c.read_done.ensures.ok
