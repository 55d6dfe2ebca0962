use Rattle.std.proofs.Common.{ap, ◌∙◌}
use Rattle.wdt_receiver_fsm.specs.declared.rows.RecvRow.{RecvRow}
use Rattle.wdt_receiver_fsm.specs.Plan.{ends}
use Rattle.wdt_receiver_fsm.specs.Rows.{shown}
use Rattle.wdt_receiver_fsm.specs.Turn.{Step, turn_row}
use Rattle.wdt_receiver_fsm.specs.End.{plain_with}
use Rattle.wdt_receiver_fsm.proofs.ForCallers.{if_ok}
use Rattle.wdt_dock.proofs.serving.served.Goals as goal

pub returns-in-Aborted-clause-ok : goal.returns-in-Aborted-clause-ok
returns-in-Aborted-clause-ok c =
    if_ok c.aborted.result _ _ (λ act e books. ap (λ (row : RecvRow). turn_row (plain_with c.args.end.now books) c.args.lane (shown row)) c.in-Aborted.is ∙ ap (λ (s : Step). ends s) (e books)) c.aborted.ensures.ok

pub returns-in-BadFrame-clause-ok : goal.returns-in-BadFrame-clause-ok
returns-in-BadFrame-clause-ok c =
    if_ok c.find_fault.result _ _ (λ act e books. ap (λ (row : RecvRow). turn_row (plain_with c.args.end.now books) c.args.lane (shown row)) c.in-BadFrame.is ∙ ap (λ (s : Step). ends s) (e books)) c.find_fault.ensures.ok

pub returns-in-Unexpected-clause-ok : goal.returns-in-Unexpected-clause-ok
returns-in-Unexpected-clause-ok c =
    if_ok c.find_fault-in-Unexpected.result _ _ (λ act e books. ap (λ (row : RecvRow). turn_row (plain_with c.args.end.now books) c.args.lane (shown row)) c.in-Unexpected.is ∙ ap (λ (s : Step). ends s) (e books)) c.find_fault-in-Unexpected.ensures.ok
