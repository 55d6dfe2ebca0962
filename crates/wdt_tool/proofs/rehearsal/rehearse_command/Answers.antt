use Rattle.std.proofs.Common.{Vec, ℕ, Global}
use Rattle.wdt_tool.proofs.Rehearsed.{run-fine, run-refuses}
use Rattle.wdt_tool.proofs.rehearsal.rehearse_command.Goals as goal

pub returns-in-Ok-report_lines-clause-refuses : goal.returns-in-Ok-report_lines-clause-refuses
returns-in-Ok-report_lines-clause-refuses g c = run-fine _ _ _ _ _ _ c.rehearse.ensures.refuses c.in-Ok.is

pub returns-clause-refuses : goal.returns-clause-refuses
returns-clause-refuses g c = run-refuses _ (Vec ℕ Global) _ _ _ _ _ _ c.rehearse.ensures.refuses c.in-Err.is c.from.ensures
