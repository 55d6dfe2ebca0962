use Rattle.std.proofs.Common.{append_assoc}
use Rattle.wdt_tool.proofs.report.report_lines.Goals as goal

pub returns : goal.returns
returns c = rw c.in_ok-text.ensures.ok (simp append_assoc)
