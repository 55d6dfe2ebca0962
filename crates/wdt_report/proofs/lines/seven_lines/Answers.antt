use Rattle.std.proofs.Common.{append_assoc}
use Rattle.wdt_report.specs.Lines.{seven_lines}
use Rattle.wdt_report.proofs.lines.seven_lines.Goals as goal

pub returns : goal.returns
unfolding seven_lines
returns c = rw c.in_ok-text.ensures.ok (simp append_assoc)
