use Rattle.std.proofs.Common.{append_assoc}
use Rattle.wdt_report.specs.Lines.{five_lines}
use Rattle.wdt_report.proofs.one_end.five_lines.Goals as goal

pub returns : goal.returns
unfolding five_lines
returns c = rw c.in_ok-text.ensures.ok (simp append_assoc)
