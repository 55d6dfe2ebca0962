use Rattle.std.proofs.Common.{append_assoc}
use Rattle.wdt_report.specs.Lines.{four_lines}
use Rattle.wdt_report.proofs.one_end.four_lines.Goals as goal

pub returns : goal.returns
unfolding four_lines
returns c = rw c.in_ok-text.ensures.ok (simp append_assoc)
