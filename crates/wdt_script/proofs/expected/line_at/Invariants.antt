use Rattle.std.proofs.Common.{◌≡◌, drop}
use Rattle.wdt_script.specs.Lines.{item_or_nothing, lines_of}
use Rattle.wdt_script.proofs.expected.line_at.Given as goal

abbrev pub invariant-loop-left : goal.invariant-loop-left
invariant-loop-left l = item_or_nothing (lines_of l.bytes) l.line ≡ item_or_nothing (lines_of (drop l.start l.bytes)) l.left

abbrev pub decreases-loop-left : goal.decreases-loop-left
decreases-loop-left l = l.left
