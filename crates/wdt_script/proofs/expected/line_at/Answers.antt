use Rattle.std.proofs.Common.{sym, ◌∙◌, arith}
use Rattle.wdt_script.proofs.Items.{no-item}
use Rattle.wdt_script.proofs.expected.line_at.Goals as goal

pub returns-then-start-bytes-2 : goal.returns-then-start-bytes-2
returns-then-start-bytes-2 c = sym (c.loop-left.invariant ∙ no-item c.args.bytes.now c.loop-left.start c.loop-left.left (omega arith))
