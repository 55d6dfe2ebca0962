use Rattle.std.proofs.Common.{◌≡◌}
use Rattle.wdt_sender_fsm.specs.Chunks.{are_same_spans}
use Rattle.wdt_sender_fsm.proofs.comparing.are_same_spans.Given as goal

abbrev pub invariant-loop-span : goal.invariant-loop-span
invariant-loop-span l = are_same_spans l.fn.first l.fn.later ≡ are_same_spans l.span-iterator l.later
