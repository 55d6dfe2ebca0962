use Rattle.std.proofs.Common.{◌≡◌, ◌++◌}
use Rattle.std.specs.List.{flat_map}
use Rattle.wdt_tool.specs.LogLines.{range_line}
use Rattle.wdt_tool.proofs.log_lines.push_spans.Given as goal

abbrev pub invariant-loop-span : goal.invariant-loop-span
invariant-loop-span l = record {
  so_far : l.text.items ++ flat_map range_line l.span-iterator ≡ l.fn.text.items ++ flat_map range_line l.fn.spans;
}
