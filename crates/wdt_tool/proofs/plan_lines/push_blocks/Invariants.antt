use Rattle.std.proofs.Common.{◌≡◌, ◌*◌, ◌^◌, ◌++◌, ◌≤◌, take}
use Rattle.std.specs.List.{flat_map}
use Rattle.wdt_tool.specs.PlanLines.{block_line, bytes_of}
use Rattle.wdt_tool.proofs.plan_lines.push_blocks.Given as goal

abbrev pub invariant-loop-block : goal.invariant-loop-block
invariant-loop-block l = record {
  so_far : l.text.items ≡ l.fn.text.items ++ flat_map (block_line l.manifest) (take l.block-index l.blocks);
  sum : l.bytes ≡ bytes_of (take l.block-index l.blocks);
  small : l.bytes ≤ l.block-index * 2 ^ 32;
}
