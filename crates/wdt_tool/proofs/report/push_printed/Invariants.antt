use Rattle.std.proofs.Common.{◌≡◌, ◌++◌, take}
use Rattle.wdt_tool.specs.Lines.{printed}
use Rattle.wdt_tool.proofs.report.push_printed.Given as goal

abbrev pub invariant-loop-byte : goal.invariant-loop-byte
invariant-loop-byte l = record {
  so_far : l.line.items ≡ l.fn.line.items ++ printed (take l.byte-index l.path);
}
