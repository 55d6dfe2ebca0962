use Rattle.std.proofs.Common.{◌≡◌, ◌++◌, take}
use Rattle.std.specs.List.{flat_map}
use Rattle.wdt_logfmt.specs.View.{named_files}
use Rattle.wdt_tool.specs.LogLines.{file_lines}
use Rattle.wdt_tool.proofs.log_lines.push_files.Given as goal

abbrev pub invariant-loop-file : goal.invariant-loop-file
invariant-loop-file l = record {
  so_far : l.text.items ≡ l.fn.text.items ++ flat_map file_lines (named_files (take l.file-index l.files));
}
