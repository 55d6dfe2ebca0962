use Rattle.std.proofs.Common.{◌≡◌, ◌≤◌, ◌-◌, drop, length}
use Rattle.wdt_script.specs.declared.script.TheConstants.{MAX_LINES}
use Rattle.wdt_script.specs.Lines.{lines_of}
use Rattle.wdt_script.specs.Script.{script_behind, script_of, with_events}
use Rattle.wdt_script.proofs.script.read_script.Given as goal

abbrev pub invariant-loop-start : goal.invariant-loop-start
invariant-loop-start l = record {
  reads : script_of l.lanes l.bytes ≡ with_events l.events.items (script_behind l.lanes l.line (lines_of (drop l.start l.bytes)));
  few : l.line ≤ MAX_LINES;
}

abbrev pub decreases-loop-start : goal.decreases-loop-start
decreases-loop-start l = length l.bytes - l.start
