-- The lines of a command that is done, and what it leaves.
use Rattle.std.specs.Prelude.{◌≡◌, List, ◌++◌, ℕ, Option, Some, None}
use Rattle.wdt_tree.specs.declared.entry.Entry.{Entry}
use Rattle.wdt_depot.specs.Moments.{Told}
use Rattle.wdt_rehearsal.specs.declared.report.Report.{Report}
use Rattle.wdt_rehearsal.specs.Reports.{IsReportFor}
use Rattle.wdt_words.specs.declared.command.Command.{Command}
use Rattle.wdt_words.specs.declared.command.Command.TheVariants.{Rehearse, Plan, Log}
use Rattle.wdt_tool.specs.declared.status.Status.{Status}
use Rattle.wdt_tool.specs.declared.status.Status.TheVariants.{Done, OutFault}
use Rattle.wdt_tool.specs.Lines.{last_line, report_lines, Got, GotMost, PrintsLine}
use Rattle.wdt_tool.specs.Plans.{IsPlan}
use Rattle.wdt_tool.specs.Stored.{IsShown}

-- the lines are those of a command: the report of the listing's tree, the plan of the listing against the
-- destination's log, or that log
abbrev pub IsTextOf : Command → Option (List Entry) → Option Told → List ℕ → Type 0
IsTextOf Rehearse listing told text = (report : Report) × IsReportFor listing report × (text ≡ report_lines report)
IsTextOf (Plan block) listing told text = IsPlan block listing told text
IsTextOf Log listing told text = IsShown told text

-- no words but a command's have such a text
abbrev pub IsTextFor : Option Command → Option (List Entry) → Option Told → List ℕ → Type 0
IsTextFor None listing told text = ⊥
IsTextFor (Some command) listing told text = IsTextOf command listing told text

-- What the sink got behind each status: the command's lines and the last one where it is done, and a front
-- of them where the sink failed, so that all else went well; behind the others the last line alone.
abbrev pub Prints : Option Command → Option (List Entry) → Option Told → Status → ℕ → ℕ → Option (List ℕ) → Option (List ℕ) → Type 0
Prints command listing told Done before after old new = (lines : List ℕ) × IsTextFor command listing told lines × Got (lines ++ last_line Done) old new
Prints command listing told OutFault before after old new = (lines : List ℕ) × IsTextFor command listing told lines × GotMost (lines ++ last_line Done) before after old new
Prints command listing told status before after old new = PrintsLine status before after old new
