-- Why a command ended early, by what a call below it answered.
use Rattle.std.specs.Prelude.{Option, Some, None}
use Rattle.wdt_tree.specs.declared.manifest.ManifestFail.{ManifestFail}
use Rattle.wdt_tree.specs.declared.manifest.ManifestFail.TheVariants as checks
use Rattle.wdt_source.specs.declared.failure.SourceFail.{SourceFail}
use Rattle.wdt_source.specs.declared.failure.SourceFail.TheVariants as sources
use Rattle.wdt_depot.specs.declared.failure.DepotFail.{DepotFail}
use Rattle.wdt_depot.specs.declared.failure.DepotFail.TheVariants as depots
use Rattle.wdt_logfmt.specs.declared.fails.ReadLogFail.{ReadLogFail}
use Rattle.wdt_logfmt.specs.declared.fails.ReadLogFail.TheVariants as logs
use Rattle.wdt_discover.specs.declared.fail.PlanFail.{PlanFail}
use Rattle.wdt_discover.specs.declared.fail.PlanFail.TheVariants as plans
use Rattle.wdt_rehearsal.specs.declared.fail.RehearseFail.{RehearseFail}
use Rattle.wdt_rehearsal.specs.declared.fail.RehearseFail.TheVariants as runs
use Rattle.wdt_sender_fsm.specs.declared.answers.RefusedKind.{RefusedKind}
use Rattle.wdt_sender_fsm.specs.declared.answers.RefusedKind.TheVariants.{BadPath, Reserved, Twice, TooMany, TooLarge, TooManyBlocks, Stale, BadLog}
use Rattle.wdt_tool.specs.declared.fail.CommandFail.{CommandFail}
use Rattle.wdt_tool.specs.declared.fail.CommandFail.TheVariants.{Source, Disk, Refused, NoMemory}

-- for what a check refuses, if not for want of memory
abbrev pub check_kind : ManifestFail → Option RefusedKind
check_kind (checks.TooMany count) = Some (TooMany count)
check_kind (checks.BadPath at) = Some (BadPath at)
check_kind (checks.Reserved at) = Some (Reserved at)
check_kind (checks.Twice at) = Some (Twice at)
check_kind (checks.TooLarge at) = Some (TooLarge at)
check_kind checks.NoMemory = None

-- for what a tree isn't planned, if not for want of memory
abbrev pub plan_kind : PlanFail → Option RefusedKind
plan_kind (plans.Stale path logged found) = Some (Stale path logged found)
plan_kind (plans.TooManyBlocks count) = Some (TooManyBlocks count)
plan_kind plans.NoMemory = None

-- for what a log isn't read, if not for want of memory
abbrev pub log_kind : ReadLogFail → Option RefusedKind
log_kind (logs.BadLog at) = Some (BadLog at)
log_kind logs.NoMemory = None

-- a refusal, or want of memory
abbrev pub refused_for : Option RefusedKind → CommandFail
refused_for (Some kind) = Refused kind
refused_for None = NoMemory

-- a source's failure as one of the command
abbrev pub of_source : SourceFail → CommandFail
of_source sources.Failed = Source
of_source sources.NoMemory = NoMemory

-- a depot's failure as one of the command
abbrev pub of_depot : DepotFail → CommandFail
of_depot depots.Failed = Disk
of_depot depots.NoMemory = NoMemory

-- a check's failure as one of the command
abbrev pub of_check : ManifestFail → CommandFail
of_check fail = refused_for (check_kind fail)

-- a plan's failure as one of the command
abbrev pub of_planning : PlanFail → CommandFail
of_planning fail = refused_for (plan_kind fail)

-- a log's failure as one of the command
abbrev pub of_reading : ReadLogFail → CommandFail
of_reading fail = refused_for (log_kind fail)

-- a rehearsal's failure as one of the command
abbrev pub of_rehearsing : RehearseFail → CommandFail
of_rehearsing runs.Source = Source
of_rehearsing runs.Disk = Disk
of_rehearsing (runs.Listing fail) = of_check fail
of_rehearsing (runs.Plan fail) = of_planning fail
of_rehearsing runs.NoMemory = NoMemory
