-- Why a run ended early, by what a call below it answered.
use Rattle.wdt_tree.specs.declared.manifest.ManifestFail.{ManifestFail}
use Rattle.wdt_tree.specs.declared.manifest.ManifestFail.TheVariants as checks
use Rattle.wdt_depot.specs.declared.failure.DepotFail.{DepotFail}
use Rattle.wdt_depot.specs.declared.failure.DepotFail.TheVariants as depots
use Rattle.wdt_discover.specs.declared.fail.PlanFail.{PlanFail}
use Rattle.wdt_discover.specs.declared.fail.PlanFail.TheVariants as plans
use Rattle.wdt_source.specs.declared.failure.SourceFail.{SourceFail}
use Rattle.wdt_source.specs.declared.failure.SourceFail.TheVariants as sources
use Rattle.wdt_rehearsal.specs.declared.fail.RehearseFail.{RehearseFail}
use Rattle.wdt_rehearsal.specs.declared.fail.RehearseFail.TheVariants.{Source, Disk, Listing, Plan, NoMemory}

-- a source's failure as one of the run
abbrev pub of_source : SourceFail → RehearseFail
of_source sources.Failed = Source
of_source sources.NoMemory = NoMemory

-- a depot's failure as one of the run
abbrev pub of_depot : DepotFail → RehearseFail
of_depot depots.Failed = Disk
of_depot depots.NoMemory = NoMemory

-- a check's failure as one of the run
abbrev pub of_check : ManifestFail → RehearseFail
of_check checks.NoMemory = NoMemory
of_check other = Listing other

-- a plan's failure as one of the run
abbrev pub of_planning : PlanFail → RehearseFail
of_planning plans.NoMemory = NoMemory
of_planning other = Plan other
