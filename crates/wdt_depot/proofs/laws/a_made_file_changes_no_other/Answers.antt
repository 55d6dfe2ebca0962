use Rattle.std.proofs.Common.{Some, []}
use Rattle.wdt_depot.specs.Disk.{clean}
use Rattle.wdt_depot.proofs.Rewriting.{change_back}
use Rattle.wdt_depot.proofs.laws.a_made_file_changes_no_other.Goals as goal

pub returns : goal.returns
returns c path d i = change_back path (Some (clean [])) d i
