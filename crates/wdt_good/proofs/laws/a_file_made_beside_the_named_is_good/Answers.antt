use Rattle.std.proofs.Common.{[], Some}
use Rattle.wdt_depot.specs.Disk.{clean, made}
use Rattle.wdt_depot.proofs.ForCallers.{with_file-other}
use Rattle.wdt_good.specs.Good.{log_path}
use Rattle.wdt_good.proofs.ForCallers.{log_stays, make_keeps_reads, make_moves, moved_good}
use Rattle.wdt_good.proofs.laws.a_file_made_beside_the_named_is_good.Goals as goal

pub returns-clause-good : goal.returns-clause-good
returns-clause-good c version T forgotten fs end path d log fit sound other none = moved_good version T forgotten fs end d (made path d) log fit (make_moves path fs d none T sound other)

pub returns-clause-log : goal.returns-clause-log
returns-clause-log c version fs end path d log other = log_stays version fs end d log (made path d) (with_file-other path log_path (Some (clean [])) d other)

pub returns-clause-reads : goal.returns-clause-reads
returns-clause-reads c T fs path d none good = make_keeps_reads path fs d none T good

pub returns-clause-moves : goal.returns-clause-moves
returns-clause-moves c T fs path d sound other none = make_moves path fs d none T sound other
