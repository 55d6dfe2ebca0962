use Rattle.std.specs.Prelude.{option_map}
use Rattle.wdt_depot.specs.Disk.{write_file, wrote}
use Rattle.wdt_depot.proofs.ForCallers.{with_file-other}
use Rattle.wdt_good.specs.Good.{log_path}
use Rattle.wdt_good.proofs.ForCallers.{log_stays, moved_good, write_keeps_reads, write_moves}
use Rattle.wdt_good.proofs.laws.a_write_beside_what_is_covered_is_good.Goals as goal

pub returns-clause-good : goal.returns-clause-good
returns-clause-good c version T forgotten fs end path size offset bytes d log fit sound may = moved_good version T forgotten fs end d (wrote path offset bytes d) log fit (write_moves path size offset bytes fs d may T sound)

pub returns-clause-log : goal.returns-clause-log
returns-clause-log c version fs end path offset bytes d log other = log_stays version fs end d log (wrote path offset bytes d) (with_file-other path log_path (option_map (write_file offset bytes) (d path)) d other)

pub returns-clause-reads : goal.returns-clause-reads
returns-clause-reads c T fs path size offset bytes d may good = write_keeps_reads path size offset bytes fs d may T good

pub returns-clause-moves : goal.returns-clause-moves
returns-clause-moves c T fs path size offset bytes d sound may = write_moves path size offset bytes fs d may T sound
