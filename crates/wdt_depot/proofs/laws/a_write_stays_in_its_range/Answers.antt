use Rattle.wdt_depot.proofs.Rewriting.{write_back, write_reads}
use Rattle.wdt_depot.proofs.laws.a_write_stays_in_its_range.Goals as goal

pub returns-clause-reads : goal.returns-clause-reads
returns-clause-reads c = write_reads

pub returns-clause-images : goal.returns-clause-images
returns-clause-images c = write_back
