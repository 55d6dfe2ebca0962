use Rattle.wdt_good.proofs.ForCallers.{keeps_more, kept_since, reads_good, still_on, swept_more, sync_keeps, sync_still}
use Rattle.wdt_good.proofs.laws.a_sync_beside_the_log_keeps_all.Goals as goal

pub returns-clause-keeps : goal.returns-clause-keeps
returns-clause-keeps c = sync_keeps

pub returns-clause-still : goal.returns-clause-still
returns-clause-still c = sync_still

pub returns-clause-again : goal.returns-clause-again
returns-clause-again c = keeps_more

pub returns-clause-stays : goal.returns-clause-stays
returns-clause-stays c path d e keeps still = still_on d e path keeps still

pub returns-clause-more : goal.returns-clause-more
returns-clause-more c = swept_more

pub returns-clause-reads : goal.returns-clause-reads
returns-clause-reads c = reads_good

pub returns-clause-good : goal.returns-clause-good
returns-clause-good c = kept_since
