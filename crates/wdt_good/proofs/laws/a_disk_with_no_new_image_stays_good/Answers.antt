use Rattle.wdt_good.proofs.ForCallers.{fewer_covers, fewer_fit, fewer_good, fewer_names, fewer_ready, log_again}
use Rattle.wdt_good.proofs.laws.a_disk_with_no_new_image_stays_good.Goals as goal

pub returns-clause-good : goal.returns-clause-good
returns-clause-good c = fewer_good

pub returns-clause-fits : goal.returns-clause-fits
returns-clause-fits c = fewer_fit

pub returns-clause-ready : goal.returns-clause-ready
returns-clause-ready c = fewer_ready

pub returns-clause-names : goal.returns-clause-names
returns-clause-names c d e path has logged = fewer_names d e has path logged

pub returns-clause-covers : goal.returns-clause-covers
returns-clause-covers c d e path k has logged = fewer_covers d e has path k logged

pub returns-clause-log : goal.returns-clause-log
returns-clause-log c version fs end d e has sound synced log = log_again version fs end d log e has sound synced
