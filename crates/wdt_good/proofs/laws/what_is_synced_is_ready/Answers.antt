use Rattle.wdt_good.proofs.ForCallers.{still_good, still_ready}
use Rattle.wdt_good.proofs.laws.what_is_synced_is_ready.Goals as goal

pub returns-clause-files : goal.returns-clause-files
returns-clause-files c version T fs gs end d i log fit reads still image = still_good version T fs gs end d log fit reads still i image

pub returns-clause-ready : goal.returns-clause-ready
returns-clause-ready c version T fs gs end es d log fit reads still adds = still_ready version T fs gs end d log fit reads still es adds
