use Rattle.wdt_good.proofs.ForCallers.{good_covers, good_fits, good_names}
use Rattle.wdt_good.proofs.laws.what_is_good_keeps_what_was_logged.Goals as goal

pub returns-clause-fits : goal.returns-clause-fits
returns-clause-fits c = good_fits

pub returns-clause-names : goal.returns-clause-names
returns-clause-names c T forgotten d e path all remembered logged = good_names T forgotten d e all path remembered logged

pub returns-clause-covers : goal.returns-clause-covers
returns-clause-covers c T forgotten d e path k all remembered logged = good_covers T forgotten d e all path k remembered logged
