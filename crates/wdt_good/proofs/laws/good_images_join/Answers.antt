use Rattle.wdt_good.proofs.ForCallers.{join_good, last_covers, last_fits, last_names}
use Rattle.wdt_good.proofs.laws.good_images_join.Goals as goal

pub returns-clause-joined : goal.returns-clause-joined
returns-clause-joined c = join_good

pub returns-clause-fits : goal.returns-clause-fits
returns-clause-fits c = last_fits

pub returns-clause-names : goal.returns-clause-names
returns-clause-names c = last_names

pub returns-clause-covers : goal.returns-clause-covers
returns-clause-covers c = last_covers
