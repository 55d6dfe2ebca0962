use Rattle.wdt_good.proofs.ForCallers.{fit_good}
use Rattle.wdt_good.proofs.laws.what_fits_is_good.Goals as goal

pub returns : goal.returns
returns c = fit_good
