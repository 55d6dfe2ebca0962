use Rattle.wdt_funnel.proofs.Says.{goes_on}
use Rattle.wdt_funnel.proofs.laws.a_barrier_goes_on.Goals as goal

pub returns : goal.returns
returns c = goes_on
