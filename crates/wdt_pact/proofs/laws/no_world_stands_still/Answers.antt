use Rattle.wdt_pact.proofs.Still.{stands_not}
use Rattle.wdt_pact.proofs.laws.no_world_stands_still.Goals as goal

pub returns : goal.returns
returns c = stands_not
