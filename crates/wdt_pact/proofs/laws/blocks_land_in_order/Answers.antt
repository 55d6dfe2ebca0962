use Rattle.wdt_pact.proofs.Beginning.{lands_in_order}
use Rattle.wdt_pact.proofs.laws.blocks_land_in_order.Goals as goal

pub returns : goal.returns
returns c = lands_in_order
