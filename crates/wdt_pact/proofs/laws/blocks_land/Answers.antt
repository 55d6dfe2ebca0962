use Rattle.wdt_pact.proofs.Landing.{land_keeps}
use Rattle.wdt_pact.proofs.Taking.{recv_take_keeps}
use Rattle.wdt_pact.proofs.laws.blocks_land.Goals as goal

pub returns-clause-taken : goal.returns-clause-taken
returns-clause-taken c = recv_take_keeps

pub returns-clause-landed : goal.returns-clause-landed
returns-clause-landed c = λ w l n b talk within here sound holds last begun. land_keeps c.receivers_stay_receivers.ensures.keeps w l n talk within here sound holds last b begun
