use Rattle.wdt_pact.proofs.Losing.{lost_keeps}
use Rattle.wdt_pact.proofs.laws.a_lost_connection_is_made_again.Goals as goal

pub returns : goal.returns
returns c = lost_keeps c.senders_stay_senders.ensures.steps
