use Rattle.wdt_pact.proofs.Beginning.{receives_named, sends_named}
use Rattle.wdt_pact.proofs.laws.what_is_read_may_come.Goals as goal

pub returns-clause-receives : goal.returns-clause-receives
returns-clause-receives c = receives_named

pub returns-clause-sends : goal.returns-clause-sends
returns-clause-sends c = sends_named c.a_sender_speaks_in_turn.ensures.hears
