use Rattle.wdt_pact.proofs.Hearing.{send_read_keeps}
use Rattle.wdt_pact.proofs.RecvHearing.{recv_read_keeps}
use Rattle.wdt_pact.proofs.laws.what_is_read_is_understood.Goals as goal

pub returns-clause-sends : goal.returns-clause-sends
returns-clause-sends c = send_read_keeps

pub returns-clause-receives : goal.returns-clause-receives
returns-clause-receives c = recv_read_keeps
