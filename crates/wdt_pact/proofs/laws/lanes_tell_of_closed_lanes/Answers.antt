use Rattle.wdt_pact.proofs.ToldLanes.{tells_closed, told_known}
use Rattle.wdt_pact.proofs.laws.lanes_tell_of_closed_lanes.Goals as goal

pub returns-clause-closed : goal.returns-clause-closed
returns-clause-closed c = λ w l q talk. tells_closed w.receiver l q talk.receiver

pub returns-clause-known : goal.returns-clause-known
returns-clause-known c = λ w l q talk. told_known w.receiver l q talk.receiver
