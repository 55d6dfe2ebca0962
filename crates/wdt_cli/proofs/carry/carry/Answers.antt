use Rattle.wdt_sending.proofs.ForCallers.{none_received, none_sent}
use Rattle.wdt_cli.proofs.carry.carry.Goals as goal

pub returns-in-None-clause-sender : goal.returns-in-None-clause-sender
returns-in-None-clause-sender g c = none_sent c.unrun.result.sender.items c.unrun.ensures.sender

pub returns-in-None-clause-receiver : goal.returns-in-None-clause-receiver
returns-in-None-clause-receiver g c = none_received c.unrun.result.receiver.items c.unrun.ensures.receiver
