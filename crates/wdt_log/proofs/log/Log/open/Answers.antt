use Rattle.wdt_log.proofs.Making.{log_lawful, new_log_lawful}
use Rattle.wdt_log.proofs.log.Log.open.Goals as goal

pub of_lawful-requires : goal.of_lawful-requires
of_lawful-requires g c = log_lawful

pub of_lawful-requires-2 : goal.of_lawful-requires-2
of_lawful-requires-2 g c = new_log_lawful
