use Rattle.wdt_wire.proofs.Histories.{cut-holds, new-holds, take-holds, write-holds}
use Rattle.wdt_wire.proofs.laws.ways_are_of_connections.Goals as goal

pub returns-clause-new : goal.returns-clause-new
returns-clause-new c = new-holds

pub returns-clause-written : goal.returns-clause-written
returns-clause-written c = write-holds

pub returns-clause-taken : goal.returns-clause-taken
returns-clause-taken c = take-holds

pub returns-clause-cut : goal.returns-clause-cut
returns-clause-cut c = cut-holds
