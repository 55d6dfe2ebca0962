use Rattle.wdt_pact.proofs.Connecting.{accept_keeps, cut_keeps}
use Rattle.wdt_pact.proofs.laws.connections_are_cut_and_taken.Goals as goal

pub returns-clause-cut : goal.returns-clause-cut
returns-clause-cut c = cut_keeps

pub returns-clause-taken : goal.returns-clause-taken
returns-clause-taken c = accept_keeps
