use Rattle.wdt_pact.proofs.Moving.{lane_holds, lane_moves}
use Rattle.wdt_pact.proofs.laws.one_end_can_move.Goals as goal

pub returns-clause-holds : goal.returns-clause-holds
returns-clause-holds c = lane_holds

pub returns-clause-moves : goal.returns-clause-moves
returns-clause-moves c = lane_moves
