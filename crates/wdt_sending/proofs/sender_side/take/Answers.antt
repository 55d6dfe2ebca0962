use Rattle.std.proofs.Common.{[], sym, subst}
use Rattle.wdt_sender_fsm.specs.Legal.{IsLegal-none}
use Rattle.wdt_yard.specs.Turns.{IsLegalOfSome}
use Rattle.wdt_sending.proofs.sender_side.take.Goals as goal

pub returns-clause-legal : goal.returns-clause-legal
returns-clause-legal g c =
    let none : IsLegalOfSome [] = record { lanes = 0; planned = []; legal = IsLegal-none 0 [] } in
    subst IsLegalOfSome (sym c.new.ensures.items) none
