use Rattle.std.proofs.Common.{subst}
use Rattle.wdt_sender_fsm.specs.Sender.{IsSender}
use Rattle.wdt_yard.proofs.yard.Yard.close.Goals as goal

pub returns-clause-peer : goal.returns-clause-peer
returns-clause-peer c = λ kind. c.answers_have_their_causes.ensures.peer c.args.self kind (subst IsSender c.self.view_is c.self.invariant.sender)

pub returns-clause-aborted : goal.returns-clause-aborted
returns-clause-aborted c = λ code. c.answers_have_their_causes.ensures.aborted c.args.self code (subst IsSender c.self.view_is c.self.invariant.sender)
