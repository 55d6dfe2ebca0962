use Rattle.wdt_receiver_fsm.proofs.RowSteps.{failed_step, over_step, row_step, settled_step, starved_step}
use Rattle.wdt_receiver_fsm.proofs.laws.steps_follow_their_rows.Goals as goal

pub returns-clause-over : goal.returns-clause-over
returns-clause-over c = λ r l put is. over_step r l put is

pub returns-clause-failed : goal.returns-clause-failed
returns-clause-failed c = λ r l put row is fails lives. failed_step r l put row is fails lives

pub returns-clause-starved : goal.returns-clause-starved
returns-clause-starved c = λ r l put mute is going. starved_step r l put mute is going

pub returns-clause-settled : goal.returns-clause-settled
returns-clause-settled c = λ r l put mute is calm. settled_step r l put mute is calm

pub returns-clause-serves : goal.returns-clause-serves
returns-clause-serves c = λ r l put row is sound lives fed. row_step r l put row is sound lives fed
