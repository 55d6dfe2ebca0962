use Rattle.wdt_receiver_fsm.proofs.Failing.{turn_follows}
use Rattle.wdt_receiver_fsm.proofs.RowSteps.{misspeaks_step, short_told}
use Rattle.wdt_receiver_fsm.proofs.laws.failures_have_causes.Goals as goal

pub returns-clause-follows : goal.returns-clause-follows
returns-clause-follows c = λ r l put step ends. turn_follows r l put step ends

pub returns-clause-told : goal.returns-clause-told
returns-clause-told c = λ r l put kind m. misspeaks_step r l put kind m

pub returns-clause-short : goal.returns-clause-short
returns-clause-short c = λ r l put kind step short ends. short_told r l put kind step short ends
