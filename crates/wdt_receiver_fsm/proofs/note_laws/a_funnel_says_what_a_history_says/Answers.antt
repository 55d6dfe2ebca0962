use Rattle.wdt_receiver_fsm.proofs.Words.{ready_of, says_of, untold_of}
use Rattle.wdt_receiver_fsm.proofs.note_laws.a_funnel_says_what_a_history_says.Goals as goal

pub returns-clause-idle : goal.returns-clause-idle
returns-clause-idle c = λ g l. (says_of g).idle l

pub returns-clause-closed : goal.returns-clause-closed
returns-clause-closed c = λ g l. (says_of g).closed l

pub returns-clause-confirmed : goal.returns-clause-confirmed
returns-clause-confirmed c = λ g k lt. (says_of g).heard k lt

pub returns-clause-untold : goal.returns-clause-untold
returns-clause-untold c = λ g l k lt. untold_of g l k lt

pub returns-clause-ready : goal.returns-clause-ready
returns-clause-ready c = λ n g few. ready_of n g few
