use Rattle.wdt_funnel.specs.Barrier.{barrier_of}
use Rattle.wdt_funnel.proofs.Says.{ready_of, says_of, untold_of}
use Rattle.wdt_funnel.proofs.laws.a_barrier_says_what_happened.Goals as goal

pub returns-clause-idle : goal.returns-clause-idle
returns-clause-idle c = λ lanes history l few on. (says_of lanes history few on).idle l

pub returns-clause-closed : goal.returns-clause-closed
returns-clause-closed c = λ lanes history l few on. (says_of lanes history few on).closed l

pub returns-clause-heard : goal.returns-clause-heard
returns-clause-heard c = λ lanes history l few on. (says_of lanes history few on).heard l

pub returns-clause-named : goal.returns-clause-named
returns-clause-named c = λ lanes history l k few on. (says_of lanes history few on).named l k

pub returns-clause-telling : goal.returns-clause-telling
returns-clause-telling c = λ lanes history l k few on. (says_of lanes history few on).telling l k

pub returns-clause-untold : goal.returns-clause-untold
returns-clause-untold c = λ lanes history l k few on. untold_of history (barrier_of lanes history) l k (says_of lanes history few on)

pub returns-clause-ready : goal.returns-clause-ready
returns-clause-ready c = λ lanes history few on. ready_of lanes history few on
