use Rattle.wdt_sender_fsm.proofs.lemmas.Stopping.{turn_right}
use Rattle.wdt_sender_fsm.proofs.keeping.steps_answer_rightly.Goals as goal

pub returns-clause-stops : goal.returns-clause-stops
returns-clause-stops c = λ s l input is within fit. (turn_right s l input is within fit).stop

pub returns-clause-follows : goal.returns-clause-follows
returns-clause-follows c = λ s l input is within fit. (turn_right s l input is within fit).follows

pub returns-clause-fits : goal.returns-clause-fits
returns-clause-fits c = λ s l input is lawful within fit. (turn_right s l input is within fit).fits lawful
