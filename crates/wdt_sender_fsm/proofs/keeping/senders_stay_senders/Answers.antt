use Rattle.wdt_sender_fsm.proofs.lemmas.Runs.{run_legal}
use Rattle.wdt_sender_fsm.proofs.lemmas.Turns.{opens, turn_keeps}
use Rattle.wdt_sender_fsm.proofs.keeping.senders_stay_senders.Goals as goal

pub returns-clause-opens : goal.returns-clause-opens
returns-clause-opens c = opens

pub returns-clause-steps : goal.returns-clause-steps
returns-clause-steps c = turn_keeps

pub returns-clause-legal : goal.returns-clause-legal
returns-clause-legal c = run_legal
