use Rattle.wdt_receiver_fsm.proofs.Batching.{flush_batched, marks_follow, marks_logged, opened_batched, turn_batched}
use Rattle.wdt_receiver_fsm.proofs.Marking.{landed_named, landed_there}
use Rattle.wdt_receiver_fsm.proofs.laws.batches_add_up.Goals as goal

pub returns-clause-begins : goal.returns-clause-begins
returns-clause-begins c = λ log batch n view some. opened_batched log batch n view some

pub returns-clause-keeps : goal.returns-clause-keeps
returns-clause-keeps c = λ r l put step is can ends. turn_batched r l put step is can ends

pub returns-clause-flushes : goal.returns-clause-flushes
returns-clause-flushes c = λ r is on. flush_batched r is on

pub returns-clause-follows : goal.returns-clause-follows
returns-clause-follows c = λ r is on. marks_follow r is on

pub returns-clause-finished : goal.returns-clause-finished
returns-clause-finished c = λ r is batched come. (is.finished come, marks_logged r batched (is.finished come))

pub returns-clause-named : goal.returns-clause-named
returns-clause-named c = λ files blocks k b is. landed_named files blocks k b is

pub returns-clause-covered : goal.returns-clause-covered
returns-clause-covered c = λ files blocks k b position view is low high. landed_there files blocks k b position view is low high
