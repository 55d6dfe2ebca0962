use Rattle.wdt_sender_fsm.proofs.lemmas.Heads.{takes_head}
use Rattle.wdt_sender_fsm.proofs.lemmas.Queue.{queue_rises, takes_least}
use Rattle.wdt_sender_fsm.proofs.laws.a_lane_takes_the_least_block.Goals as goal

pub returns-clause-rising : goal.returns-clause-rising
returns-clause-rising c = queue_rises

pub returns-clause-head : goal.returns-clause-head
returns-clause-head c = takes_head

pub returns-clause-least : goal.returns-clause-least
returns-clause-least c = takes_least
