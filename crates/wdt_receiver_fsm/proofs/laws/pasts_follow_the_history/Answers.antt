use Rattle.wdt_receiver_fsm.proofs.Batching.{landed_more, landed_same}
use Rattle.wdt_receiver_fsm.specs.ReceiverHistory.{confirm_of-append, end_of-append, past_of-append}
use Rattle.wdt_receiver_fsm.proofs.laws.pasts_follow_the_history.Goals as goal

pub returns-clause-lane : goal.returns-clause-lane
returns-clause-lane c = λ g es l. past_of-append g es l

pub returns-clause-end : goal.returns-clause-end
returns-clause-end c = λ g es. end_of-append g es

pub returns-clause-landed : goal.returns-clause-landed
returns-clause-landed c = λ g l. landed_more g l

pub returns-clause-still : goal.returns-clause-still
returns-clause-still c = λ g e none. landed_same g e none

pub returns-clause-confirm : goal.returns-clause-confirm
returns-clause-confirm c = λ g es q. confirm_of-append g es q
