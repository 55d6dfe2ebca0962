use Rattle.wdt_sender_fsm.proofs.lemmas.Claimed.{claims_length, claims_at, claims_none, claims_greet, claims_claim, claims_sent, claims_global, claims_finish, claims_stay}
use Rattle.wdt_sender_fsm.proofs.laws.claims_follow_the_history.Goals as goal

pub returns-clause-lanes : goal.returns-clause-lanes
returns-clause-lanes c = claims_length

pub returns-clause-at : goal.returns-clause-at
returns-clause-at c = claims_at

pub returns-clause-none : goal.returns-clause-none
returns-clause-none c = claims_none

pub returns-clause-greet : goal.returns-clause-greet
returns-clause-greet c = claims_greet

pub returns-clause-claim : goal.returns-clause-claim
returns-clause-claim c = claims_claim

pub returns-clause-sent : goal.returns-clause-sent
returns-clause-sent c = claims_sent

pub returns-clause-global : goal.returns-clause-global
returns-clause-global c = claims_global

pub returns-clause-finish : goal.returns-clause-finish
returns-clause-finish c = claims_finish

pub returns-clause-others : goal.returns-clause-others
returns-clause-others c = claims_stay
