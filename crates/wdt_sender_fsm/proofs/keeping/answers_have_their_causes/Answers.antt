use Rattle.wdt_sender_fsm.proofs.lemmas.Noted.{abort_noted, noted_abort, noted_peer, peer_noted}
use Rattle.wdt_sender_fsm.proofs.lemmas.Outcomes.{done_means, link_means, means_done, means_link, refuses}
use Rattle.wdt_sender_fsm.proofs.lemmas.Refusing.{refuses_rightly}
use Rattle.wdt_sender_fsm.proofs.keeping.answers_have_their_causes.Goals as goal

pub returns-clause-done : goal.returns-clause-done
returns-clause-done c = λ s is. (done_means s is, means_done s is)

pub returns-clause-link : goal.returns-clause-link
returns-clause-link c = λ s is. (link_means s is, means_link s is)

pub returns-clause-exactly : goal.returns-clause-exactly
returns-clause-exactly c = refuses_rightly

pub returns-clause-refused : goal.returns-clause-refused
returns-clause-refused c = refuses

pub returns-clause-peer : goal.returns-clause-peer
returns-clause-peer c = λ s kind is. (peer_noted s kind is, noted_peer s kind is)

pub returns-clause-aborted : goal.returns-clause-aborted
returns-clause-aborted c = λ s code is. (abort_noted s code is, noted_abort s code is)
