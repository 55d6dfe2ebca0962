use Rattle.wdt_sender_fsm.proofs.lemmas.Places.{places, turn_confirmed}
use Rattle.wdt_sender_fsm.proofs.keeping.blocks_keep_their_places.Goals as goal

pub returns-clause-places : goal.returns-clause-places
returns-clause-places c = places

pub returns-clause-confirmed : goal.returns-clause-confirmed
returns-clause-confirmed c = turn_confirmed
