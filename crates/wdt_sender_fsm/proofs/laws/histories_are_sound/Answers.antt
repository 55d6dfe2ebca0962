use Rattle.wdt_sender_fsm.proofs.lemmas.Closed.{stays_closed}
use Rattle.wdt_sender_fsm.proofs.lemmas.Landed.{all_confirmed, has_landed, last_word}
use Rattle.wdt_sender_fsm.proofs.lemmas.Confirmed.{stays_confirmed}
use Rattle.wdt_sender_fsm.proofs.lemmas.Histories.{legal_sound}
use Rattle.wdt_sender_fsm.proofs.lemmas.Placed.{placed_once}
use Rattle.wdt_sender_fsm.proofs.laws.histories_are_sound.Goals as goal

pub returns-clause-sound : goal.returns-clause-sound
returns-clause-sound c = legal_sound

pub returns-clause-confirmed : goal.returns-clause-confirmed
returns-clause-confirmed c = stays_confirmed

pub returns-clause-placed : goal.returns-clause-placed
returns-clause-placed c = placed_once

pub returns-clause-finished : goal.returns-clause-finished
returns-clause-finished c = all_confirmed

pub returns-clause-landed : goal.returns-clause-landed
returns-clause-landed c = has_landed

pub returns-clause-last_word : goal.returns-clause-last_word
returns-clause-last_word c = last_word

pub returns-clause-closed : goal.returns-clause-closed
returns-clause-closed c = stays_closed
