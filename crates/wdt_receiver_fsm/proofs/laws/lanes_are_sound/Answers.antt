use Rattle.wdt_receiver_fsm.proofs.Tellers.{tellers_tell}
use Rattle.wdt_receiver_fsm.proofs.Sound.{closed_is_out, legal_sound}
use Rattle.wdt_receiver_fsm.proofs.laws.lanes_are_sound.Goals as goal

pub returns-clause-sound : goal.returns-clause-sound
returns-clause-sound c = λ t g l legal. legal_sound t g l legal

pub returns-clause-closed : goal.returns-clause-closed
returns-clause-closed c = λ r l is within closed. closed_is_out r l is within closed

pub returns-clause-tells : goal.returns-clause-tells
returns-clause-tells c = λ t g l q legal. tellers_tell t g l q legal
