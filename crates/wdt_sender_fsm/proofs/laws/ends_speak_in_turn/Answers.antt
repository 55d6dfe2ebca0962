use Rattle.std.specs.Prelude.{[], ◌∷◌, ◌++◌}
use Rattle.wdt_sender_fsm.specs.Phases.{down, up}
use Rattle.wdt_sender_fsm.proofs.lemmas.Phases.{one_talker}
use Rattle.wdt_sender_fsm.proofs.lemmas.Talk.{says, hears, turned, turned_talker}
use Rattle.wdt_sender_fsm.proofs.laws.ends_speak_in_turn.Goals as goal

pub returns-clause-one_talker : goal.returns-clause-one_talker
returns-clause-one_talker c = one_talker

pub returns-clause-says_down : goal.returns-clause-says_down
returns-clause-says_down c = says down up one_talker

pub returns-clause-says_up : goal.returns-clause-says_up
returns-clause-says_up c = λ s r t ds us f a e. turned up down t s (us ++ f ∷ []) ds (says up down (turned_talker down up one_talker) r s t us ds f (turned down up s r ds us a) e)

pub returns-clause-hears_down : goal.returns-clause-hears_down
returns-clause-hears_down c = hears down up

pub returns-clause-hears_up : goal.returns-clause-hears_up
returns-clause-hears_up c = λ s r ds us f a. let h = hears up down r s us ds f (turned down up s r ds (f ∷ us) a) in (h.0, h.1, turned up down r h.0 us ds h.2)
