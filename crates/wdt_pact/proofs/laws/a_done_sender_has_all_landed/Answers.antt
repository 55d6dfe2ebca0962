use Rattle.wdt_pact.proofs.Served.{done_finished}
use Rattle.wdt_pact.proofs.Worlds.{is_right}
use Rattle.wdt_pact.proofs.laws.a_done_sender_has_all_landed.Goals as goal

pub returns-clause-finish : goal.returns-clause-finish
returns-clause-finish c = done_finished

pub returns-clause-landed : goal.returns-clause-landed
returns-clause-landed c = λ w l sound finishing within is.
    (is_right c.histories_are_sound.ensures.sound c.a_sender_speaks_in_turn.ensures.hears w l sound finishing within).landed (done_finished w sound finishing is)
