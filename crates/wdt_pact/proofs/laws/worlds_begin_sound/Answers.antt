use Rattle.wdt_pact.proofs.Beginning.{finishing_first, sound_first}
use Rattle.wdt_pact.proofs.laws.worlds_begin_sound.Goals as goal

pub returns-clause-sound : goal.returns-clause-sound
returns-clause-sound c = λ manifest block session log batch n conn some few lawful stamps have.
    sound_first manifest block session log batch n conn (c.senders_stay_senders.ensures.opens manifest block session n some) (c.receivers_stay_receivers.ensures.begins log batch n few) lawful stamps have

pub returns-clause-finishing : goal.returns-clause-finishing
returns-clause-finishing c = finishing_first
