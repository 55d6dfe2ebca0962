use Rattle.wdt_pact.proofs.RecvBelonging.{recv_belongs}
use Rattle.wdt_pact.proofs.RecvLaw.{recv_keeps}
use Rattle.wdt_pact.proofs.laws.a_receiver_keeps_the_conversation.Goals as goal

pub returns-clause-talks : goal.returns-clause-talks
returns-clause-talks c = λ w l broken talk finishing within belongs fits tells. recv_keeps c.histories_are_sound.ensures.sound w l broken talk finishing within tells belongs fits

pub returns-clause-belongs : goal.returns-clause-belongs
returns-clause-belongs c = λ w l k broken talk within all. recv_belongs w l broken talk within all k
