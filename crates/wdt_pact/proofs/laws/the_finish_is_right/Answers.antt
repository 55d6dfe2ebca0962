use Rattle.wdt_pact.proofs.Finishing.{all_landed, no_wait}
use Rattle.wdt_pact.proofs.laws.the_finish_is_right.Goals as goal

pub returns-clause-empty : goal.returns-clause-empty
returns-clause-empty c = no_wait c.histories_are_sound.ensures.sound

pub returns-clause-landed : goal.returns-clause-landed
returns-clause-landed c = λ w l k talk finishing within here sized word sound ready. all_landed c.histories_are_sound.ensures.sound w l talk finishing within here sized word sound ready k
