use Rattle.wdt_receiver_fsm.proofs.Writing.{act_written, codes_keep}
use Rattle.wdt_receiver_fsm.proofs.laws.what_is_written_fits.Goals as goal

pub returns-clause-fits : goal.returns-clause-fits
returns-clause-fits c = λ r l is within tells. act_written r l is within tells

pub returns-clause-code : goal.returns-clause-code
returns-clause-code c = λ r l put step fits small ends. codes_keep r l put step fits small ends
