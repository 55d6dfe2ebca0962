use Rattle.wdt_arrival.proofs.Whole.{finish_whole}
use Rattle.wdt_arrival.proofs.laws.a_finish_is_whole.Goals as goal

pub returns : goal.returns
returns c = finish_whole
