use Rattle.wdt_logfmt.proofs.Landing.{all_added-append}
use Rattle.wdt_logfmt.proofs.laws.a_batch_may_come_in_parts.Goals as goal

pub returns : goal.returns
returns c = all_added-append
