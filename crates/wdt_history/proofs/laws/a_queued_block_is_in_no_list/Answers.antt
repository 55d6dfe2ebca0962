use Rattle.wdt_history.proofs.Standing.{queued_where}
use Rattle.wdt_history.proofs.laws.a_queued_block_is_in_no_list.Goals as goal

pub returns : goal.returns
returns c = queued_where
