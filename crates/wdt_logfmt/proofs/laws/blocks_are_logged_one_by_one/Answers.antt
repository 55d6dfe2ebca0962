use Rattle.wdt_logfmt.proofs.Blocks.{entries-append}
use Rattle.wdt_logfmt.proofs.laws.blocks_are_logged_one_by_one.Goals as goal

pub returns : goal.returns
returns c = entries-append
