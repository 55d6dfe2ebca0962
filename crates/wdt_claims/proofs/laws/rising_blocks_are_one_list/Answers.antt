use Rattle.wdt_claims.proofs.lemmas.BlockCounts.{rising_once}
use Rattle.wdt_claims.proofs.laws.rising_blocks_are_one_list.Goals as goal

pub returns : goal.returns
returns c = rising_once
