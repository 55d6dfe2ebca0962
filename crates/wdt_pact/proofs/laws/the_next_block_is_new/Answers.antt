use Rattle.wdt_pact.proofs.NextBlocks.{next_apart, next_missing}
use Rattle.wdt_pact.proofs.laws.the_next_block_is_new.Goals as goal

pub returns-clause-apart : goal.returns-clause-apart
returns-clause-apart c = λ w l h s within here holds. next_apart c.blocks_are_apart.ensures.positions c.blocks_are_apart.ensures.planned c.blocks_are_apart.ensures.once c.blocks_are_apart.ensures.by_one c.blocks_are_apart.ensures.empties c.the_plan_is_the_rest.ensures w s l h within here holds

pub returns-clause-missing : goal.returns-clause-missing
returns-clause-missing c = λ w l h s f within here holds. next_missing c.blocks_are_apart.ensures.positions c.blocks_are_apart.ensures.planned c.blocks_are_apart.ensures.once c.blocks_are_apart.ensures.by_one c.blocks_are_apart.ensures.empties c.the_plan_is_the_rest.ensures w s l h within here holds f
