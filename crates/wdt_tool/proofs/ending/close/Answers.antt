use Rattle.wdt_tool.proofs.Got.{got-most}
use Rattle.wdt_tool.proofs.ending.close.Goals as goal

pub returns-clause-line : goal.returns-clause-line
returns-clause-line g c = got-most _ _ _ _ _ _ c.put.ensures.cause c.put.ensures.bytes
