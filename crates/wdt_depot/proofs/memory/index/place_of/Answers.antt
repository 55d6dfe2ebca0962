use Rattle.std.proofs.Common.{rules}
use Rattle.wdt_depot.specs.View.{index_of}
use Rattle.wdt_depot.proofs.memory.index.place_of.Goals as goal

pub returns : goal.returns
unfolding index_of
returns c = search rules
