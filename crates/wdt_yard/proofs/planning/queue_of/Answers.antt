use Rattle.std.proofs.Common.{sym, subst}
use Rattle.wdt_claims.specs.Blocks.{AreDistinct}
use Rattle.wdt_claims.proofs.Shared.{rising_distinct}
use Rattle.wdt_yard.proofs.planning.queue_of.Goals as goal

pub of-requires-clause-distinct : goal.of-requires-clause-distinct
of-requires-clause-distinct c = subst AreDistinct (sym c.in-Ok.ensures.items) (rising_distinct c.args.blocks.now c.requires.rising)
