use Rattle.wdt_link.proofs.Flow.{still_ends}
use Rattle.wdt_link.proofs.stream.Stream.fill.Goals as goal

pub invariant_of-self : goal.invariant_of-self
invariant_of-self g c = (c.fill.ensures.within, still_ends _ _ _ _ c.fill.ensures.told c.self.invariant.1)
