use Rattle.wdt_yard.proofs.Keeps.{finish_keeps}
use Rattle.wdt_yard.proofs.journal.Journal.finish.Goals as goal

pub invariant_of-self : goal.invariant_of-self
invariant_of-self c = rw (c.push_reserved.ensures.items, c.finish.ensures) (finish_keeps c.args.lane c.self.invariant)
