use Rattle.wdt_writer.proofs.Keeping.{back_writes}
use Rattle.wdt_writer.proofs.writer.Writer.unland.Goals as goal

pub invariant_of-self : goal.invariant_of-self
invariant_of-self c =
    let i = c.self.inside in
    back_writes i.files i.unlogged.items c.truncate-2.new.self.items i.unlogged_bytes i.parts.items i.last c.in-Some.last c.in-Some-before.stood c.self.invariant c.in-Some.is c.in-Some-before.is c.truncate-2.ensures.items
