use Rattle.wdt_writer.proofs.Keeping.{dropped_writes}
use Rattle.wdt_writer.proofs.writer.Writer.drop_part.Goals as goal

pub invariant_of-self : goal.invariant_of-self
invariant_of-self c =
    let i = c.self.inside in
    dropped_writes i.files i.unlogged.items i.unlogged_bytes i.parts.items i.last c.keep_landed.new.last c.args.lane.0 c.self.invariant c.keep_landed.ensures
