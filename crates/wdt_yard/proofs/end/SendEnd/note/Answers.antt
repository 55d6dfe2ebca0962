use Rattle.wdt_yard.proofs.Ends.{end_noted, quiet_connections}
use Rattle.wdt_yard.proofs.end.SendEnd.note.Goals as goal

pub invariant_of-self : goal.invariant_of-self
invariant_of-self c = rw c.note.ensures (end_noted c.args.event (quiet_connections c.args.event c.requires.quiet) c.self.invariant)
