use Rattle.wdt_yard.proofs.Keeps.{quiet_keeps}
use Rattle.wdt_yard.proofs.journal.Journal.note.Goals as goal

pub invariant_of-self : goal.invariant_of-self
invariant_of-self c = rw c.push_reserved.ensures.items (quiet_keeps c.args.event c.requires.quiet c.self.invariant)
