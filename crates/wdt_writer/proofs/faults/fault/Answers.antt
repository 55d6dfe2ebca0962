use Rattle.wdt_writer.proofs.InTheWay.{within_sound}
use Rattle.wdt_writer.proofs.faults.fault.Goals as goal

pub first_taken-requires-clause-within : goal.first_taken-requires-clause-within
first_taken-requires-clause-within c = within_sound c.args.files.now.known c.args.files.now.named c.args.parts.now c.requires.sound
