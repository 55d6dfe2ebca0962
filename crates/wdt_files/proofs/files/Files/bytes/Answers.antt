use Rattle.wdt_files.proofs.Kept.{bytes_few}
use Rattle.wdt_files.proofs.files.Files.bytes.Goals as goal

pub returns-clause-limit : goal.returns-clause-limit
returns-clause-limit c = bytes_few c.self.inside.slots.items _ _ _ _ _ _ c.self.invariant
