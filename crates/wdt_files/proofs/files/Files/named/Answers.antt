use Rattle.wdt_files.proofs.Kept.{named_few}
use Rattle.wdt_files.proofs.files.Files.named.Goals as goal

pub returns-clause-limit : goal.returns-clause-limit
returns-clause-limit c = named_few c.self.inside.slots.items _ _ _ _ _ _ c.self.invariant
