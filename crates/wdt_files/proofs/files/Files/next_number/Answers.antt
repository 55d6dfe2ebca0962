use Rattle.wdt_files.proofs.Kept.{free_few}
use Rattle.wdt_files.proofs.files.Files.next_number.Goals as goal

pub returns-clause-limit : goal.returns-clause-limit
returns-clause-limit c = free_few c.self.inside.slots.items _ _ _ _ _ _ c.self.invariant
