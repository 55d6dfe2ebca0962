use Rattle.wdt_pact.proofs.Bytes.{reads_down, reads_up}
use Rattle.wdt_pact.proofs.laws.what_is_read_was_written.Goals as goal

pub returns-clause-up : goal.returns-clause-up
returns-clause-up c = reads_up

pub returns-clause-down : goal.returns-clause-down
returns-clause-down c = reads_down
