use Rattle.wdt_logfmt.proofs.Landing.{entry_leaves, entry_touches}
use Rattle.wdt_logfmt.proofs.laws.an_entry_touches_its_file.Goals as goal

pub returns : goal.returns
returns c = record { touches = entry_touches; leaves = entry_leaves }
