use Rattle.wdt_good.proofs.ForCallers.{among_covers, among_names}
use Rattle.wdt_good.proofs.laws.what_is_among_files_is_named.Goals as goal

pub returns-clause-names : goal.returns-clause-names
returns-clause-names c = among_names

pub returns-clause-covers : goal.returns-clause-covers
returns-clause-covers c = among_covers
