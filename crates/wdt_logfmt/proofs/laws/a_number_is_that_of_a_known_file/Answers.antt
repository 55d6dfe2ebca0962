use Rattle.wdt_logfmt.proofs.Known.{number_found, number_new}
use Rattle.wdt_logfmt.proofs.laws.a_number_is_that_of_a_known_file.Goals as goal

pub returns : goal.returns
returns c = record { found = λ known path n found. (let r = number_found known path n found in (r.file, r.there, r.path_is)); unknown = number_new }
