use Rattle.wdt_script.proofs.Spelt.{each-read}
use Rattle.wdt_script.proofs.laws.each_event_has_a_line.Goals as goal

pub returns : goal.returns
returns c = each-read
