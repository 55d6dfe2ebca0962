use Rattle.wdt_script.specs.Lines.{lines_of}
use Rattle.wdt_script.proofs.FirstBad.{all-read, first-bad}
use Rattle.wdt_script.proofs.laws.the_first_bad_line_is_named.Goals as goal

pub returns-clause-bad : goal.returns-clause-bad
returns-clause-bad c lanes bytes n refused = first-bad lanes (lines_of bytes) n refused

pub returns-clause-read : goal.returns-clause-read
returns-clause-read c lanes bytes events read = all-read lanes 0 (lines_of bytes) events read
