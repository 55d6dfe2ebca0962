use Rattle.std.proofs.Common.{map}
use Rattle.wdt_ranges.specs.Files.{have_file}
use Rattle.wdt_discover.proofs.lemmas.Counting.{IsTallied}
use Rattle.wdt_discover.proofs.rest.count_rest.Given as goal

abbrev pub invariant-loop-at : goal.invariant-loop-at
invariant-loop-at l = IsTallied (map have_file l.files) l.block l.manifest l.at l.count
