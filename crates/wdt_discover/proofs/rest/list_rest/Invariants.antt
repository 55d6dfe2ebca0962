use Rattle.std.proofs.Common.{map}
use Rattle.wdt_ranges.specs.Files.{have_file}
use Rattle.wdt_discover.proofs.lemmas.Counting.{IsWalked}
use Rattle.wdt_discover.proofs.rest.list_rest.Given as goal

abbrev pub invariant-loop-at : goal.invariant-loop-at
invariant-loop-at l = IsWalked (map have_file l.files) l.block l.manifest l.at l.blocks.items
