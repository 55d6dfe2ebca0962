use Rattle.std.proofs.Common.{map}
use Rattle.wdt_tree.specs.Listing.{entry_of}
use Rattle.wdt_tree.proofs.lemmas.Scan.{IsScan}
use Rattle.wdt_tree.proofs.manifest.scanned.Given as goal

abbrev pub invariant-loop-listed : goal.invariant-loop-listed
invariant-loop-listed l = IsScan (map entry_of l.raw) l.listed-index l.at l.total l.entries.items
